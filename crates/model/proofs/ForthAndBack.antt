-- The two calls of LAPACK's lists turn back whatever they accept, as specs/ForthAndBack.antt says it. Assumes nothing.
use Rattle.std.specs.Prelude.{ℤ, pos, Result, Ok, Err}
use mathlib.Core.Path.{◌≡◌, refl, sym, ◌∙◌, ap}
use mathlib.Core.Bool.{true, false, not}
use mathlib.Core.List.{List}
use Prim.Native.Nat.{ℕ, ◌≤◌}
use native.Mathlib.Omega.{arith}
use borrow.Author.Tests.{eq-eqb, le-leb, eqb-true, leb-true}
use lib.Dec.{leb, eqb}
use lib.ListN.{length}
use Rattle.model.specs.Sizes.{most_columns}
use Rattle.model.specs.Matrix.{naturals, tabulate}
use Rattle.model.specs.Answer.{past_check, accepted, refuse_if, or_else, turned_away, Check}
use Rattle.model.specs.Inertia.{check_bytes}
use Rattle.model.specs.Solve.{check_order, order_sound}
use Rattle.model.specs.Lapack.{integers, three_lengths, sizes_check, to_check, Listing, list_of, listed_after, Listed, to_lapack_of}
use Rattle.model.specs.Lapack.{from_check, Arranged, arranged_of, read_after, Read, from_lapack_of}
use Rattle.model.specs.ForthAndBack.{ForthAndBack, BackAndForth}
use Rattle.model.specs.declared.Refusal.{Refusal}
use Rattle.model.specs.declared.Refusal.TheVariants.{Shape, BufferLength}
use Rattle.model.proofs.Cases.{no, and_left, and_right}
use Rattle.model.proofs.Tabulated.{length-tabulate_from, get_d_tabulate, is-tabulate}
use Rattle.model.proofs.Numbered.{refused-not}
use Rattle.model.proofs.Entry.{first-sound, second-sound, not-refused}
use Rattle.model.proofs.Order.{tabulated-order, own-places}
use Rattle.model.proofs.Bytes.{tabulated-bytes}
use Rattle.model.proofs.Forth.{sound-lists, forth-back}
use Rattle.model.proofs.Back.{Fine, read-fine, back-forth}

-- ---- sizes

-- the sizes that both calls check
pub record Sizes (ncol a b c : ℕ) : Type 0 where
  pub few : ncol ≤ most_columns
  pub first : a ≡ ncol
  pub second : b ≡ ncol
  pub third : c ≡ ncol

pub sizes : (ncol a b c : ℕ) → sizes_check ncol a b c ≡ Ok tt → Sizes ncol a b c
sizes ncol a b c h =
    let all : three_lengths ncol a b c ≡ true
    = not-refused (three_lengths ncol a b c) BufferLength (second-sound (refuse_if (not (leb ncol most_columns)) Shape) _ h) in
    record {
      few = leb-true ncol most_columns (not-refused (leb ncol most_columns) Shape (first-sound (refuse_if (not (leb ncol most_columns)) Shape) _ h));
      first = eqb-true a ncol (search and_left);
      second = eqb-true b ncol (search (and_left, and_right));
      third = eqb-true c ncol (search (and_left, and_right));
    }

sizes-pass : (ncol a b c : ℕ) → Sizes ncol a b c → sizes_check ncol a b c ≡ Ok tt
sizes-pass ncol a b c w = rw (le-leb ncol most_columns w.few, eq-eqb a ncol w.first, eq-eqb b ncol w.second, eq-eqb c ncol w.third) refl

-- ---- to LAPACK

-- a call that is accepted passed its check, and its walk ended well
record ToAccepted (ncol : ℕ) (order blocks : List ℕ) (list : List ℤ) : Type 0 where
  made : Listing
  check : to_check ncol order blocks list ≡ Ok tt
  walk : list_of ncol (naturals order) (naturals blocks) ≡ Ok made
  left : (to_lapack_of ncol order blocks list).list ≡ tabulate ncol made.list

to-accepted : (ncol : ℕ) (order blocks : List ℕ) (list : List ℤ)
    → (to_lapack_of ncol order blocks list).answer ≡ accepted tt → ToAccepted ncol order blocks list
unfolding to_lapack_of
to-accepted ncol order blocks list e = by-both (to_check ncol order blocks list) refl (list_of ncol (naturals order) (naturals blocks)) refl
  where
    left_by : Check → Result Listing Refusal → Listed
    left_by c r = listed_after ncol (past_check c r) list

    walked : Result Listing Refusal
    walked = list_of ncol (naturals order) (naturals blocks)

    by-both : (c : Check) → to_check ncol order blocks list ≡ c → (r : Result Listing Refusal) → walked ≡ r → ToAccepted ncol order blocks list
    by-both (Err why) h r k = absurd (refused-not why tt _ (ap (λ (c : Check). (left_by c walked).answer) h) e)
    by-both (Ok u) h (Err why) k =
        absurd (refused-not why tt _ (ap (λ (c : Check). (left_by c walked).answer) h ∙ ap (λ (x : Result Listing Refusal). (left_by (Ok u) x).answer) k) e)
    by-both (Ok u) h (Ok f) k = record {
      made = f;
      check = h;
      walk = k;
      left = ap (λ (c : Check). (left_by c walked).list) h ∙ ap (λ (x : Result Listing Refusal). (left_by (Ok u) x).list) k;
    }

-- its check in parts
pub record ToChecked (ncol : ℕ) (order blocks : List ℕ) (list : List ℤ) : Type 0 where
  pub sizes : Sizes ncol (length order) (length blocks) (length list)
  pub rows : check_order ncol (naturals order) ≡ Ok tt
  pub bytes : check_bytes blocks ≡ Ok tt

pub to-checked : (ncol : ℕ) (order blocks : List ℕ) (list : List ℤ) → to_check ncol order blocks list ≡ Ok tt → ToChecked ncol order blocks list
unfolding to_check
to-checked ncol order blocks list h =
    let sized = sizes_check ncol (length order) (length blocks) (length list) in
    let rest : or_else (check_order ncol (naturals order)) (check_bytes blocks) ≡ Ok tt = second-sound sized _ h in
    record {
      sizes = sizes ncol (length order) (length blocks) (length list) (first-sound sized _ h);
      rows = first-sound (check_order ncol (naturals order)) (check_bytes blocks) rest;
      bytes = second-sound (check_order ncol (naturals order)) (check_bytes blocks) rest;
    }

-- and it leaves what it made
pub to-leaves : (ncol : ℕ) (order blocks : List ℕ) (list : List ℤ) (made : Listing) → to_check ncol order blocks list ≡ Ok tt
    → list_of ncol (naturals order) (naturals blocks) ≡ Ok made
    → to_lapack_of ncol order blocks list ≡ record { answer = accepted tt; list = tabulate ncol made.list }
unfolding to_lapack_of
to-leaves ncol order blocks list made h k = rw (h, k) refl

-- ---- from LAPACK, likewise

record FromAccepted (ncol : ℕ) (list : List ℤ) (order blocks : List ℕ) : Type 0 where
  made : Arranged
  check : from_check ncol list order blocks ≡ Ok tt
  walk : arranged_of ncol (integers list) ≡ Ok made
  rows : (from_lapack_of ncol list order blocks).order ≡ tabulate ncol made.rows
  bytes : (from_lapack_of ncol list order blocks).blocks ≡ tabulate ncol made.blocks

from-accepted : (ncol : ℕ) (list : List ℤ) (order blocks : List ℕ) → (from_lapack_of ncol list order blocks).answer ≡ accepted tt
    → FromAccepted ncol list order blocks
unfolding from_lapack_of
from-accepted ncol list order blocks e = by-both (from_check ncol list order blocks) refl (arranged_of ncol (integers list)) refl
  where
    left_by : Check → Result Arranged Refusal → Read
    left_by c r = read_after ncol (past_check c r) order blocks

    walked : Result Arranged Refusal
    walked = arranged_of ncol (integers list)

    by-both : (c : Check) → from_check ncol list order blocks ≡ c → (r : Result Arranged Refusal) → walked ≡ r → FromAccepted ncol list order blocks
    by-both (Err why) h r k = absurd (refused-not why tt _ (ap (λ (c : Check). (left_by c walked).answer) h) e)
    by-both (Ok u) h (Err why) k =
        absurd (refused-not why tt _ (ap (λ (c : Check). (left_by c walked).answer) h ∙ ap (λ (x : Result Arranged Refusal). (left_by (Ok u) x).answer) k) e)
    by-both (Ok u) h (Ok a) k = record {
      made = a;
      check = h;
      walk = k;
      rows = ap (λ (c : Check). (left_by c walked).order) h ∙ ap (λ (x : Result Arranged Refusal). (left_by (Ok u) x).order) k;
      bytes = ap (λ (c : Check). (left_by c walked).blocks) h ∙ ap (λ (x : Result Arranged Refusal). (left_by (Ok u) x).blocks) k;
    }

pub from-leaves : (ncol : ℕ) (list : List ℤ) (order blocks : List ℕ) (made : Arranged) → from_check ncol list order blocks ≡ Ok tt
    → arranged_of ncol (integers list) ≡ Ok made
    → from_lapack_of ncol list order blocks ≡ record { answer = accepted tt; order = tabulate ncol made.rows; blocks = tabulate ncol made.blocks }
unfolding from_lapack_of
from-leaves ncol list order blocks made h k = rw (h, k) refl

-- ---- both laws

pub forth-and-back : ForthAndBack
unfolding to_check from_check naturals integers order_sound
forth-and-back ncol order blocks list e o b ol bl =
    let t = to-accepted ncol order blocks list e in
    let c = to-checked ncol order blocks list t.check in
    let s = c.sizes in
    let again = forth-back ncol (naturals order) (naturals blocks) (sound-lists ncol order blocks c.rows c.bytes s.second) ncol 0 _ t.made
    (integers (tabulate ncol t.made.list)) (λ i. 0) (record { permutes = own-places ncol; placed = λ i l. absurd (omega arith) })
    (omega arith) (omega arith) t.walk (λ i l. get_d_tabulate ncol i t.made.list (pos 0) l) in
    rw t.left (from-leaves ncol (tabulate ncol t.made.list) o b again.made
    (sizes-pass ncol _ _ _ (record { few = s.few; first = length-tabulate_from 0 ncol t.made.list; second = ol; third = bl })) again.is
    ∙ rw (
      ← is-tabulate ncol again.made.rows 0 order s.first (λ i l. sym (again.rows i l)),
      ← is-tabulate ncol again.made.blocks 0 blocks s.second (λ i l. sym (again.bytes i (omega arith) l)),
    ) refl)

-- of whatever list a walk from LAPACK was, it is the list that is made again
pub made-again : (n : ℕ) (g : ℕ → ℤ) (a : Arranged) (l : List ℤ) → n ≤ most_columns → length l ≡ n → arranged_of n g ≡ Ok a
    → to_lapack_of n (tabulate n a.rows) (tabulate n a.blocks) l ≡ record { answer = accepted tt; list = tabulate n g }
unfolding to_check naturals
made-again n g a l few ll e =
    let fine : Fine n g 0 (record { rows = λ i. i; blocks = λ i. 0 })
    = record {
      permutes = own-places n;
      paired = record { byte = λ c h. absurd (omega arith); room = λ c h x. absurd (omega arith); apart = λ c h x. absurd (omega arith) };
    } in
    let ended = read-fine n g n 0 _ a fine (omega arith) (omega arith) e in
    let rows : List ℕ = tabulate n a.rows in
    let bytes : List ℕ = tabulate n a.blocks in
    let again = back-forth n g a (naturals rows) (naturals bytes)
    (λ i h. get_d_tabulate n i a.rows 0 h) (λ i h. get_d_tabulate n i a.blocks 0 h) n 0 _ (λ i. pos 0) fine (omega arith) (omega arith) e in
    to-leaves n rows bytes l again.made (check ended) again.is
    ∙ rw (is-tabulate n g (pos 0) (tabulate n again.made.list) (length-tabulate_from 0 n again.made.list)
    (λ i h. get_d_tabulate n i again.made.list (pos 0) h ∙ again.numbers i (omega arith) h)) refl
  where
    check : Fine n g n a → to_check n (tabulate n a.rows) (tabulate n a.blocks) l ≡ Ok tt
    check f =
        let sized = sizes-pass n (length (tabulate n a.rows)) (length (tabulate n a.blocks)) (length l)
        (record { few = few; first = length-tabulate_from 0 n a.rows; second = length-tabulate_from 0 n a.blocks; third = ll }) in
        rw (sized, tabulated-order n a.rows f.permutes, tabulated-bytes n a.blocks f.paired) refl

pub back-and-forth : BackAndForth
unfolding from_check integers
back-and-forth ncol list order blocks e l ll =
    let t = from-accepted ncol list order blocks e in
    let s = sizes ncol (length list) (length order) (length blocks) t.check in
    rw (t.rows, t.bytes) (made-again ncol (integers list) t.made l s.few ll t.walk
    ∙ rw (← is-tabulate ncol (integers list) (pos 0) list s.first (λ i h. refl)) refl)

-- ---- a list of another length

pub length-refused : (n : ℕ) (order blocks : List ℕ) (list : List ℤ) → n ≤ most_columns → eqb (length list) n ≡ false
    → (to_lapack_of n order blocks list).answer ≡ turned_away BufferLength
unfolding to_lapack_of to_check
length-refused n order blocks list few h =
    rw (le-leb n most_columns few, h, no (eqb (length blocks) n), no (eqb (length order) n)) refl
