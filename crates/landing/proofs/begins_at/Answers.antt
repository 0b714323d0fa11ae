-- `landing::begins_at` meets its contract: what `all` answers of the rows with their places is the definition's test. Assumes nothing.
use mathlib.Core.Path.{◌≡◌, refl, sym, ◌∙◌, ap, subst}
use mathlib.Core.Bool.{Bool, ◌&&◌}
use mathlib.Core.List.{List, [], ◌∷◌}
use Prim.Native.Nat.{ℕ, suc, ◌+◌, ◌<◌}
use native.Mathlib.Omega.{arith}
use borrow.Author.Tests.{tests}
use borrow.Author.Rules.{rules}
use lib.Dec.{eqb}
use lib.ListN.{length, get_or, take}
use lib.Seq.{length-take-le}
use Rattle.std.specs.List.{list_all, enumerate_from}
use Rattle.std.proofs.lemmas.List.{get_or-take}
use Rattle.std.proofs.lemmas.Iterator.{YieldsList-from_slice}
use Rattle.std.proofs.lemmas.Iterator.Consumers.{YieldsList-from_enumerate, YieldsList-at}
use Rattle.std.proofs.lemmas.Iterator.Search.{all_from_yields_List}
use Rattle.model.specs.Matrix.{naturals}
use Rattle.model.specs.Factor.{every_from}
use Rattle.landing.specs.Rows.{stands_at}
use Rattle.landing.proofs.begins_at.Goals as goal

all-placed : (first : ℕ) (f : ℕ → Bool) (xs : List ℕ) (n : ℕ) → ((k : ℕ) → k < length xs → f (n + k) ≡ eqb (get_or xs k 0) (first + (n + k)))
    → list_all (λ p. eqb p.1 (first + p.0)) (enumerate_from n xs) ≡ every_from f (length xs) n
unfolding every_from
all-placed first f [] n h = refl
all-placed first f (x ∷ xs) n h =
    let here : f n ≡ eqb x (first + n) = subst (λ j. f j ≡ eqb x (first + j)) (omega arith) (h 0 (omega arith)) in
    rw here (ap (λ b. eqb x (first + n) && b)
    (all-placed first f xs (n + 1) (λ k l. subst (λ j. f j ≡ eqb (get_or xs k 0) (first + j)) (omega arith) (h (suc k) (omega arith)))))

pub returns : goal.returns
unfolding stands_at naturals
returns c =
    let first = c.args.t.first.0 in
    let xs : List ℕ = take c.args.t.ncol c.args.t.rows.now in
    let count : length xs ≡ c.args.t.ncol = length-take-le c.args.t.ncol c.args.t.rows.now (search rules) in
    let all : c.all.result ≡ list_all (λ (p : ℕ × ℕ). eqb p.1 (first + p.0)) (enumerate_from 0 xs)
    = all_from_yields_List {B = ℕ × ℕ} (λ p. eqb p.1 (first + p.0)) _ _ c.all.result c.all.ensures.ran
    (YieldsList-from_enumerate (YieldsList-at c.enumerate.ensures.source (YieldsList-from_slice xs c.iter.ensures.rest)) c.enumerate.ensures.count)
    (λ x b q k. search (rules, tests)) in
    all ∙ all-placed first (stands_at first (naturals c.args.t.rows.now)) xs 0
    (λ k l. let z : 0 + k ≡ k = omega arith in rw z (ap (λ x. eqb x (first + k)) (sym (get_or-take c.args.t.ncol c.args.t.rows.now k 0 (omega (arith, count))))))
    ∙ ap (λ n. every_from (stands_at first (naturals c.args.t.rows.now)) n 0) count
