-- Laws of the records, and of what a stream asks, on plain lists. What the crates above may rely on: of a stream that asks for a factor, `asked-sizes`
-- and `asked-length`; of any stream, `asked-prefix`. Assumes nothing.
use mathlib.Core.Path.{◌≡◌, refl, sym, ◌∙◌}
use mathlib.Core.Bool.{Bool, true, false, not, ◌&&◌}
use mathlib.Core.List.{List}
use Prim.Native.Nat.{ℕ, ◌+◌, ◌*◌, ◌<◌, ◌≤◌}
use native.Mathlib.Nat.{mul-le-mul}
use native.Mathlib.Omega.{arith}
use borrow.Author.Tests.{not-false, leb-true, ltb-true, ltb-false, le-leb, lt-leb}
use lib.Dec.{leb, ltb, eqb}
use lib.ListN.{length, take}
use lib.Seq.{length-take-le, take_all, get_or-take}
use Rattle.model.specs.declared.Settings.{Settings}
use Rattle.model.proofs.Cases.{test, no, and_left, and_right}
use Rattle.little_endian.specs.LittleEndian.{le16, le32, le64}
use Rattle.record.specs.Record.{record_at, settings_of, first_sound, sizes_sound, second_sound, panel_length, asked_of, longest, Asked}
use Rattle.record.specs.declared.Fault as fault
use Rattle.std.specs.Prelude.{Ok, Err}

-- ---- records

-- a record stands whole within the stream
pub record-whole : (s : List ℕ) (at len kind : ℕ) (b : Bool) → b ≡ record_at s at len kind → b ≡ true → at + 4 + len ≤ length s
unfolding record_at
record-whole s at len kind b e x = leb-true _ _ (and_left _ (eqb (le32 s at) len && eqb (le16 s (at + 4)) kind) (sym e ∙ x))

-- what the program's sizes are
pub record Sizes (c : Settings) : Type 0 where
  pub columns : c.ncol ≤ 16
  pub rows : c.nrow ≤ 64
  pub width : c.nb ≤ 16
  pub numbers : panel_length c ≤ 1024

pub sizes : (c : Settings) → sizes_sound c ≡ true → Sizes c
unfolding sizes_sound
sizes c h =
    let column : c.ncol ≤ 16 = leb-true _ _ (and_left _ (leb c.nrow 64 && leb c.nb 16) h) in
    let rest : leb c.nrow 64 && leb c.nb 16 ≡ true = and_right (leb c.ncol 16) _ h in
    let row : c.nrow ≤ 64 = leb-true _ _ (and_left _ (leb c.nb 16) rest) in
    record { columns = column; rows = row; width = leb-true _ _ (and_right (leb c.nrow 64) _ rest); numbers = mul-le-mul row column }

-- the panel's numbers can be counted
pub numbers-few : (c : Settings) (d : Bool) → d ≡ sizes_sound c → not d ≡ false → panel_length c ≤ 1024
numbers-few c d e x = (sizes c (sym e ∙ not-false d x)).numbers

-- ---- the answer by its tests

module _ (s : List ℕ) (b : Bool) (first : b ≡ first_sound s) where
  pub first-refuses : not b ≡ true → Err fault.TheVariants.Settings ≡ asked_of s
  unfolding asked_of
  first-refuses x = rw (← first, x)

  module _ (x : not b ≡ false) where
    pub first-whole : 24 ≤ length s
    unfolding first_sound
    first-whole = record-whole s 0 20 1 (record_at s 0 20 1) refl (rw (and_left (record_at s 0 20 1) _ (sym first ∙ not-false b x)))

    module _ (c : Settings) (read : c ≡ settings_of s) (d : Bool) (small : d ≡ sizes_sound c) where
      pub sizes-refuse : not d ≡ true → Err fault.TheVariants.Sizes ≡ asked_of s
      unfolding asked_of
      sizes-refuse y = rw (← first, x, ← read, ← small, y)

      module _ (y : not d ≡ false) (e : Bool) (second : e ≡ second_sound s (panel_length c)) where
        pub second-refuses : not e ≡ true → Err fault.TheVariants.Panel ≡ asked_of s
        unfolding asked_of
        second-refuses z = rw (← first, x, ← read, ← small, y, ← second, z)

        pub none-refuses : not e ≡ false → Ok c ≡ asked_of s
        unfolding asked_of
        none-refuses z = rw (← first, x, ← read, ← small, y, ← second, z)

-- ---- a stream that asks for a factor

apart : {P : Type 0} (f : fault.Fault) (c : Settings) (a : Asked) → Err f ≡ a → a ≡ Ok c → P
apart f c a e h = absurd (cc)

asked-sound : (s : List ℕ) (c : Settings) → asked_of s ≡ Ok c → (sizes_sound c ≡ true) × (second_sound s (panel_length c) ≡ true)
asked-sound s c e =
    let read = settings_of s in
    test (first_sound s)
    (λ x. test (sizes_sound read)
    (λ y. test (second_sound s (panel_length read))
    (λ z. rw (same (none-refuses s true (sym x) refl read refl true (sym y) refl true (sym z) refl)) (y, z))
    (λ z. apart fault.TheVariants.Panel c _ (second-refuses s true (sym x) refl read refl true (sym y) refl false (sym z) refl) e))
    (λ y. apart fault.TheVariants.Sizes c _ (sizes-refuse s true (sym x) refl read refl false (sym y) refl) e))
    (λ x. apart fault.TheVariants.Settings c _ (first-refuses s false (sym x) refl) e)
  where
    same : Ok (settings_of s) ≡ asked_of s → c ≡ settings_of s
    same f = cc

-- its sizes are the program's
pub asked-sizes : (s : List ℕ) (c : Settings) → asked_of s ≡ Ok c → Sizes c
asked-sizes s c e = sizes c (asked-sound s c e).0

-- it ends with its panel
pub asked-length : (s : List ℕ) (c : Settings) → asked_of s ≡ Ok c → length s ≡ 30 + 8 * panel_length c
unfolding second_sound
asked-length s c e =
    let n = panel_length c in
    let h = (asked-sound s c e).1 in
    let least : 24 + 4 + (2 + 8 * n) ≤ length s = record-whole s 24 (2 + 8 * n) 2 _ refl (rw (and_left (record_at s 24 (2 + 8 * n) 2) _ h)) in
    let most : length s ≤ 30 + 8 * n = leb-true _ _ (and_right (record_at s 24 (2 + 8 * n) 2) _ h) in
    omega arith

-- ---- a stream that goes on

le16-take : (n : ℕ) (s : List ℕ) (at : ℕ) → at + 2 ≤ n → le16 (take n s) at ≡ le16 s at
unfolding le16
le16-take n s at h = rw (get_or-take n s at 0 (omega arith), get_or-take n s (at + 1) 0 (omega arith))

le32-take : (n : ℕ) (s : List ℕ) (at : ℕ) → at + 4 ≤ n → le32 (take n s) at ≡ le32 s at
unfolding le32
le32-take n s at h = rw (le16-take n s at (omega arith), le16-take n s (at + 2) (omega arith))

le64-take : (n : ℕ) (s : List ℕ) (at : ℕ) → at + 8 ≤ n → le64 (take n s) at ≡ le64 s at
unfolding le64
le64-take n s at h = rw (le32-take n s at (omega arith), le32-take n s (at + 4) (omega arith))

module _ (n : ℕ) (s : List ℕ) (more : longest < n) (l : n ≤ length s) where
  settings-take : settings_of (take n s) ≡ settings_of s
  unfolding settings_of
  settings-take =
      rw (
        le16-take n s 6 (omega arith),
        le16-take n s 8 (omega arith),
        le16-take n s 10 (omega arith),
        le16-take n s 12 (omega arith),
        le16-take n s 14 (omega arith),
        le64-take n s 16 (omega arith),
      )

  first-take : first_sound (take n s) ≡ first_sound s
  unfolding first_sound record_at
  first-take =
      rw (
        length-take-le n s l,
        le32-take n s 0 (omega arith),
        le16-take n s 4 (omega arith),
        le16-take n s 12 (omega arith),
        le-leb 24 n (omega arith),
        le-leb 24 (length s) (omega arith),
      )

-- longer than any that asks for a factor
second-long : (s : List ℕ) (c : Settings) → sizes_sound c ≡ true → longest < length s → second_sound s (panel_length c) ≡ false
unfolding second_sound
second-long s c h l =
    let few = (sizes c h).numbers in
    rw (lt-leb (length s) (30 + 8 * panel_length c) (omega arith)) (no (record_at s 24 (2 + 8 * panel_length c) 2))

asked-take : (n : ℕ) (s : List ℕ) → longest < n → n ≤ length s → asked_of s ≡ asked_of (take n s)
unfolding asked_of
asked-take n s more l =
    let c = settings_of s in
    let long : longest < length (take n s) = rw (length-take-le n s l) more in
    rw (first-take n s more l, settings-take n s more l)
    (test (sizes_sound c) (λ h. rw (second-long s c h (omega arith), second-long (take n s) c h long)) (λ h. rw h))

-- a stream asks what its first bytes ask, one more than the longest that asks for a factor has
pub asked-prefix : (s : List ℕ) → asked_of s ≡ asked_of (take (longest + 1) s)
asked-prefix s =
    test (ltb (length s) (longest + 1))
    (λ h. rw (take_all (longest + 1) s (omega (arith, ltb-true (length s) (longest + 1) h))))
    (λ h. asked-take (longest + 1) s (omega arith) (ltb-false (length s) (longest + 1) h))
