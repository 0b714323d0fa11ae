-- What the walks of LAPACK's lists leave in the code's lists, and what they ask. Definitions only. Assumes nothing.
use Rattle.std.specs.Prelude.{◌≡◌, List, ℕ, ◌≤◌, ◌<◌, length, ℤ, Result, Ok, Err}
use Rattle.model.specs.Sizes.{most_columns}
use Rattle.model.specs.Matrix.{naturals, places}
use Rattle.model.specs.Kept.{Standing}
use Rattle.model.specs.Answer.{Applied, applied_says}
use Rattle.model.specs.Inertia.{check_bytes}
use Rattle.model.specs.Solve.{check_order}
use Rattle.model.specs.Lapack.{integers, Listing, Listed, Arranged, Read}
use Rattle.model.specs.declared.Refusal.{Refusal}

-- a step's answer, the next column or a refusal, with what it left
abbrev pub stepped : {S : Type 0} → Result ℕ Refusal → S → Result (ℕ × S) Refusal
stepped (Ok k) s = Ok (k, s)
stepped (Err r) s = Err r

-- a walk's answer with what it left
abbrev pub walked : {S : Type 0} → Applied → S → Result S Refusal
walked (Ok u) s = Ok s
walked (Err r) s = Err r

-- ---- to LAPACK

-- what the walk to LAPACK goes on with, as its two lists hold it
abbrev pub listing : List ℕ → List ℤ → Listing
listing rows list = record { rows = places rows; list = integers list }

-- an order and block bytes of n columns that refusals 26 and 16 do not meet
pub record SoundPre (n : ℕ) (order blocks : List ℕ) : Type 0 where
  pub few : n ≤ most_columns
  pub rows : length order ≡ n
  pub bytes : length blocks ≡ n
  pub order_sound : check_order n (naturals order) ≡ Ok tt
  pub bytes_sound : check_bytes blocks ≡ Ok tt

-- k is one of the columns, and the rows before it stand in their places
pub record PivotPre (n : ℕ) (order : List ℕ) (k : ℕ) (rows : List ℕ) : Type 0 where
  pub here : k < n
  pub room : length rows ≡ n
  pub standing : Standing n (naturals order) k (places rows)

-- a pivot's columns k to e are among the list's, and p is a row
pub record NotePre (k e p len : ℕ) : Type 0 where
  pub order : k ≤ e
  pub room : e < len
  pub few : p < most_columns

-- what the call leaves
abbrev pub to_leaves : Applied → List ℤ → Listed
to_leaves r list = record { answer = applied_says r; list = list }

-- ---- from LAPACK

-- what the walk from LAPACK goes on with, as its two lists hold it
abbrev pub arranged : List ℕ → List ℕ → Arranged
arranged rows blocks = record { rows = places rows; blocks = naturals blocks }

-- the two lists have as many places as there are columns
pub record ListsPre (n len len_bytes : ℕ) : Type 0 where
  pub few : n ≤ most_columns
  pub rows : len ≡ n
  pub bytes : len_bytes ≡ n

-- k is one of n columns; there are as many places in the two lists
pub record ReadPre (n k len len_bytes : ℕ) : Type 0 where
  pub few : n ≤ most_columns
  pub here : k < n
  pub rows : len ≡ n
  pub bytes : len_bytes ≡ n

-- what the call leaves
abbrev pub from_leaves : Applied → List ℕ → List ℕ → Read
from_leaves r order blocks = record { answer = applied_says r; order = order; blocks = blocks }
