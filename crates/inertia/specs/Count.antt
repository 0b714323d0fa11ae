-- A pivot of D as it is counted, and what the counting functions ask of their callers. Definitions only. Assumes nothing.
use Rattle.std.specs.Prelude.{◌≡◌, List, ℕ, ◌+◌, ◌<◌, ◌^◌, length, Float, Ok}
use Rattle.model.specs.Inertia.{one_counted, two_counted, check_bytes}
use Rattle.model.specs.declared.Tally.{Tally}
use Rattle.model.specs.declared.Diagonal.{Diagonal}
use Rattle.model.specs.declared.Diagonal.TheVariants.{One, Two}

-- the tally with one pivot or one block more
unfoldable pub counted_of : Tally → Diagonal → Tally
counted_of t (One d) = one_counted t d
counted_of t (Two b) = two_counted t b

-- the sums fit
pub record MorePre (t : Tally) (p n z : ℕ) : Type 0 where
  pub positive : t.positive + p < 2 ^ 64
  pub negative : t.negative + n < 2 ^ 64
  pub zero : t.zero + z < 2 ^ 64

-- there is room for one block more
pub record CountPre (t : Tally) : Type 0 where
  pub room : t.positive + t.negative + t.zero + 2 < 2 ^ 64

-- lists of one length, and block bytes that meet no refusal
pub record TallyPre (ds subs : List Float) (bs : List ℕ) : Type 0 where
  pub sub : length subs ≡ length ds
  pub blocks : length bs ≡ length ds
  pub check : check_bytes bs ≡ Ok tt
