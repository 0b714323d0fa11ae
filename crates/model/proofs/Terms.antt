-- Laws of a number less its terms, by rising and by falling position: other terms that agree where there is an entry. Assumes nothing.
use mathlib.Core.Path.{◌≡◌, refl}
use mathlib.Core.Bool.{Bool, true}
use Prim.Native.Nat.{ℕ, zero, suc, ◌+◌, ◌≤◌, ◌<◌}
use native.Mathlib.Omega.{arith}
use lib.Ieee.{Float}
use Rattle.model.specs.Matrix.{Row}
use Rattle.model.specs.Solve.{less_earlier, less_later}
use Rattle.model.proofs.Cases.{test}

pub earlier-there : (there : ℕ → Bool) (f g : Row) (m : ℕ) (v : Float) → ((j : ℕ) → j < m → there j ≡ true → f j ≡ g j)
    → less_earlier there f m v ≡ less_earlier there g m v
unfolding less_earlier
earlier-there there f g zero v h = refl
earlier-there there f g (suc m) v h =
    let before : less_earlier there f m v ≡ less_earlier there g m v = earlier-there there f g m v (λ j o t. h j (omega arith) t) in
    test (there m) (λ t. rw (t, before, h m (omega arith) t)) (λ t. rw (t, before))

pub later-there : (there : ℕ → Bool) (f g : Row) (m j : ℕ) (v : Float) → ((i : ℕ) → j ≤ i → i < j + m → there i ≡ true → f i ≡ g i)
    → less_later there f m j v ≡ less_later there g m j v
unfolding less_later
later-there there f g zero j v h = refl
later-there there f g (suc m) j v h =
    let after : less_later there f m (j + 1) v ≡ less_later there g m (j + 1) v
    = later-there there f g m (j + 1) v (λ i o p t. h i (omega arith) (omega arith) t) in
    test (there j) (λ t. rw (t, after, h j (omega arith) (omega arith) t)) (λ t. rw (t, after))
