-- What the later-panel rule asks of its callers. From docs/SCOPE.md, "The later columns"; the rule itself is `deferred_rows` of whole/specs/Whole.antt.
-- Definitions only. Assumes nothing.
use Rattle.std.specs.Prelude.{◌≡◌, List, ℕ, ◌-◌, ◌*◌, ◌≤◌, length}
use Rattle.model.specs.Matrix.{naturals}

-- The panel's columns kb to ke of a matrix of n rows and c columns, with their pivots, of which the last begins no block, and room for L-as-D of them in g.
pub record DeferredPre (n c kb ke glen len dlen slen : ℕ) (blocks : List ℕ) : Type 0 where
  pub start : kb ≤ ke
  pub stop : ke ≤ c
  pub rows : c ≤ n
  pub panel : len ≡ n * c
  pub out : (ke - kb) * n ≤ glen
  pub pivots : ke ≤ dlen
  pub subs : ke ≤ slen
  pub flags : ke ≤ length blocks
  pub closed : naturals blocks (ke - 1) ≡ 1 → ⊥
