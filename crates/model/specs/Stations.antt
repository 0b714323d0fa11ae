-- The starred stations of docs/SCOPE.md, "Stations", as one list: what is given and the lines that it must give. proofs/Stations.antt has the claim.
-- Numbers are written by their bits. Fail, nb = ncol and limit 1 unless said. Definitions only. Assumes nothing.
use Rattle.std.specs.Prelude.{cond, List, [], ◌∷◌, map, ℕ, ◌-◌, ◌*◌, replicate, ℤ, pos, negsuc, unsigned_abs, Float}
use Rattle.std.specs.Float.{nan, binary64}
use Rattle.std.specs.Float.Ieee.{to_bits, of_bits}
use Rattle.model.specs.Inertia.{inertia_of}
use Rattle.model.specs.Factor.{Buffers, factor_of, work_length}
use Rattle.model.specs.Answer.{Said, refused, accepted}
use Rattle.model.specs.Solve.{Solved, solve_of}
use Rattle.model.specs.Lapack.{is_negative, Listed, to_lapack_of, Read, from_lapack_of}
use Rattle.model.specs.Solution.{left_in}
use Rattle.model.specs.declared.Mode.TheVariants.{Fail, Lift}
use Rattle.model.specs.declared.Settings.{Settings}
use Rattle.model.specs.declared.Report.{Report}
use Rattle.model.specs.declared.Tally.{Tally}

abbrev Lines : Type 0
Lines = List (List ℕ)

-- ---- lines

abbrev bits : List Float → List ℕ
bits xs = map (to_bits binary64) xs

abbrev count_line : Tally → List ℕ
count_line t = t.positive ∷ t.negative ∷ t.zero ∷ []

-- refused: number and place. Accepted: rounds, counts, order, d, subdiagonal, block bytes, lift bytes, amounts, test numbers, panel, marks
unfoldable pub factor_lines : Said Report → Buffers → Lines
factor_lines (refused n a b) x = (n ∷ a ∷ b ∷ []) ∷ []
factor_lines (accepted r) x =
    (r.rounds ∷ []) ∷ count_line r.inertia ∷ x.order ∷ bits x.d ∷ bits x.sub ∷ x.blocks ∷ x.lifts ∷ bits x.amounts ∷ x.tests ∷ bits x.panel ∷ x.marks ∷ []

abbrev inertia_lines : Said Tally → Lines
inertia_lines (refused n a b) = (n ∷ a ∷ b ∷ []) ∷ []
inertia_lines (accepted t) = count_line t ∷ []

abbrev solve_says : Said (Unit {0}) → List Float → Lines
solve_says (refused n a b) x = (n ∷ a ∷ b ∷ []) ∷ []
solve_says (accepted t) x = bits x ∷ []

-- a list of pivots: the numbers' sizes, and a 1 where one is negative
abbrev to_lines : Listed → Lines
to_lines x = to_says x.answer x.list
  where
    to_says : Said (Unit {0}) → List ℤ → Lines
    to_says (refused n a b) zs = (n ∷ a ∷ b ∷ []) ∷ []
    to_says (accepted t) zs = map unsigned_abs zs ∷ map (λ z. cond (is_negative z) 1 0) zs ∷ []

abbrev from_lines : Read → Lines
from_lines x = from_says x.answer x.order x.blocks
  where
    from_says : Said (Unit {0}) → List ℕ → List ℕ → Lines
    from_says (refused n a b) order blocks = (n ∷ a ∷ b ∷ []) ∷ []
    from_says (accepted t) order blocks = order ∷ blocks ∷ []

-- ---- calls

-- buffers of the right lengths, with something in them
unfoldable pub lent : Settings → Buffers
lent c = record {
  panel = replicate (c.nrow * c.ncol) nan;
  d = replicate c.ncol nan;
  sub = replicate c.ncol nan;
  blocks = replicate c.ncol 9;
  lifts = replicate c.ncol 9;
  amounts = replicate c.ncol nan;
  tests = replicate c.ncol 9;
  order = replicate c.nrow 9;
  marks = replicate (c.nrow - c.ncol) 9;
  work = replicate (work_length c.nrow c.nb) nan;
}

unfoldable pub factor_gives : Settings → List ℕ → Lines
factor_gives c input = let o = factor_of c (map (of_bits binary64) input) (lent c) in factor_lines o.answer o.buffers

unfoldable pub inertia_gives : List ℕ → List ℕ → List ℕ → Lines
inertia_gives d sub blocks = inertia_lines (inertia_of (map (of_bits binary64) d) (map (of_bits binary64) sub) blocks)

abbrev solve_lines : Solved → Lines
solve_lines o = solve_says o.answer o.vector

-- what a factor call leaves of an input, solved for a right side
unfoldable pub solved_gives : Settings → List ℕ → List ℕ → Lines
solved_gives c input b =
    let o = factor_of c (map (of_bits binary64) input) (lent c) in
    solve_lines (solve_of c.ncol c.nrow (left_in o.buffers) (map (of_bits binary64) b))

-- panel, d, subdiagonal, block bytes and order, solved for a right side
unfoldable pub solve_gives : ℕ → List ℕ → List ℕ → List ℕ → List ℕ → List ℕ → List ℕ → Lines
solve_gives n panel d sub blocks order b =
    solve_lines (solve_of n n (record {
      panel = map (of_bits binary64) panel;
      d = map (of_bits binary64) d;
      sub = map (of_bits binary64) sub;
      blocks = blocks;
      order = order;
    }) (map (of_bits binary64) b))

abbrev fail : ℕ → ℕ → ℕ → Settings
fail ncol nrow nb = record { ncol = ncol; nrow = nrow; nb = nb; mode = Fail; limit = 1 }

abbrev lift : ℕ → ℕ → ℕ → ℕ → Settings
lift ncol nb floor limit = record { ncol = ncol; nrow = ncol; nb = nb; mode = Lift (of_bits binary64 floor); limit = limit }

-- ---- numbers by their bits

abbrev half : ℕ
half = 0x3FE0_0000_0000_0000

abbrev one : ℕ
one = 0x3FF0_0000_0000_0000

abbrev one_half : ℕ
one_half = 0x3FF8_0000_0000_0000

abbrev two : ℕ
two = 0x4000_0000_0000_0000

abbrev three : ℕ
three = 0x4008_0000_0000_0000

abbrev four : ℕ
four = 0x4010_0000_0000_0000

abbrev six : ℕ
six = 0x4018_0000_0000_0000

abbrev five : ℕ
five = 0x4014_0000_0000_0000

abbrev eight : ℕ
eight = 0x4020_0000_0000_0000

abbrev nine : ℕ
nine = 0x4022_0000_0000_0000

abbrev eighteen : ℕ
eighteen = 0x4032_0000_0000_0000

abbrev quarter : ℕ
quarter = 0x3FD0_0000_0000_0000

abbrev minus_quarter : ℕ
minus_quarter = 0xBFD0_0000_0000_0000

abbrev minus_half : ℕ
minus_half = 0xBFE0_0000_0000_0000

abbrev minus_two : ℕ
minus_two = 0xC000_0000_0000_0000

abbrev minus_one : ℕ
minus_one = 0xBFF0_0000_0000_0000

abbrev minus_zero : ℕ
minus_zero = 0x8000_0000_0000_0000

-- 1e-160, 1e150 and 1e200: the first times its quotient by the second vanishes, the square of the third overflows
abbrev small : ℕ
small = 0x1EB6_7E9C_127B_6E74

abbrev large : ℕ
large = 0x5F13_8D35_2E50_96AF

abbrev huge : ℕ
huge = 0x6974_E718_D7D7_625A

-- 1e-200, whose square vanishes
abbrev faint : ℕ
faint = 0x1668_7E92_154E_F7AC

abbrev infinite : ℕ
infinite = 0x7FF0_0000_0000_0000

-- 2^-60, which is lost beside 1
abbrev tiny : ℕ
tiny = 0x3C30_0000_0000_0000

abbrev minus_tiny : ℕ
minus_tiny = 0xBC30_0000_0000_0000

abbrev not_a_number : ℕ
not_a_number = 0x7FF8_0000_0000_0000

-- ---- the list

-- what a call gives, and the lines that it must give
pub record Station : Type 0 where
  pub gives : Lines
  pub must : Lines

infix 10 ◌⇒◌
abbrev ◌⇒◌ : Lines → Lines → Station
g ⇒ m = record { gives = g; must = m }

-- [0,1; 0]
abbrev zero_diagonal : List ℕ
zero_diagonal = 0 ∷ one ∷ 0 ∷ 0 ∷ []

-- [1,2; 8]
abbrev exchanging : List ℕ
exchanging = one ∷ two ∷ 0 ∷ eight ∷ []

-- to LAPACK, and from it, with something in the buffers that are written
unfoldable pub to_gives : ℕ → List ℕ → List ℕ → Lines
to_gives n order blocks = to_lines (to_lapack_of n order blocks (replicate n (pos 9)))

unfoldable pub from_gives : ℕ → List ℤ → Lines
from_gives n list = from_lines (from_lapack_of n list (replicate n 9) (replicate n 9))

-- a one, and a zero, at each of three places
abbrev ones : List ℕ
ones = replicate 3 one

abbrev zeros : List ℕ
zeros = replicate 3 0

abbrev pub stations : List Station
stations =
    -- ncol 0, nrow 3, nb 1: order 0 1 2, counts 0 0 0
    (factor_gives (fail 0 3 1) [] ⇒ (0 ∷ []) ∷ (0 ∷ 0 ∷ 0 ∷ []) ∷ (0 ∷ 1 ∷ 2 ∷ []) ∷ [] ∷ [] ∷ [] ∷ [] ∷ [] ∷ [] ∷ [] ∷ (0 ∷ 0 ∷ 0 ∷ []) ∷ []) ∷
    -- [4], tail 6: d 4, L 1.5, mark 0
    (factor_gives (fail 1 2 1) (four ∷ six ∷ [])
    ⇒ (0 ∷ []) ∷ (1 ∷ 0 ∷ 0 ∷ []) ∷ (0 ∷ 1 ∷ []) ∷ (four ∷ []) ∷ (0 ∷ []) ∷ (0 ∷ []) ∷ (0 ∷ []) ∷ (0 ∷ []) ∷ (1 ∷ []) ∷
    (four ∷ one_half ∷ []) ∷ (0 ∷ []) ∷ []) ∷
    -- [0]: 7 at 0
    (factor_gives (fail 1 1 1) (0 ∷ []) ⇒ (7 ∷ 0 ∷ 0 ∷ []) ∷ []) ∷
    -- [0], Lift 0.5: d 0.5, amount 0.5, test number 0
    (factor_gives (lift 1 1 half 1) (0 ∷ [])
    ⇒ (0 ∷ []) ∷ (1 ∷ 0 ∷ 0 ∷ []) ∷ (0 ∷ []) ∷ (half ∷ []) ∷ (0 ∷ []) ∷ (0 ∷ []) ∷ (1 ∷ []) ∷ (half ∷ []) ∷ (0 ∷ []) ∷ (half ∷ []) ∷ [] ∷ []) ∷
    -- [−0.25], Lift 0.5: −0.5, amount −0.25, test number 1
    (factor_gives (lift 1 1 half 1) (minus_quarter ∷ [])
    ⇒ (0 ∷ []) ∷ (0 ∷ 1 ∷ 0 ∷ []) ∷ (0 ∷ []) ∷ (minus_half ∷ []) ∷ (0 ∷ []) ∷ (0 ∷ []) ∷ (1 ∷ []) ∷ (minus_quarter ∷ []) ∷
    (1 ∷ []) ∷ (minus_half ∷ []) ∷ [] ∷ []) ∷
    -- [−0.5], Lift 0.5: unlifted
    (factor_gives (lift 1 1 half 1) (minus_half ∷ [])
    ⇒ (0 ∷ []) ∷ (0 ∷ 1 ∷ 0 ∷ []) ∷ (0 ∷ []) ∷ (minus_half ∷ []) ∷ (0 ∷ []) ∷ (0 ∷ []) ∷ (0 ∷ []) ∷ (0 ∷ []) ∷ (1 ∷ []) ∷ (minus_half ∷ []) ∷ [] ∷ []) ∷
    -- [0,1; 0]: one block, counts 1 1 0, test numbers 4 4
    (factor_gives (fail 2 2 2) zero_diagonal
    ⇒ (0 ∷ []) ∷ (1 ∷ 1 ∷ 0 ∷ []) ∷ (0 ∷ 1 ∷ []) ∷ (0 ∷ 0 ∷ []) ∷ (one ∷ 0 ∷ []) ∷ (1 ∷ 0 ∷ []) ∷ (0 ∷ 0 ∷ []) ∷ (0 ∷ 0 ∷ []) ∷
    (4 ∷ 4 ∷ []) ∷ zero_diagonal ∷ [] ∷ []) ∷
    -- [1,2; 8]: order 1 0, test numbers 3 1
    (factor_gives (fail 2 2 2) exchanging
    ⇒ (0 ∷ []) ∷ (2 ∷ 0 ∷ 0 ∷ []) ∷ (1 ∷ 0 ∷ []) ∷ (eight ∷ half ∷ []) ∷ (0 ∷ 0 ∷ []) ∷ (0 ∷ 0 ∷ []) ∷ (0 ∷ 0 ∷ []) ∷
    (0 ∷ 0 ∷ []) ∷ (3 ∷ 1 ∷ []) ∷ (eight ∷ quarter ∷ 0 ∷ half ∷ []) ∷ [] ∷ []) ∷
    -- [0.5,1,0; 0,8; 0]: test numbers 2 4 4
    (factor_gives (fail 3 3 3) (half ∷ one ∷ 0 ∷ 0 ∷ 0 ∷ eight ∷ 0 ∷ 0 ∷ 0 ∷ [])
    ⇒ (0 ∷ []) ∷ (2 ∷ 1 ∷ 0 ∷ []) ∷ (0 ∷ 1 ∷ 2 ∷ []) ∷ (half ∷ minus_two ∷ 0 ∷ []) ∷ (0 ∷ eight ∷ 0 ∷ []) ∷ (0 ∷ 1 ∷ 0 ∷ []) ∷
    zeros ∷ zeros ∷ (2 ∷ 4 ∷ 4 ∷ []) ∷ (half ∷ two ∷ 0 ∷ 0 ∷ minus_two ∷ eight ∷ 0 ∷ 0 ∷ 0 ∷ []) ∷ [] ∷ []) ∷
    -- [1e-200,1e-200; 1]: test numbers 1 1, a diagonal over a square that vanishes
    (factor_gives (fail 2 2 2) (faint ∷ faint ∷ 0 ∷ one ∷ [])
    ⇒ (0 ∷ []) ∷ (2 ∷ 0 ∷ 0 ∷ []) ∷ (0 ∷ 1 ∷ []) ∷ (faint ∷ one ∷ []) ∷ (0 ∷ 0 ∷ []) ∷ (0 ∷ 0 ∷ []) ∷ (0 ∷ 0 ∷ []) ∷
    (0 ∷ 0 ∷ []) ∷ (1 ∷ 1 ∷ []) ∷ (faint ∷ one ∷ 0 ∷ one ∷ []) ∷ [] ∷ []) ∷
    -- [0,1; 0], nb 1: 7 at 0
    (factor_gives (fail 2 2 1) zero_diagonal ⇒ (7 ∷ 0 ∷ 0 ∷ []) ∷ []) ∷
    -- [0,1; 0], nb 1, Lift 0.5: d 0.5, −2, L 2, test numbers 0 1, since the search stays in the panel
    (factor_gives (lift 2 1 half 1) zero_diagonal
    ⇒ (0 ∷ []) ∷ (1 ∷ 1 ∷ 0 ∷ []) ∷ (0 ∷ 1 ∷ []) ∷ (half ∷ minus_two ∷ []) ∷ (0 ∷ 0 ∷ []) ∷ (0 ∷ 0 ∷ []) ∷ (1 ∷ 0 ∷ []) ∷
    (half ∷ 0 ∷ []) ∷ (0 ∷ 1 ∷ []) ∷ (half ∷ two ∷ 0 ∷ minus_two ∷ []) ∷ [] ∷ []) ∷
    -- [0,1; 0], Lift 2, limit 1: 8 at 0
    (factor_gives (lift 2 2 two 1) zero_diagonal ⇒ (8 ∷ 0 ∷ 0 ∷ []) ∷ []) ∷
    -- limit 2: d 4, 4, rounds 2, counts 2 0 0
    (factor_gives (lift 2 2 two 2) zero_diagonal
    ⇒ (2 ∷ []) ∷ (2 ∷ 0 ∷ 0 ∷ []) ∷ (0 ∷ 1 ∷ []) ∷ (four ∷ four ∷ []) ∷ (one ∷ 0 ∷ []) ∷ (1 ∷ 0 ∷ []) ∷ (1 ∷ 1 ∷ []) ∷
    (four ∷ four ∷ []) ∷ (4 ∷ 4 ∷ []) ∷ zero_diagonal ∷ [] ∷ []) ∷
    -- [0,1e-160,0; 0,1e150; 0]: 23 at 0
    (factor_gives (fail 3 3 3) (0 ∷ small ∷ 0 ∷ 0 ∷ 0 ∷ large ∷ 0 ∷ 0 ∷ 0 ∷ []) ⇒ (23 ∷ 0 ∷ 0 ∷ []) ∷ []) ∷
    -- [0,1e200; 0]: 24 at 0
    (factor_gives (fail 2 2 2) (0 ∷ huge ∷ 0 ∷ 0 ∷ []) ⇒ (24 ∷ 0 ∷ 0 ∷ []) ∷ []) ∷
    -- inertia of block 0, 0, 0: counts 1 0 1
    (inertia_gives (0 ∷ 0 ∷ []) (0 ∷ 0 ∷ []) (1 ∷ 0 ∷ []) ⇒ (1 ∷ 0 ∷ 1 ∷ []) ∷ []) ∷
    -- inertia of 1x1 not-a-number: 0 0 1
    (inertia_gives (not_a_number ∷ []) (0 ∷ []) (0 ∷ []) ⇒ (0 ∷ 0 ∷ 1 ∷ []) ∷ []) ∷
    -- ncol 0, solved: nothing
    (solved_gives (fail 0 0 1) [] [] ⇒ [] ∷ []) ∷
    -- [1,2; 8], solved for 5 18: 1 2
    (solved_gives (fail 2 2 2) exchanging (five ∷ eighteen ∷ []) ⇒ (one ∷ two ∷ []) ∷ []) ∷
    -- [0,1; 0], solved for 2 3: 3 2
    (solved_gives (fail 2 2 2) zero_diagonal (two ∷ three ∷ []) ⇒ (three ∷ two ∷ []) ∷ []) ∷
    -- [0,1; 0], Lift 2, limit 2, solved for 9 6: 2 1, that of [4,1; 4]
    (solved_gives (lift 2 2 two 2) zero_diagonal (nine ∷ six ∷ []) ⇒ (two ∷ one ∷ []) ∷ []) ∷
    -- a block 1 2 3 over a panel of not-a-numbers, solved for 5 8: 1 2
    (solve_gives 2 (replicate 4 not_a_number) (one ∷ three ∷ []) (two ∷ 0 ∷ []) (1 ∷ 0 ∷ []) (0 ∷ 1 ∷ []) (five ∷ eight ∷ [])
    ⇒ (one ∷ two ∷ []) ∷ []) ∷
    -- three 1x1s of 1, L 0, 1 and 2^-60, solved for 1 1 1: 1 1 −2^-60; by falling position forward it would end in 0
    (solve_gives 3 (one ∷ 0 ∷ one ∷ 0 ∷ one ∷ tiny ∷ 0 ∷ 0 ∷ one ∷ []) ones zeros zeros (0 ∷ 1 ∷ 2 ∷ []) ones
    ⇒ (one ∷ one ∷ minus_tiny ∷ []) ∷ []) ∷
    -- three 1x1s of 1, L 2^-60, 1 and 0, solved for 1 1 2: −2^-60 1 1; by rising position back it would begin with 0
    (solve_gives 3 (one ∷ tiny ∷ one ∷ 0 ∷ one ∷ 0 ∷ 0 ∷ 0 ∷ one ∷ []) ones zeros zeros (0 ∷ 1 ∷ 2 ∷ []) (one ∷ one ∷ two ∷ [])
    ⇒ (minus_tiny ∷ one ∷ one ∷ []) ∷ []) ∷
    -- [1,0; 1], solved for −0 −1: +0 −1; with terms of zero left out it would begin with −0
    (solved_gives (fail 2 2 2) (one ∷ 0 ∷ 0 ∷ one ∷ []) (minus_zero ∷ minus_one ∷ []) ⇒ (0 ∷ minus_one ∷ []) ∷ []) ∷
    -- [4], tail 6, solved for 1: 1
    (solved_gives (fail 1 2 1) (four ∷ six ∷ []) (one ∷ []) ⇒ (1 ∷ 0 ∷ 0 ∷ []) ∷ []) ∷
    -- [1,2; 8], solved for 5 and an infinity: 27 at 1
    (solved_gives (fail 2 2 2) exchanging (five ∷ infinite ∷ []) ⇒ (27 ∷ 1 ∷ 0 ∷ []) ∷ []) ∷
    -- [1,2; 8], solved for 5 18 with the order 0 0: 26 at 1
    (solve_gives 2 exchanging (one ∷ eight ∷ []) (0 ∷ 0 ∷ []) (0 ∷ 0 ∷ []) (0 ∷ 0 ∷ []) (five ∷ eighteen ∷ []) ⇒ (26 ∷ 1 ∷ 0 ∷ []) ∷ []) ∷
    -- with the block bytes 2 0 and an infinite right side too: 26 at 1
    (solve_gives 2 exchanging (one ∷ eight ∷ []) (0 ∷ 0 ∷ []) (2 ∷ 0 ∷ []) (0 ∷ 0 ∷ []) (infinite ∷ eighteen ∷ []) ⇒ (26 ∷ 1 ∷ 0 ∷ []) ∷ []) ∷
    -- with the order 1 0, the block bytes 2 0 and an infinite right side: 16 at 0
    (solve_gives 2 exchanging (one ∷ eight ∷ []) (0 ∷ 0 ∷ []) (2 ∷ 0 ∷ []) (1 ∷ 0 ∷ []) (infinite ∷ eighteen ∷ []) ⇒ (16 ∷ 0 ∷ 0 ∷ []) ∷ []) ∷
    -- ncol 0 to LAPACK, and from it: nothing
    (to_gives 0 [] [] ⇒ [] ∷ [] ∷ []) ∷
    (from_gives 0 [] ⇒ [] ∷ [] ∷ []) ∷
    -- order 2 0 1, no block: list 3 3 3; and back
    (to_gives 3 (2 ∷ 0 ∷ 1 ∷ []) zeros ⇒ (3 ∷ 3 ∷ 3 ∷ []) ∷ (0 ∷ 0 ∷ 0 ∷ []) ∷ []) ∷
    (from_gives 3 (pos 3 ∷ pos 3 ∷ pos 3 ∷ []) ⇒ (2 ∷ 0 ∷ 1 ∷ []) ∷ (0 ∷ 0 ∷ 0 ∷ []) ∷ []) ∷
    -- order 2 1 0, a block at 1: list 3 −3 −3; and back
    (to_gives 3 (2 ∷ 1 ∷ 0 ∷ []) (0 ∷ 1 ∷ 0 ∷ []) ⇒ (3 ∷ 3 ∷ 3 ∷ []) ∷ (0 ∷ 1 ∷ 1 ∷ []) ∷ []) ∷
    (from_gives 3 (pos 3 ∷ negsuc 2 ∷ negsuc 2 ∷ []) ⇒ (2 ∷ 1 ∷ 0 ∷ []) ∷ (0 ∷ 1 ∷ 0 ∷ []) ∷ []) ∷
    -- order 1 0 2, a block at 1: list 2 −3 −3, row 0 stands in its place by then; and back
    (to_gives 3 (1 ∷ 0 ∷ 2 ∷ []) (0 ∷ 1 ∷ 0 ∷ []) ⇒ (2 ∷ 3 ∷ 3 ∷ []) ∷ (0 ∷ 1 ∷ 1 ∷ []) ∷ []) ∷
    (from_gives 3 (pos 2 ∷ negsuc 2 ∷ negsuc 2 ∷ []) ⇒ (1 ∷ 0 ∷ 2 ∷ []) ∷ (0 ∷ 1 ∷ 0 ∷ []) ∷ []) ∷
    -- order 1 2 0, a block at 0: 28 at 0
    (to_gives 3 (1 ∷ 2 ∷ 0 ∷ []) (1 ∷ 0 ∷ 0 ∷ []) ⇒ (28 ∷ 0 ∷ 0 ∷ []) ∷ []) ∷
    -- order 1 0 0, block bytes 0 1 1: 26 at 2
    (to_gives 3 (1 ∷ 0 ∷ 0 ∷ []) (0 ∷ 1 ∷ 1 ∷ []) ⇒ (26 ∷ 2 ∷ 0 ∷ []) ∷ []) ∷
    -- order 1 0 2, block bytes 1 1 0: 16 at 0
    (to_gives 3 (1 ∷ 0 ∷ 2 ∷ []) (1 ∷ 1 ∷ 0 ∷ []) ⇒ (16 ∷ 0 ∷ 0 ∷ []) ∷ []) ∷
    -- list −2 −2 −3: 30 at 2, it stands last
    (from_gives 3 (negsuc 1 ∷ negsuc 1 ∷ negsuc 2 ∷ []) ⇒ (30 ∷ 2 ∷ 0 ∷ []) ∷ []) ∷
    -- list 1 −1 −2: 30 at 1; −1 is before the column that it moves, too
    (from_gives 3 (pos 1 ∷ negsuc 0 ∷ negsuc 1 ∷ []) ⇒ (30 ∷ 1 ∷ 0 ∷ []) ∷ []) ∷
    -- list 3 1 3: 29 at 1, before the column that it moves
    (from_gives 3 (pos 3 ∷ pos 1 ∷ pos 3 ∷ []) ⇒ (29 ∷ 1 ∷ 0 ∷ []) ∷ []) ∷
    -- list 0: 29 at 0
    (from_gives 1 (pos 0 ∷ []) ⇒ (29 ∷ 0 ∷ 0 ∷ []) ∷ []) ∷
    -- list −1 −1: 29 at 0, a block moves its second column
    (from_gives 2 (negsuc 0 ∷ negsuc 0 ∷ []) ⇒ (29 ∷ 0 ∷ 0 ∷ []) ∷ []) ∷
    -- list −2147483648 twice: 29 at 0
    (from_gives 2 (negsuc 2147483647 ∷ negsuc 2147483647 ∷ []) ⇒ (29 ∷ 0 ∷ 0 ∷ []) ∷ []) ∷
    []
