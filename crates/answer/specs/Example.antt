-- The example of docs/SCOPE.md, "The program node": ncol, nrow and nb 2, panel 1 2 0 8, and the lines that it must print. proofs/Example.antt has the claim.
-- Definitions only. Assumes nothing.
use Rattle.std.specs.Prelude.{List, [], ◌∷◌, ◌++◌, ℕ}
use Rattle.text.specs.Text.{word}

-- length 20, kind 1, the sizes, Fail, limit 0, floor +0.0
abbrev first : List ℕ
first = 20 ∷ 0 ∷ 0 ∷ 0 ∷ 1 ∷ 0 ∷ 2 ∷ 0 ∷ 2 ∷ 0 ∷ 2 ∷ 0 ∷ 0 ∷ 0 ∷ 0 ∷ 0 ∷ 0 ∷ 0 ∷ 0 ∷ 0 ∷ 0 ∷ 0 ∷ 0 ∷ 0 ∷ []

-- length 34, kind 2, the panel
abbrev second : List ℕ
second =
    34 ∷ 0 ∷ 0 ∷ 0 ∷ 2 ∷ 0 ∷ 0 ∷ 0 ∷ 0 ∷ 0 ∷ 0 ∷ 0 ∷ 240 ∷ 63 ∷ 0 ∷ 0 ∷ 0 ∷ 0 ∷ 0 ∷ 0 ∷ 0 ∷ 64
    ∷ 0 ∷ 0 ∷ 0 ∷ 0 ∷ 0 ∷ 0 ∷ 0 ∷ 0 ∷ 0 ∷ 0 ∷ 0 ∷ 0 ∷ 0 ∷ 0 ∷ 32 ∷ 64 ∷ []

abbrev pub stream : List ℕ
stream = first ++ second

abbrev pub lines : List ℕ
lines =
    word "accepted rounds 0\n"
    ++ word "order 1 0\n"
    ++ word "pivot 0 0 4020000000000000 0000000000000000 0 0000000000000000 3\n"
    ++ word "pivot 1 0 3FE0000000000000 0000000000000000 0 0000000000000000 1\n"
    ++ word "inertia 2 0 0\n"
    ++ word "row 0 4020000000000000 0000000000000000\n"
    ++ word "row 1 3FD0000000000000 3FE0000000000000\n"
