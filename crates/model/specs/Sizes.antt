-- The sizes held, from docs/SCOPE.md, "Sizes and buffers": each limit under one name. model's constants COLUMNS_MAX, ROWS_MAX, WIDTH_MAX and LIMIT_MAX are
-- these numbers: a test of the code against a constant is proved to be the definition's test against the name. Definitions only. Assumes nothing.
use Rattle.std.specs.Prelude.{ℕ}

-- columns of a node, and of a descendant
abbrev pub most_columns : ℕ
most_columns = 128

-- rows of a node, and of a descendant with its columns' among them
abbrev pub most_rows : ℕ
most_rows = 1024

-- columns of a panel, nb as passed
abbrev pub widest_panel : ℕ
widest_panel = 64

-- rounds that a block's lift may take
abbrev pub most_rounds : ℕ
most_rounds = 64
