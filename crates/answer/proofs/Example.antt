-- The example of docs/SCOPE.md, "The program node", gives the lines that it must, computed from the definitions. Assumes nothing.
use mathlib.Core.Path.{◌≡◌, refl}
use lib.Ieee.{to_bits, of_bits, size, units, add, sub, mul, div, lt, le, eq, round, is_nan}
use Rattle.model.specs.Scalar.{is_finite, magnitude_of, maximum_of}
use Rattle.model.specs.Root.{whole_root, isqrt, round_root, sqrt_of, alpha}
use Rattle.model.specs.Matrix.{view, vec, naturals, head_of, row_of, tabulate_from, exchanged, put, swapped}
use Rattle.model.specs.Choice.{greatest, column_greatest, row_greatest, choose_of}
use Rattle.model.specs.Step.{eliminated, row_after_step, past_of}
use Rattle.model.specs.Head.{settled_one, head_one, kept_one, try_of, last_of, noted, panel_of, closed, passed, panels_of}
use Rattle.model.specs.Inertia.{one_counted, pivot_counted, tallied_from}
use Rattle.model.specs.Factor.{lengths_sound, mode_check, column_check, columns_check, settings_check, entry_check, start, head_run_of, every_from, pivot_sound}
use Rattle.model.specs.Factor.{column_sound, result_check, head_answer_of, factor_entry, factor_of}
use Rattle.little_endian.specs.LittleEndian.{le16, le32, le64, numbers_of}
use Rattle.record.specs.Record.{record_at, mode_of, settings_of, panel_of as input_panel, first_sound, sizes_sound, second_sound, asked_of}
use Rattle.text.specs.Text.{decimal_from, decimal_of, hex_from}
use Rattle.lines.specs.Lines.{field, number, three, each, accepted_line, order_field, order_line, pivot_line, pivot_at, inertia_line, entry_field, mark_field, row_line}
use Rattle.lines.specs.Lines.{accepted_lines}
use Rattle.answer.specs.Lines.{cleared, outcome_lines, printed}
use Rattle.answer.specs.Example.{stream, lines}

pub example-holds : printed stream ≡ lines
unfolding to_bits of_bits size units add sub mul div lt le eq round is_nan is_finite magnitude_of maximum_of whole_root isqrt round_root sqrt_of alpha view vec naturals head_of row_of tabulate_from exchanged put swapped greatest column_greatest row_greatest choose_of eliminated row_after_step past_of settled_one head_one kept_one try_of last_of noted panel_of closed passed panels_of one_counted pivot_counted tallied_from lengths_sound mode_check column_check columns_check settings_check entry_check start head_run_of every_from pivot_sound column_sound result_check head_answer_of factor_entry factor_of le16 le32 le64 numbers_of record_at mode_of settings_of input_panel first_sound sizes_sound second_sound asked_of decimal_from decimal_of hex_from field number three each accepted_line order_field order_line pivot_line pivot_at inertia_line entry_field mark_field row_line accepted_lines cleared outcome_lines printed
example-holds = refl
