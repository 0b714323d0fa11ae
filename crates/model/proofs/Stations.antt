-- Every starred station of docs/SCOPE.md, "Stations", gives the lines that it must, computed from the definitions. Assumes nothing.
use mathlib.Core.Path.{◌≡◌, refl}
use mathlib.Core.List.{map}
use lib.Count.{count_trailing_zeros}
use lib.Ieee.{to_bits, of_bits, size, units, odd, add, sub, mul, div, lt, le, eq, round, sum, neg, is_nan, of_fields, span, climb}
use Rattle.model.specs.Scalar.{is_finite, magnitude_of, maximum_of, lift_of, growth_eps}
use Rattle.model.specs.Root.{whole_root, isqrt, round_root, sqrt_of, alpha}
use Rattle.model.specs.Matrix.{view, vec, naturals, head_of, row_of, tabulate_from, exchanged, with_column, put, swapped}
use Rattle.model.specs.Choice.{greatest, column_greatest, row_greatest, choose_of}
use Rattle.model.specs.Step.{eliminated, row_after_step, past_of, step_at, first_of, arrived, row_stepped, row_after_steps}
use Rattle.model.specs.Panel.{times_d, sum_from, row_deferred, row_after_panel, tail_row_of}
use Rattle.model.specs.Head.{settled_one, raised_from, settled_two, head_one, head_two, kept_one, kept_two, try_of, last_of, noted, panel_of, blank, closed, passed}
use Rattle.model.specs.Head.{panels_of}
use Rattle.model.specs.Inertia.{one_counted, two_counted, pivot_counted, tallied_from, byte_sound, bytes_from, inertia_check, inertia_of}
use Rattle.model.specs.Factor.{lengths_sound, mode_check, column_check, columns_check, settings_check, entry_check, start, head_run_of, every_from, pivot_sound}
use Rattle.model.specs.Factor.{column_sound, result_check, head_answer_of, factor_row_of, mark_of, factor_entry, factor_of}
use Rattle.model.specs.Assembly.{first_not}
use Rattle.model.specs.Solve.{solve_lengths, named, order_sound, solve_check, less_earlier, less_later, forward_from, divided, back_from, substituted, ordered}
use Rattle.model.specs.Solve.{returned_from, solution_of, solve_of}
use Rattle.model.specs.Lapack.{integers, to_check, goes, walk, place_from, pivot_listed, to_lapack_of, from_check, fault_at, past_pivot, pivot_read, from_lapack_of}
use Rattle.model.specs.Stations.{Station, factor_lines, lent, factor_gives, inertia_gives, solved_gives, solve_gives, to_gives, from_gives, stations}

pub stations-hold : map (λ (s : Station). s.gives) stations ≡ map (λ (s : Station). s.must) stations
unfolding to_bits of_bits size units odd add sub mul div lt le eq round sum neg is_nan of_fields span climb count_trailing_zeros is_finite magnitude_of maximum_of lift_of growth_eps whole_root isqrt round_root sqrt_of alpha view vec naturals head_of row_of tabulate_from exchanged with_column put swapped greatest column_greatest row_greatest choose_of eliminated row_after_step past_of step_at first_of arrived row_stepped row_after_steps times_d sum_from row_deferred row_after_panel tail_row_of settled_one raised_from settled_two head_one head_two kept_one kept_two try_of last_of noted panel_of blank closed passed panels_of one_counted two_counted pivot_counted tallied_from byte_sound bytes_from inertia_check inertia_of lengths_sound mode_check column_check columns_check settings_check entry_check start head_run_of every_from pivot_sound column_sound result_check head_answer_of factor_row_of mark_of factor_entry factor_of factor_lines lent factor_gives inertia_gives first_not solve_lengths named order_sound solve_check less_earlier less_later forward_from divided back_from substituted ordered returned_from solution_of solve_of solved_gives solve_gives integers to_check goes walk place_from pivot_listed to_lapack_of from_check fault_at past_pivot pivot_read from_lapack_of to_gives from_gives
stations-hold = refl
