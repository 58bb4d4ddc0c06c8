-- The memory at the start stands for the program that does nothing.
use Rattle.std.proofs.Common.{◌≡◌, ℕ, zero, suc, ◌*◌, true, [], ◌∷◌, sym, refl, arith}
use Rattle.program.specs.Basics.{in_bytes}
use Rattle.program.specs.Encoding.{encode_stmt}
use Rattle.program.specs.Validity.{valid_stmt, nesting, loop_nesting, stmt_numbers, consecutive, valid_program}
use Rattle.program.specs.Command.{empty_program}
use Rattle.analysis.specs.Reach.{reached}
use Rattle.analysis.specs.Analyser.{analyse}
use Rattle.model.specs.Memory.{slots, scratch, memory_size, zeros, bounds, end_bounds, alarm_table, memory_of, laid}
use Rattle.model.specs.Session.{StartStands}
use Rattle.model.proofs.Memory.{zeros_append}

zeros_suc : (n : ℕ) → zeros (suc n) ≡ 0 ∷ zeros n
unfolding zeros
zeros_suc n = refl

pub bounds_zeros : (k : ℕ) → bounds k [] ≡ zeros (2 * k)
unfolding bounds
bounds_zeros zero = unfold zeros in refl
bounds_zeros (suc k) = let e : 2 * suc k ≡ suc (suc (2 * k)) = omega arith in rw (e, zeros_suc (suc (2 * k)), zeros_suc (2 * k), bounds_zeros k) refl

pub table_zeros : (n i : ℕ) → alarm_table [] n i ≡ zeros n
unfolding alarm_table
table_zeros zero i = unfold zeros in refl
table_zeros (suc n) i = rw (zeros_suc n, table_zeros n (suc i)) refl

zeros_memory : memory_of 0 0 (reached (record { values = []; arrays = [] })) [] ≡ zeros memory_size
unfolding memory_of end_bounds
zeros_memory =
    rw (bounds_zeros 64, bounds_zeros 16, table_zeros slots 0, zeros_append 128 32, zeros_append slots scratch, zeros_append 160 21920, zeros_suc 22082, zeros_suc 22081, zeros_suc 22080) refl

empty_valid : valid_program empty_program ≡ true
unfolding in_bytes encode_stmt valid_stmt nesting loop_nesting stmt_numbers consecutive
empty_valid = refl

laid_empty : laid 0 empty_program ≡ zeros memory_size
unfolding analyse
laid_empty = zeros_memory

pub start_stands : StartStands
unfolding StartStands
start_stands = record { proper = empty_valid; cursor = 0; is = sym laid_empty }
