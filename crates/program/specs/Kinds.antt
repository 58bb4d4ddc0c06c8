-- The numbers of operators and of faults, as programs are encoded and answers given. Assumes nothing: these are definitions.
use Rattle.std.specs.Prelude.{ℕ, ◌==◌, cond}
use Rattle.program.specs.declared.fault.Fault.{Fault}
use Rattle.program.specs.declared.fault.Fault.TheVariants.{Overflow, Divisor, Index, Check}
use Rattle.program.specs.declared.operator.Operator.{Operator}
use Rattle.program.specs.declared.operator.Operator.TheVariants.{Sum, Difference, Product, Quotient, Remainder}

-- a fault's number
abbrev pub fault_number : Fault → ℕ
fault_number Overflow = 1
fault_number Divisor = 2
fault_number Index = 3
fault_number Check = 4

-- an operator's number
abbrev pub operator_code : Operator → ℕ
operator_code Sum = 0
operator_code Difference = 1
operator_code Product = 2
operator_code Quotient = 3
operator_code Remainder = 4

-- the operator with this number; each number above those of the others is a remainder's
abbrev pub operator_of : ℕ → Operator
operator_of k = cond (k == 0) Sum (cond (k == 1) Difference (cond (k == 2) Product (cond (k == 3) Quotient Remainder)))
