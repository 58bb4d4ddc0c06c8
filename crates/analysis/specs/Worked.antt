-- Six programs with their alarms and what is known at their ends, and runs of them. Assumes nothing: these are definitions.
use Rattle.std.specs.Prelude.{◌≡◌, ℕ, true, List, [], ◌∷◌}
use Rattle.program.specs.Syntax.{Expr, num, var, bin, element, less, equal, not_test, skip, assign, store, input, check, seq, branch, loop, Program}
use Rattle.program.specs.Semantics.{Outcome, finished, fault, out_of_rounds, run_program}
use Rattle.program.specs.Validity.{valid_program}
use Rattle.interval.specs.Interval.{Interval, interval, top}
use Rattle.analysis.specs.Reach.{unreached, reached, Alarm}
use Rattle.analysis.specs.AbstractState.{Abstract}
use Rattle.analysis.specs.Whole.{analyse_program}
use Rattle.analysis.specs.Respond.{alarms_of}

-- a sum, a difference, a quotient
abbrev plus : Expr → Expr → Expr
plus a b = bin 0 a b

abbrev minus : Expr → Expr → Expr
minus a b = bin 1 a b

abbrev over : Expr → Expr → Expr
over a b = bin 3 a b

-- an array of eight elements is filled from inputs and added up; i is variable 0, x is 1, s is 2
abbrev pub fill_and_sum : Program
fill_and_sum = record {
  vars = 3;
  arrays = 8 ∷ [];
  body =
      seq (loop 1 (less (var 0) (num 8)) (seq (input 2 1 0 100) (seq (store 3 0 (var 0) (var 1)) (assign 4 0 (plus (var 0) (num 1))))))
      (seq (assign 5 0 (num 0))
      (loop 6 (less (var 0) (num 8)) (seq (assign 7 2 (plus (var 2) (element 0 (var 0)))) (assign 8 0 (plus (var 0) (num 1))))));
}

-- an index goes one past the end
abbrev pub one_too_far : Program
one_too_far = record {
  vars = 1;
  arrays = 8 ∷ [];
  body =
      loop 1 (not_test (less (num 8) (var 0))) (seq (store 2 0 (var 0) (num 1)) (assign 3 0 (plus (var 0) (num 1))));
}

-- a divisor tested for 0, which an interval does not keep; x is variable 0, y is 1
abbrev pub tested_by_equal : Program
tested_by_equal = record {
  vars = 2;
  arrays = [];
  body =
      seq (input 1 0 0 9) (branch 2 (equal (var 0) (num 0)) (assign 3 1 (num 0)) (assign 4 1 (over (num 100) (var 0))));
}

-- a divisor tested to be above 0
abbrev pub tested_by_less : Program
tested_by_less = record {
  vars = 2;
  arrays = [];
  body =
      seq (input 1 0 0 9) (branch 2 (less (num 0) (var 0)) (assign 3 1 (over (num 100) (var 0))) skip);
}

-- a check that holds, a check that may fail, and what it leaves
abbrev pub checked_twice : Program
checked_twice = record {
  vars = 1;
  arrays = [];
  body =
      seq (input 1 0 3 7) (seq (check 2 (less (var 0) (num 8))) (seq (check 3 (less (var 0) (num 5))) (assign 4 0 (minus (var 0) (num 3)))));
}

-- a loop that never ends
abbrev pub endless : Program
endless = record { vars = 1; arrays = []; body = loop 1 (less (var 0) (num 5)) skip }

-- a statement and a kind of fault
abbrev at : ℕ → ℕ → Alarm
at d k = record { stmt = d; kind = k }

-- these intervals of the variables and of the arrays
abbrev ends : List Interval → List Interval → Abstract
ends vs rs = reached (record { values = vs; arrays = rs })

-- p is a valid program, and its analysis tells these alarms and this end
pub record Tells (p : Program) (as₁ : List Alarm) (h : Abstract) : Type 0 where
  pub accepted : valid_program p ≡ true
  pub alarms : alarms_of p ≡ as₁
  pub end : (analyse_program p).out ≡ h

-- the table
unfoldable pub Worked : Type 0
Worked =
    Tells fill_and_sum (at 7 1 ∷ []) (ends (interval 8 8 ∷ interval 0 100 ∷ interval 0 top ∷ []) (interval 0 100 ∷ []))
    × Tells one_too_far (at 2 3 ∷ []) (ends (interval 9 9 ∷ []) (interval 0 1 ∷ []))
    × Tells tested_by_equal (at 4 2 ∷ []) (ends (interval 0 9 ∷ interval 0 100 ∷ []) [])
    × Tells tested_by_less [] (ends (interval 0 9 ∷ interval 0 100 ∷ []) [])
    × Tells checked_twice (at 3 4 ∷ []) (ends (interval 0 1 ∷ []) [])
    × Tells endless [] unreached

-- a run that comes to its end with these variables and arrays, and all inputs read
abbrev ended : List ℕ → List (List ℕ) → Outcome
ended vs rs = finished (record { values = vs; arrays = rs; inputs = [] })

-- runs of these programs: to the end, to a fault that is one of the alarms, and on for ever
unfoldable pub WorkedRuns : Type 0
WorkedRuns =
    (run_program 9 fill_and_sum (1 ∷ 2 ∷ 3 ∷ 4 ∷ 5 ∷ 6 ∷ 7 ∷ 8 ∷ []) ≡ ended (8 ∷ 8 ∷ 36 ∷ []) ((1 ∷ 2 ∷ 3 ∷ 4 ∷ 5 ∷ 6 ∷ 7 ∷ 8 ∷ []) ∷ []))
    × (run_program 9 one_too_far [] ≡ fault 2 3)
    × (run_program 0 tested_by_less (0 ∷ []) ≡ ended (0 ∷ 0 ∷ []) [])
    × (run_program 0 checked_twice (6 ∷ []) ≡ fault 3 4)
    × ((n : ℕ) → run_program n endless [] ≡ out_of_rounds)
