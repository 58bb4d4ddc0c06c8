-- What each statement does to an abstract state, reached or not: the parts of the analyser's clauses. Assumes nothing: these are definitions.
use Rattle.std.specs.Prelude.{ℕ, Bool, true, false, cond, List, [], ◌∷◌, ◌++◌, slice_index, slice_set}
use Rattle.program.specs.Basics.{flat_map, larger}
use Rattle.program.specs.Syntax.{Expr, Test, Stmt}
use Rattle.interval.specs.Interval.{interval}
use Rattle.analysis.specs.Reach.{unreached, reached, bind, faults_in}
use Rattle.analysis.specs.AbstractState.{Abstract, join, within}
use Rattle.analysis.specs.Evaluation.{eval_interval}
use Rattle.analysis.specs.Assume.{assume, test_faults}
use Rattle.analysis.specs.Analyser.{assigned, stored, index_faults, index_in_range, analyse}

-- what is known if the test has this outcome
abbrev pub assume_here : List ℕ → Bool → Test → Abstract → Abstract
assume_here ns outcome t h = bind h (λ w. assume ns outcome t w)

-- what may go wrong in the test
abbrev pub faults_here : List ℕ → Test → Abstract → List ℕ
faults_here ns t h = faults_in h (λ w. test_faults ns t w)

-- behind an assignment
abbrev pub assign_here : List ℕ → ℕ → Expr → Abstract → Abstract
assign_here ns x e h = bind h (λ w. assigned w x (eval_interval ns w e).intervals)

-- what may go wrong in an expression
abbrev pub expr_faults_here : List ℕ → Expr → Abstract → List ℕ
expr_faults_here ns e h = faults_in h (λ w. (eval_interval ns w e).faults)

-- behind a store
abbrev pub store_here : List ℕ → ℕ → Expr → Expr → Abstract → Abstract
store_here ns r a e h = bind h (λ w. stored w r (index_in_range (slice_index ns r) (eval_interval ns w a).intervals) (eval_interval ns w e).intervals)

-- what may go wrong in a store
abbrev pub store_faults_here : List ℕ → ℕ → Expr → Expr → Abstract → List ℕ
store_faults_here ns r a e h =
    faults_in h (λ w. (eval_interval ns w a).faults ++ flat_map (λ s. (eval_interval ns w e).faults) (eval_interval ns w a).intervals
    ++ flat_map (λ s. index_faults (slice_index ns r) (eval_interval ns w a).intervals) (eval_interval ns w e).intervals)

-- behind an input
abbrev pub input_here : ℕ → ℕ → ℕ → Abstract → Abstract
input_here x a b h = bind h (λ w. reached (record { values = slice_set w.values x (interval a (larger a b)); arrays = w.arrays }))

-- what may go wrong in a check: the test's faults, and kind 4 if it can be that the test does not hold
abbrev pub check_faults_here : List ℕ → Test → Abstract → List ℕ
check_faults_here ns t h = faults_here ns t h ++ cond (within (assume_here ns false t h) unreached) [] (4 ∷ [])

-- one round of a loop: what comes first, joined with what the body makes of g where the test holds
abbrev pub one_round : List ℕ → List ℕ → ℕ → Test → Stmt → Abstract → Abstract → Abstract
one_round ns ms n t a h g = join h (analyse ns ms n a (assume_here ns true t g)).out
