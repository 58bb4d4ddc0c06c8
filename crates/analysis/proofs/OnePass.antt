-- A test worked out in one pass tells what assuming each outcome tells, and the same faults in the same order. Rests on the definitions alone.
use Rattle.std.proofs.Common.{◌≡◌, ℕ, true, false, List, refl}
use Rattle.program.specs.Syntax.{Test, less, equal, not_test, and_test, or_test}
use Rattle.analysis.specs.Reach.{unreached, reached, bind, faults_in}
use Rattle.analysis.specs.AbstractState.{Env, Abstract}
use Rattle.analysis.specs.Assume.{assume, test_faults}
use Rattle.analysis.specs.OnePass.{ways, ways_in, both_ways, OnePass}

-- the same from an abstract state
ways_from : (ns : List ℕ) (t : Test) (f : (w : Env) → both_ways ns t w ≡ ways (assume ns true t w) (assume ns false t w) (test_faults ns t w)) (h : Abstract) →
    ways_in h (λ w. both_ways ns t w) ≡ ways (bind h (λ w. assume ns true t w)) (bind h (λ w. assume ns false t w)) (faults_in h (λ w. test_faults ns t w))
unfolding ways_in bind faults_in
ways_from ns t f unreached = refl
ways_from ns t f (reached w) = f w

worked_out : (ns : List ℕ) (t : Test) (w : Env) → both_ways ns t w ≡ ways (assume ns true t w) (assume ns false t w) (test_faults ns t w)
unfolding both_ways assume test_faults
worked_out ns (less a b) w = refl
worked_out ns (equal a b) w = refl
worked_out ns (not_test t) w = rw (worked_out ns t w) refl
worked_out ns (and_test t u) w = rw (worked_out ns t w, ways_from ns u (λ v. worked_out ns u v) (assume ns true t w)) refl
worked_out ns (or_test t u) w = rw (worked_out ns t w, ways_from ns u (λ v. worked_out ns u v) (assume ns false t w)) refl

pub one_pass : OnePass
unfolding OnePass
one_pass = worked_out
