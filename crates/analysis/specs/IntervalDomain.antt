-- Intervals as a domain, and that the analyser over it is the plain analyser. Assumes nothing: these are definitions.
use Rattle.std.specs.Prelude.{◌≡◌, ℕ, List}
use Rattle.program.specs.Syntax.{Stmt}
use Rattle.analysis.specs.Reach.{reached}
use Rattle.analysis.specs.AbstractState.{Env, Abstract, join}
use Rattle.analysis.specs.Assume.{assume, test_faults}
use Rattle.analysis.specs.Iteration.{iterate}
use Rattle.analysis.specs.Analyser.{analyse}
use Rattle.analysis.specs.Domain.{Domain, walk}

-- an interval for each variable and array; arrays of ns elements, thresholds ms, at most n rounds
abbrev pub intervals : List ℕ → List ℕ → ℕ → Domain
intervals ns ms n = record {
  Known = Env;
  simple = λ d w. analyse ns ms n d (reached w);
  assume = λ outcome t w. assume ns outcome t w;
  faults = λ t w. test_faults ns t w;
  join = λ h g. join h g;
  iterate = λ f h. iterate ms 4 n f h;
}

-- the analyser over intervals is the plain analyser
unfoldable pub AnalyseIsWalk : Type 0
AnalyseIsWalk = (ns ms : List ℕ) (n : ℕ) (d : Stmt) (h : Abstract) → analyse ns ms n d h ≡ walk (intervals ns ms n) d h
