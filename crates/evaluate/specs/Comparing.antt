-- What a comparison of two expressions tells, by the variables that they are, if they are such, and by their intervals.
-- Assumes nothing: these are definitions.
use Rattle.std.specs.Prelude.{◌≡◌, ℕ, ◌+◌, ◌-◌, cond, ◌&&◌, Some, None, Option, ◌==◌, nat_le, nat_lt}
use Rattle.program.specs.Basics.{smaller, larger}
use Rattle.program.specs.Syntax.{Expr, num, var, bin, element, Test, less, equal}
use Rattle.interval.specs.Interval.{Interval, interval, meet}
use Rattle.analysis.specs.Reach.{unreached}
use Rattle.analysis.specs.AbstractState.{Abstract}
use Rattle.state.specs.Change.{cut_in}
use Rattle.interval.specs.declared.types.Faults.{Faults}
use Rattle.state.specs.declared.types.Abstract.TheVariants.{Unreached}
use Rattle.state.specs.Of.{as_abstract}
use Rattle.evaluate.specs.declared.types.Ways.{Ways}
use Rattle.evaluate.specs.declared.types.Comparison.{Comparison}
use Rattle.evaluate.specs.declared.types.Comparison.TheVariants.{Less, Equal}

-- the variable that the expression is
abbrev pub variable_of : Expr → Option ℕ
variable_of (num n) = None
variable_of (var x) = Some x
variable_of (bin k a b) = None
variable_of (element r a) = None

-- both are cut
abbrev pub cut_both : Option ℕ → Option ℕ → Abstract → Interval → Interval → Abstract
cut_both x y h s t = cut_in y (cut_in x h s) t

-- the first, from s, is less than the second, from t
abbrev pub less_in : Option ℕ → Option ℕ → Abstract → Interval → Interval → Abstract
less_in x y h s t = cond (nat_lt s.lo t.hi) (cut_both x y h (interval 0 (t.hi - 1)) (interval (s.lo + 1) t.hi)) unreached

-- it is not
abbrev pub not_less_in : Option ℕ → Option ℕ → Abstract → Interval → Interval → Abstract
not_less_in x y h s t = cond (nat_le t.lo s.hi) (cut_both x y h (interval t.lo s.hi) (interval 0 s.hi)) unreached

-- the two are equal
abbrev pub equal_in : Option ℕ → Option ℕ → Abstract → Interval → Interval → Abstract
equal_in x y h s t = cond (nat_le (larger s.lo t.lo) (smaller s.hi t.hi)) (cut_both x y h (meet s t) (meet s t)) unreached

-- they are not
abbrev pub unequal_in : Abstract → Interval → Interval → Abstract
unequal_in h s t = cond (s.lo == s.hi && (t.lo == t.hi && s.lo == t.lo)) unreached h

-- the comparison holds
abbrev pub holds_in : Comparison → Option ℕ → Option ℕ → Abstract → Interval → Interval → Abstract
holds_in Less x y h s t = less_in x y h s t
holds_in Equal x y h s t = equal_in x y h s t

-- the comparison does not hold
abbrev pub fails_in : Comparison → Option ℕ → Option ℕ → Abstract → Interval → Interval → Abstract
fails_in Less x y h s t = not_less_in x y h s t
fails_in Equal x y h s t = unequal_in h s t

-- the comparison as a test
abbrev pub comparison : Comparison → Expr → Expr → Test
comparison Less a b = less a b
comparison Equal a b = equal a b

-- nothing comes further, with these faults
abbrev pub nowhere : Faults → ℕ → Ways
nowhere f stop = record { yes = Unreached; no = Unreached; faults = f; end = stop }

-- the ways r are the ways w, the one cut to where the comparison holds, the other to where it does not
pub record Compared (k : Comparison) (x y : Option ℕ) (s t : Interval) (w r : Ways) : Type 0 where
  pub yes : as_abstract r.yes ≡ holds_in k x y (as_abstract w.yes) s t
  pub no : as_abstract r.no ≡ fails_in k x y (as_abstract w.no) s t
  pub faults : r.faults ≡ w.faults
  pub end : r.end ≡ w.end
