-- What may or may not be reached, and what an analysis tells. Assumes nothing: these are definitions.
use Rattle.std.specs.Prelude.{ℕ, List, [], ◌++◌}
use Rattle.program.specs.Basics.{map}

-- what is known where something comes, or that nothing does
pub data Reach (K : Type 0) : Type 0 where
  unreached : Reach K
  reached : K → Reach K

-- go on from what is known, if anything comes here
unfoldable pub bind : {K L : Type 0} → Reach K → (K → Reach L) → Reach L
bind unreached f = unreached
bind (reached w) f = f w

-- the faults found from what is known, if anything comes here
unfoldable pub faults_in : {K : Type 0} → Reach K → (K → List ℕ) → List ℕ
faults_in unreached f = []
faults_in (reached w) f = f w

-- a statement and a kind of fault
pub record Alarm : Type 0 where
  pub stmt : ℕ
  pub kind : ℕ

-- what is known behind a statement, and what may go wrong in it
pub record Analysis (K : Type 0) : Type 0 where
  pub out : Reach K
  pub alarms : List Alarm

-- such an analysis
abbrev pub analysis : {K : Type 0} → Reach K → List Alarm → Analysis K
analysis h as₁ = record { out = h; alarms = as₁ }

-- one statement, several kinds
abbrev pub alarms_at : ℕ → List ℕ → List Alarm
alarms_at p ks = map (λ k. record { stmt = p; kind = k }) ks

-- more alarms in front
abbrev pub with_alarms : {K : Type 0} → List Alarm → Analysis K → Analysis K
with_alarms as₁ s = analysis s.out (as₁ ++ s.alarms)

-- nothing is done where nothing comes
unfoldable pub if_reached : {K L : Type 0} → Reach K → (K → Analysis L) → Analysis L
if_reached unreached f = analysis unreached []
if_reached (reached w) f = f w

-- something comes here, and P holds of it
abbrev pub ReachedAnd : {K : Type 0} → (K → Type 0) → Reach K → Type 0
ReachedAnd P unreached = ⊥
ReachedAnd P (reached w) = P w

-- P holds of what comes here, if anything does
abbrev pub ReachedImplies : {K : Type 0} → (K → Type 0) → Reach K → Type 0
ReachedImplies P unreached = Unit {0}
ReachedImplies P (reached w) = P w
