-- What a command is answered, for a program that the memory stands for. Assumes nothing: these are definitions.
use Rattle.std.specs.Prelude.{◌≡◌, ℕ, ◌<◌, ◌≤◌, List, [], ◌∷◌, slice_index}
use Rattle.std.specs.List.{AllByRecursion}
use Rattle.program.specs.Basics.{limit}
use Rattle.program.specs.Syntax.{Program}
use Rattle.program.specs.Semantics.{State, finished, fault, run_program}
use Rattle.program.specs.Command.{Command}
use Rattle.analysis.specs.Respond.{respond}
use Rattle.model.specs.Promise.{command, ran, run_machine, Never, Encodes}
use Rattle.model.specs.Session.{StandsFor}
use Rattle.model.specs.Entry.{own}
use Rattle.session.specs.declared.rows.Row.{Row}
use Rattle.session.specs.declared.rows.Row.TheVariants.{Alarm, Bounds}
use Rattle.session.specs.Rows.{rows_bytes, Words, Has}

-- the machine, told this text, shows these rows and ends so
pub record Ended (m text : List ℕ) (rows : List Row) (end : ℕ) (m₁ : List ℕ) : Type 0 where
  pub steps : ℕ
  pub runs : run_machine steps own m (command text) [] ≡ ran m₁ (rows_bytes rows) end
  pub over : end < 1000
  pub words : AllByRecursion Words rows

-- whatever program the memory stood for, it stands for it still
abbrev pub Kept : (m m₁ : List ℕ) → Type 0
Kept m m₁ = (p : Program) → StandsFor m p → StandsFor m₁ p

-- the answer is the one defined, and the memory stands for the program from then on; a text that encodes no valid command is refused with 1
pub record Answered (text : List ℕ) (rows : List Row) (end : ℕ) (m₁ : List ℕ) (p : Program) : Type 0 where
  pub known : (c : Command) → Encodes text c → (rows_bytes rows ≡ (respond p c).shows) × (end ≡ (respond p c).reply) × StandsFor m₁ (respond p c).next
  pub unknown : ((c : Command) → Encodes text c → Never) → (rows ≡ []) × (end ≡ 1) × StandsFor m₁ p

-- if some run of the program has a fault, the alarms have it
abbrev pub FaultsShown : (text : List ℕ) (rows : List Row) → Program → Type 0
FaultsShown text rows p =
    text ≡ 2 ∷ [] → (n : ℕ) (inputs : List ℕ) (d k : ℕ) → run_program n p inputs ≡ fault d k → Has (Alarm d k) rows

-- whatever a variable ends with in some run lies within the one row of its bounds
abbrev pub EndsShown : (text : List ℕ) (rows : List Row) → Program → Type 0
EndsShown text rows p =
    (x : ℕ) → text ≡ 3 ∷ x ∷ [] → x < p.vars → (n : ℕ) (inputs : List ℕ) (s : State) → run_program n p inputs ≡ finished s →
    (lo : ℕ) × (hi : ℕ) × (rows ≡ Bounds lo hi ∷ []) × (lo ≤ slice_index s.values x) × (slice_index s.values x ≤ hi) × (hi < limit)
