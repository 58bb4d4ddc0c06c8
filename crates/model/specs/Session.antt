-- What a user gets: what a memory of the machine stands for, and what telling it a command shows. Each statement is a type; a function of src/ has
-- it as its contract. Assumes nothing: these are definitions.
use Rattle.std.specs.Prelude.{◌≡◌, ℕ, ◌<◌, ◌≤◌, true, ◌⊎◌, List, [], ◌∷◌, ◌++◌, slice_index}
use Rattle.program.specs.Basics.{eight, limit}
use Rattle.program.specs.Syntax.{Program}
use Rattle.program.specs.Semantics.{State, finished, fault, run_program}
use Rattle.program.specs.Validity.{valid_program}
use Rattle.program.specs.Command.{Command, all_alarms, at_end, encode, valid, empty_program}
use Rattle.analysis.specs.Respond.{respond}
use Rattle.model.specs.Promise.{command, Machine, run_machine, Never, Encodes}
use Rattle.model.specs.Memory.{laid}
use Rattle.model.specs.Entry.{own}

-- the memory holds what is known of this valid program, the cursor anywhere
pub record StandsFor (m : List ℕ) (p : Program) : Type 0 where
  pub proper : valid_program p ≡ true
  pub cursor : ℕ
  pub is : m ≡ laid cursor p

-- told this text, the machine shows these rows and ends with this number, in a memory that stands for this program
pub record Replies (e : Machine) (m text : List ℕ) (rows : List (List ℕ)) (reply : ℕ) (p : Program) : Type 0 where
  pub steps : ℕ
  pub shown : (run_machine steps e m (command text) []).showed ≡ rows
  pub ended : (run_machine steps e m (command text) []).end ≡ reply
  pub after : StandsFor (run_machine steps e m (command text) []).memory p

-- at the start it is the program that does nothing
unfoldable pub StartStands : Type 0
StartStands = StandsFor own.start empty_program

-- a valid command is answered as defined
unfoldable pub CommandAnswered : Type 0
CommandAnswered =
    (m : List ℕ) (p : Program) (c : Command) → StandsFor m p → valid c ≡ true → Replies own m (encode c) (respond p c).shows (respond p c).reply (respond p c).next

-- a text that encodes no valid command is refused with 1, and the program stays
unfoldable pub TextRefused : Type 0
TextRefused = (m : List ℕ) (p : Program) (text : List ℕ) → StandsFor m p → ((c : Command) → Encodes text c → Never) → Replies own m text [] 1 p

-- the row is one of them
abbrev pub Among : List ℕ → List (List ℕ) → Type 0
Among r [] = ⊥
Among r (s ∷ ss) = (r ≡ s) ⊎ Among r ss

-- if some run of the program has a fault, the rows of its alarms have one with that statement and kind
unfoldable pub FaultShown : Type 0
FaultShown =
    (m : List ℕ) (p : Program) → StandsFor m p → (n : ℕ) (inputs : List ℕ) (d k : ℕ) → run_program n p inputs ≡ fault d k →
    (rows : List (List ℕ)) × Replies own m (encode all_alarms) rows 0 p × Among (eight d ++ k ∷ []) rows

-- the row of a variable's end has two numbers below 2^32, and whatever the variable can end with lies between them
unfoldable pub EndShown : Type 0
EndShown =
    (m : List ℕ) (p : Program) (x : ℕ) → StandsFor m p → x < p.vars → (n : ℕ) (inputs : List ℕ) (s : State) → run_program n p inputs ≡ finished s →
    (lo : ℕ) × (hi : ℕ) × Replies own m (encode (at_end x)) ((eight lo ++ eight hi) ∷ []) 0 p × (lo ≤ slice_index s.values x) × (slice_index s.values x ≤ hi) × (hi < limit)
