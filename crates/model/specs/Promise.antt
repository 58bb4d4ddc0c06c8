-- The machine and what it promises. Assumes nothing: these are definitions.
use Rattle.std.specs.Prelude.{◌≡◌, ℕ, zero, suc, ◌≤◌, Bool, true, false, cond, ◌&&◌, ltb, ◌⊎◌, List, [], ◌∷◌, ◌++◌, length, nat_eq, nat_le, nat_lt}
use Rattle.program.specs.Basics.{all}
use Rattle.program.specs.Syntax.{Program}
use Rattle.program.specs.Validity.{valid_program}
use Rattle.program.specs.Command.{Command, load, encode, valid, empty_program}
use Rattle.analysis.specs.Respond.{respond}
use Rattle.analysis.specs.Statements.{NothingMissed}

-- the machine is told a command, or to go on
pub data Event : Type 0 where
  command : List ℕ → Event
  next : Event

-- it shows a row of bytes, or ends the command
pub data Act : Type 0 where
  shows : List ℕ → Act
  done : Act
  refused : ℕ → Act

-- the memory after a step, and what it did
pub record Step : Type 0 where
  pub memory : List ℕ
  pub act : Act

-- a memory at the start, and a step on memories
pub record Machine : Type 0 where
  pub start : List ℕ
  pub step : List ℕ → Event → Step

-- how a command went: 0 done, a refusal, 1000 not ended yet
pub record Ran : Type 0 where
  pub memory : List ℕ
  pub showed : List (List ℕ)
  pub end : ℕ

-- such a record
abbrev pub ran : List ℕ → List (List ℕ) → ℕ → Ran
ran m ss k = record { memory = m; showed = ss; end = k }

-- a refusal's number is from 1 to 999; any other counts as 1001
abbrev pub refusal_end : ℕ → ℕ
refusal_end k = cond (nat_le 1 k && nat_lt k 1000) k 1001

-- after a row it goes on, else the command has ended
unfoldable pub one_act : (List ℕ → List (List ℕ) → Ran) → List (List ℕ) → List ℕ → Act → Ran
one_act go ss m (shows s) = go m (ss ++ s ∷ [])
one_act go ss m done = ran m ss 0
one_act go ss m (refused k) = ran m ss (refusal_end k)

-- at most n steps
unfoldable pub run_machine : ℕ → Machine → List ℕ → Event → List (List ℕ) → Ran
run_machine zero e m ev ss = ran m ss 1000
run_machine (suc n) e m ev ss = one_act (λ m₁ ss₁. run_machine n e m₁ next ss₁) ss (e.step m ev).memory (e.step m ev).act

-- all numbers are below 2^64
unfoldable pub all_small : List ℕ → Bool
all_small ms = all (λ m. ltb m 18446744073709551616) ms

-- the memory is small and 0 at the start; steps keep its length and its numbers below 2^64
unfoldable pub Steady : Machine → Type 0
Steady e =
    (length e.start ≤ 262144) × (all (λ m. nat_eq m 0) e.start ≡ true)
    × ((m : List ℕ) (ev : Event) → (length (e.step m ev).memory ≡ length m) × (all_small m ≡ true → all_small (e.step m ev).memory ≡ true))

-- what cannot be
abbrev pub Never : Type 0
Never = zero ≡ suc zero

-- the text encodes this valid command
unfoldable pub Encodes : List ℕ → Command → Type 0
Encodes text c = (encode c ≡ text) × (valid c ≡ true)

-- a known command is answered as defined; a valid one that is not known is refused with 2, and a text that encodes none with 1
unfoldable pub Answers : (Command → Bool) → Program → List ℕ → Ran → Program → Type 0
Answers known w text r w₁ =
    ((a : Command) × Encodes text a × (known a ≡ true) × (r.end ≡ (respond w a).reply) × (r.showed ≡ (respond w a).shows) × (w₁ ≡ (respond w a).next))
    ⊎ (((a : Command) × Encodes text a × (known a ≡ false) × (r.end ≡ 2) × (r.showed ≡ []) × (w₁ ≡ w))
    ⊎ (((a : Command) → Encodes text a → Never) × (r.end ≡ 1) × (r.showed ≡ []) × (w₁ ≡ w)))

-- commands one after another are each answered so
unfoldable pub Right : (Command → Bool) → Machine → List ℕ → Program → List (List ℕ) → Type 0
Right known e m w [] = zero ≡ zero
Right known e m w (t ∷ ts) =
    (n : ℕ) × (w₁ : Program) × Answers known w t (run_machine n e m (command t) []) w₁ × Right known e (run_machine n e m (command t) []).memory w₁ ts

-- the machine answers as defined, whatever it is told; and nothing is missed in any program that it knows
unfoldable pub Whole : (Command → Bool) → Machine → Type 0
Whole known e =
    Steady e
    × ((ts : List (List ℕ)) → length ts ≤ 4294967296 → Right known e e.start empty_program ts)
    × ((p : Program) → valid_program p ≡ true → known (load p) ≡ true → NothingMissed p)
