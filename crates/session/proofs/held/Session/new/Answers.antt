use Rattle.std.proofs.Common.{◌≡◌, ℕ, List, replicate, sym, subst}
use Rattle.program.specs.Command.{empty_program}
use Rattle.model.specs.Memory.{zeros}
use Rattle.model.specs.Session.{StandsFor, StartStands}
use Rattle.model.proofs.Start.{start_stands}
use Rattle.session.proofs.held.Session.new.Goals as goal

-- the words are the machine's at the start
zeros_stand : (m : List ℕ) → m ≡ replicate 22083 0 → StandsFor m empty_program
unfolding zeros StartStands
zeros_stand m e = subst (λ (w : List ℕ). StandsFor w empty_program) (sym e) start_stands

pub invariant_of-result : goal.invariant_of-result
invariant_of-result c = record { stands = ∣ (empty_program, zeros_stand _ (c.in_ok-memory.ensures.items_if_clones_equal (λ y e. e))) ∣₁ }

pub returns : goal.returns
returns c = zeros_stand _ (c.in_ok-memory.ensures.items_if_clones_equal (λ y e. e))
