-- The invariant and the answer, from what the run ensures of whichever program the memory stood for.
use Rattle.std.proofs.Common.{◌≡◌, ℕ, List, length, IfOk, IfErr, Ok, Err, vec_items, Result, sym, ap, ◌∙◌, subst, arith}
use mathlib.Core.Logic.{∥∥₁_elim, ∥∥₁_map}
use native.Mathlib.Nat.{ℕ_set}
use Rattle.std.specs.declared.alloc.AllocError.{AllocError}
use Rattle.std.proofs.lemmas.List.{with_items_is}
use Rattle.std.proofs.lemmas.Result.{IfOk-weaker}
use Rattle.program.specs.Syntax.{Program}
use Rattle.model.specs.Session.{StandsFor}
use Rattle.model.proofs.Memory.{length_memory}
use Rattle.session.specs.declared.run.Answer.{Answer}
use Rattle.session.specs.Answers.{Ended, Kept}
use Rattle.session.proofs.Answering.{answered, faults_shown, ends_shown, stands_still}
use Rattle.session.proofs.held.Session.tell.Goals as goal

-- a memory that stands for some program has the machine's length
some_length : (m : List ℕ) → ∥ ((p : Program) × StandsFor m p) ∥₁ → length m ≡ 22083
some_length m h = ∥∥₁_elim h (ℕ_set _ _) (λ (p, st). ap length st.is ∙ length_memory st.cursor _ _ _)

-- what the run ensures
abbrev RunSo : Result Answer AllocError → (m text m₁ : List ℕ) → Type 0
RunSo r m text m₁ = IfOk r (λ a. Ended m text (vec_items a.rows) a.end m₁) × IfErr r (λ _. Kept m m₁)

run_moved : (r : Result Answer AllocError) (m m₂ text m₁ m₃ : List ℕ) → m ≡ m₂ → m₁ ≡ m₃ → RunSo r m text m₁ → RunSo r m₂ text m₃
run_moved r m m₂ text m₁ m₃ e f h = subst (λ (w : List ℕ). RunSo r w text m₃) e (subst (λ (w : List ℕ). RunSo r m text w) f h)

-- it stands for some program, however the run went
still : (r : Result Answer AllocError) (m text m₁ : List ℕ) → RunSo r m text m₁ → (p : Program) → StandsFor m p → (q : Program) × StandsFor m₁ q
still (Ok a) m text m₁ h p st = stands_still text (vec_items a.rows) a.end m₁ p (answered m text (vec_items a.rows) a.end m₁ p h.0 st)
still (Err e) m text m₁ h p st = (p, h.1 p st)

pub run_command-requires : goal.run_command-requires
run_command-requires c = ap length c.as_mut_slice.ensures.value ∙ some_length _ c.args.self.now.stands

-- the run, in the words that the session held and holds
pub invariant_of-self : goal.invariant_of-self
invariant_of-self c =
    let e = with_items_is c.args.self.now.memory c.run_command.new.memory (omega arith) in
    let h = run_moved c.run_command.result _ _ _ _ _ c.as_mut_slice.ensures.value (sym e) (c.run_command.ensures.ended, c.run_command.ensures.kept) in
    record { stands = ∥∥₁_map c.args.self.now.stands (λ (p, st). still c.run_command.result _ _ _ h p st) }

pub returns : goal.returns
returns c =
    let e = with_items_is c.args.self.now.memory c.run_command.new.memory (omega arith) in
    let h = run_moved c.run_command.result _ _ _ _ _ c.as_mut_slice.ensures.value (sym e) (c.run_command.ensures.ended, c.run_command.ensures.kept) in
    record {
      answers = IfOk-weaker c.run_command.result _ _ (λ a f p st. answered _ _ _ _ _ p f st) h.0;
      faults = IfOk-weaker c.run_command.result _ _ (λ a f p st. faults_shown _ _ _ _ _ p f st) h.0;
      ends = IfOk-weaker c.run_command.result _ _ (λ a f p st. ends_shown _ _ _ _ _ p f st) h.0;
      kept = h.1;
    }
