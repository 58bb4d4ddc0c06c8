use Rattle.std.proofs.Common.{◌≡◌, ℕ, Some, None, IfSome, SomeIff, Option, ◌∙◌}
use Rattle.source.proofs.Counting.{count_is}
use Rattle.source.proofs.sizes.count_statements.Goals as goal

-- a difference, if there is one, is what the other difference is
less_is : {L : Type 0} (f : L → ℕ) (P : Type 0) (n : ℕ) (r : Option ℕ) → SomeIff r P n → ((l : L) → n ≡ f l) → IfSome r (λ m. (l : L) → m ≡ f l)
less_is f P n None s g = tt
less_is f P n (Some m) s g = λ l. s.1 ∙ g l

pub returns : goal.returns
returns c = less_is _ _ _ _ c.checked_sub.ensures (count_is c.args.command.now c.args.header c.in_ok-last.last c.in_ok-last.ensures)
