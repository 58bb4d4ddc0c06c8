-- What each command answers. Assumes nothing: these are definitions.
use Rattle.std.specs.Prelude.{ℕ, Bool, true, cond, ◌&&◌, List, [], ◌∷◌, ◌++◌, ◌==◌, nat_lt}
use Rattle.program.specs.Basics.{map, eight}
use Rattle.program.specs.Syntax.{Program}
use Rattle.program.specs.Command.{Command, load, all_alarms, at_end}
use Rattle.analysis.specs.Reach.{unreached, reached, Alarm}
use Rattle.analysis.specs.AbstractState.{Abstract, nth_interval}
use Rattle.analysis.specs.Whole.{analyse_program}

-- an answer: 0 or a refusal, the rows that are shown, and the program from then on
pub record Response : Type 0 where
  pub reply : ℕ
  pub shows : List (List ℕ)
  pub next : Program

-- a refusal shows and changes nothing
abbrev pub refuse : ℕ → Program → Response
refuse k p = record { reply = k; shows = []; next = p }

-- done, with these rows
abbrev pub answer : List (List ℕ) → Program → Response
answer ss p = record { reply = 0; shows = ss; next = p }

-- by statement, then by kind
abbrev pub alarm_before : Alarm → Alarm → Bool
alarm_before a b = cond (nat_lt a.stmt b.stmt) true (a.stmt == b.stmt && nat_lt a.kind b.kind)

-- into its place, unless it is there
unfoldable pub insert_alarm : Alarm → List Alarm → List Alarm
insert_alarm a [] = a ∷ []
insert_alarm a (b ∷ bs) = cond (alarm_before a b) (a ∷ b ∷ bs) (cond (alarm_before b a) (b ∷ insert_alarm a bs) (b ∷ bs))

-- by statement and kind, each once
unfoldable pub sort_alarms : List Alarm → List Alarm
sort_alarms [] = []
sort_alarms (a ∷ as₁) = insert_alarm a (sort_alarms as₁)

-- a program's alarms in order
abbrev pub alarms_of : Program → List Alarm
alarms_of p = sort_alarms (analyse_program p).alarms

-- a variable's interval at the end; no row if no run comes to an end
unfoldable pub end_interval : Abstract → ℕ → List (List ℕ)
end_interval unreached x = []
end_interval (reached w) x = (eight (nth_interval w.values x).lo ++ eight (nth_interval w.values x).hi) ∷ []

-- what a command answers
unfoldable pub respond : Program → Command → Response
respond p (load q) = answer [] q
respond p all_alarms = answer (map (λ a. eight a.stmt ++ a.kind ∷ []) (alarms_of p)) p
respond p (at_end x) = cond (nat_lt x p.vars) (answer (end_interval (analyse_program p).out x) p) (refuse 3 p)
