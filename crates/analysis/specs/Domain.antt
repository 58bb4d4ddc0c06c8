-- The analyser over any domain: what a domain must offer, and one pass through a program with it. Assumes nothing: these are definitions.
use Rattle.std.specs.Prelude.{ℕ, Bool, true, false, List, [], ◌++◌}
use Rattle.program.specs.Syntax.{Test, Stmt, skip, assign, store, input, check, seq, branch, loop}
use Rattle.analysis.specs.Reach.{Reach, bind, Analysis, analysis, alarms_at, with_alarms, if_reached}

-- what is known of a state, and how statements without parts, tests, joins and loops act on it
pub record Domain : Type 1 where
  pub Known : Type 0
  pub simple : Stmt → Known → Analysis Known
  pub assume : Bool → Test → Known → Reach Known
  pub faults : Test → Known → List ℕ
  pub join : Reach Known → Reach Known → Reach Known
  pub iterate : (Reach Known → Reach Known) → Reach Known → Reach Known

-- one pass through a statement
unfoldable pub walk : (D : Domain) → Stmt → Reach D.Known → Analysis D.Known
walk D skip h = analysis h []
walk D (assign p x e) h = if_reached h (λ w. D.simple (assign p x e) w)
walk D (store p r a e) h = if_reached h (λ w. D.simple (store p r a e) w)
walk D (input p x a b) h = if_reached h (λ w. D.simple (input p x a b) w)
walk D (check p t) h = if_reached h (λ w. D.simple (check p t) w)
walk D (seq a b) h = with_alarms (walk D a h).alarms (walk D b (walk D a h).out)
walk D (branch p t a b) h =
    if_reached h (λ w. with_alarms (alarms_at p (D.faults t w))
    (let x : Analysis D.Known = walk D a (D.assume true t w) in
    let y : Analysis D.Known = walk D b (D.assume false t w) in
    analysis (D.join x.out y.out) (x.alarms ++ y.alarms)))
walk D (loop p t a) h =
    let inv : Reach D.Known = D.iterate (λ g. D.join h (bind g (λ v. (walk D a (D.assume true t v)).out))) h in
    if_reached inv (λ w. with_alarms (alarms_at p (D.faults t w)) (analysis (D.assume false t w) (walk D a (D.assume true t w)).alarms))
