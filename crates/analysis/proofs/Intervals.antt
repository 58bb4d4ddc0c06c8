-- Intervals are a lawful domain, and the analyser over them is the plain analyser. Rests on the soundness of each operation.
use Rattle.std.proofs.Common.{ℕ, suc, ◌+◌, ◌*◌, ◌<◌, true, false, List, ◌++◌, length, sym, refl, ap, subst, ap₂}
use mathlib.Core.Path.{fun_ext}
use Rattle.program.specs.Syntax.{Stmt, skip, assign, store, input, check, seq, branch, loop}
use Rattle.program.specs.Semantics.{State, run}
use Rattle.analysis.specs.Reach.{unreached, reached, bind, Analysis, analysis, alarms_at, with_alarms, if_reached}
use Rattle.analysis.specs.AbstractState.{Env, Abstract, join}
use Rattle.analysis.specs.Assume.{assume, test_faults}
use Rattle.analysis.specs.Iteration.{iterate}
use Rattle.analysis.specs.Analyser.{analyse}
use Rattle.analysis.specs.Domain.{walk}
use Rattle.analysis.specs.Lawful.{RunTold, Each, Lawful}
use Rattle.analysis.specs.IntervalDomain.{intervals, AnalyseIsWalk}
use Rattle.analysis.proofs.Relations.{Describes, Covers, ProperEnv, Well}
use Rattle.analysis.proofs.Order.{covers_below, well_size}
use Rattle.analysis.proofs.Join.{join_well, join_above_left, join_above_right}
use Rattle.analysis.proofs.Kept.{assume_well}
use Rattle.analysis.proofs.Assume.{assume_told}
use Rattle.analysis.proofs.Walk.{walk_good, walk_told}
use Rattle.analysis.proofs.Iteration.{iterate_well, iterate_holds}
use Rattle.analysis.proofs.Analyser.{Simple, simple_told, simple_well}

-- v variables and r arrays, with rounds enough to settle
pub intervals_lawful : (v r : ℕ) (ns ms : List ℕ) (n : ℕ) → 4 + (v + r) * (2 * suc (length ms)) < n → Lawful (intervals ns ms n) Simple
intervals_lawful v r ns ms n l = record {
  γ = Describes ns;
  good = ProperEnv v r;
  simple_good = λ d w c g. simple_well v r ns ms n d w c g;
  simple_sound = λ d m s w c g h. simple_told ns ms n d m s w c h;
  assume_good = λ outcome t w g. assume_well v r ns t outcome w g;
  test_sound = λ t s w g h. assume_told ns s t w h;
  join_good = λ h g p q. join_well v r h g p q;
  join_left = λ s h g p q c. covers_below ns s h (join h g) (join_above_left h g (well_size v r h g p q)) c;
  join_right = λ s h g p q c. covers_below ns s g (join h g) (join_above_right h g (well_size v r h g p q)) c;
  iterate_good = λ f h keeps p. iterate_well v r ms f keeps n 4 h p;
  iterate_sound = λ R f h keeps p first step m s t c e. iterate_holds v r ms f keeps ns R n l h p step m s t c e;
}

pub analyse_is_walk : AnalyseIsWalk
unfolding AnalyseIsWalk walk analyse if_reached
analyse_is_walk ns ms n skip h = refl
analyse_is_walk ns ms n (assign p x e) unreached = refl
analyse_is_walk ns ms n (assign p x e) (reached w) = refl
analyse_is_walk ns ms n (store p r a e) unreached = refl
analyse_is_walk ns ms n (store p r a e) (reached w) = refl
analyse_is_walk ns ms n (input p x a b) unreached = refl
analyse_is_walk ns ms n (input p x a b) (reached w) = refl
analyse_is_walk ns ms n (check p t) unreached = refl
analyse_is_walk ns ms n (check p t) (reached w) = refl
analyse_is_walk ns ms n (seq a b) h =
    ap₂ (λ (A B : Abstract → Analysis Env). with_alarms (A h).alarms (B (A h).out)) (fun_ext (analyse_is_walk ns ms n a)) (fun_ext (analyse_is_walk ns ms n b))
analyse_is_walk ns ms n (branch p t a b) h =
    ap₂ (λ (A B : Abstract → Analysis Env). if_reached h (λ w. with_alarms (alarms_at p (test_faults ns t w))
    (analysis (join (A (assume ns true t w)).out (B (assume ns false t w)).out) ((A (assume ns true t w)).alarms ++ (B (assume ns false t w)).alarms))))
    (fun_ext (analyse_is_walk ns ms n a)) (fun_ext (analyse_is_walk ns ms n b))
analyse_is_walk ns ms n (loop p t a) h =
    ap (λ (A : Abstract → Analysis Env). if_reached (iterate ms 4 n (λ g. join h (bind g (λ v. (A (assume ns true t v)).out))) h)
    (λ w. with_alarms (alarms_at p (test_faults ns t w)) (analysis (assume ns false t w) (A (assume ns true t w)).alarms)))
    (fun_ext (analyse_is_walk ns ms n a))

-- every run of a statement is told by its analysis, with rounds enough to settle
pub analyse_told : (v r : ℕ) (ns ms : List ℕ) (n : ℕ) → 4 + (v + r) * (2 * suc (length ms)) < n → (d : Stmt) → Each Simple d →
    (m : ℕ) (s : State) (h : Abstract) → Well v r h → Covers ns s h → RunTold (Describes ns) (analyse ns ms n d h) (run m d s)
unfolding intervals_lawful AnalyseIsWalk
analyse_told v r ns ms n l d c m s h w k =
    subst (λ a. RunTold (Describes ns) a (run m d s)) (sym (analyse_is_walk ns ms n d h)) (walk_told (intervals ns ms n) Simple (intervals_lawful v r ns ms n l) d c m s h w k)

-- and what is known behind it is well formed
pub analyse_well : (v r : ℕ) (ns ms : List ℕ) (n : ℕ) → 4 + (v + r) * (2 * suc (length ms)) < n → (d : Stmt) → Each Simple d →
    (h : Abstract) → Well v r h → Well v r (analyse ns ms n d h).out
unfolding intervals_lawful AnalyseIsWalk
analyse_well v r ns ms n l d c h w =
    subst (λ a. Well v r a.out) (sym (analyse_is_walk ns ms n d h)) (walk_good (intervals ns ms n) Simple (intervals_lawful v r ns ms n l) d c h w)
