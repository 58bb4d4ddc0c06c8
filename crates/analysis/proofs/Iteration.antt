-- Loops: what the rounds end with is well formed, lies above what they begin with, and holds all that reach the loop's head.
-- Rests on the order and on Rounds, by which the rounds settle.
use Rattle.std.proofs.Common.{ℕ, zero, suc, ◌+◌, ◌-◌, ◌*◌, ◌<◌, Bool, true, false, cond, eqb, List, length, subst, arith}
use Rattle.std.proofs.lemmas.Bool.Decides.{nat_tests}
use Rattle.std.proofs.lemmas.Bool.{cond_both}
use Rattle.program.specs.Semantics.{State}
use Rattle.interval.specs.Interval.{Interval, widen_interval}
use Rattle.analysis.specs.Reach.{unreached, reached}
use Rattle.analysis.specs.AbstractState.{Abstract, join, widen, within}
use Rattle.analysis.specs.Iteration.{iterate}
use Rattle.analysis.specs.Lawful.{Steps}
use Rattle.analysis.proofs.Relations.{Covers, Proper, Well}
use Rattle.analysis.proofs.Order.{Inside, Below, below_self, below_trans, below_from_test, covers_below, well_size}
use Rattle.analysis.proofs.Join.{Intervals, merge_left, merge_well, join_well, join_above_left}
use Rattle.analysis.proofs.Measure.{below_low, above_high}
use Rattle.analysis.proofs.Rounds.{widen_proper, settles}

widen_above : (ms : List ℕ) (a b : Interval) → Proper a → Proper b → Inside a (widen_interval ms a b)
widen_above ms a b p q =
    let l = below_low b.lo ms in let u = above_high b.hi ms q.1 in (grind (arith, nat_tests), grind (arith, nat_tests))

well_intervals : (v r : ℕ) (h : Abstract) → Well v r h → Intervals Proper h
well_intervals v r unreached p = tt
well_intervals v r (reached w) p = (p.2, p.3)

module _ (v r : ℕ) (ms : List ℕ) (f : Abstract → Abstract) (keeps : (g : Abstract) → Well v r g → Well v r (f g)) where
  -- the next round begins with this
  abbrev next : Bool → Abstract → Abstract
  next b h = cond b (widen ms h (join h (f h))) (join h (f h))

  next_well : (b : Bool) (h : Abstract) → Well v r h → Well v r (next b h)
  next_well true h p = merge_well (widen_interval ms) (widen_proper ms) v r h (join h (f h)) p (join_well v r h (f h) p (keeps h p))
  next_well false h p = join_well v r h (f h) p (keeps h p)

  next_above : (b : Bool) (h : Abstract) → Well v r h → Below h (next b h)
  next_above true h p =
      let q = join_well v r h (f h) p (keeps h p) in
      merge_left Proper (widen_interval ms) (widen_above ms) h (join h (f h)) (well_size v r h (join h (f h)) p q) (well_intervals v r h p) (well_intervals v r (join h (f h)) q)
  next_above false h p = join_above_left h (f h) (well_size v r h (f h) p (keeps h p))

  -- the rounds keep abstract states well formed
  pub iterate_well : (n k : ℕ) (h : Abstract) → Well v r h → Well v r (iterate ms k n f h)
  unfolding iterate
  iterate_well zero k h p = p
  iterate_well (suc n) k h p =
      cond_both (within (f h) h) h (iterate ms (k - 1) n f (next (eqb k 0) h)) (Well v r) (λ e. p) (λ e. iterate_well n (k - 1) (next (eqb k 0) h) (next_well (eqb k 0) h p))

  -- the rounds end above what they begin with
  pub iterate_above : (n k : ℕ) (h : Abstract) → Well v r h → Below h (iterate ms k n f h)
  unfolding iterate
  iterate_above zero k h p = below_self h
  iterate_above (suc n) k h p =
      let g = next (eqb k 0) h in
      cond_both (within (f h) h) h (iterate ms (k - 1) n f g) (Below h) (λ e. below_self h)
      (λ e. below_trans h g (iterate ms (k - 1) n f g) (next_above (eqb k 0) h p) (iterate_above n (k - 1) g (next_well (eqb k 0) h p)))

  -- with rounds enough they hold every state that steps of R lead to, if one round goes along with each step
  pub iterate_holds : (ns : List ℕ) (R : State → State → Type 0) (n : ℕ) → 4 + (v + r) * (2 * suc (length ms)) < n → (h : Abstract) → Well v r h →
      ((s t : State) (g : Abstract) → Well v r g → Covers ns s g → R s t → Covers ns t (f g)) →
      (m : ℕ) (s t : State) → Covers ns s h → Steps R m s t → Covers ns t (iterate ms 4 n f h)
  iterate_holds ns R n l h p step zero s t c e = covers_below ns t h (iterate ms 4 n f h) (iterate_above n 4 h p) (subst (λ u. Covers ns u h) e c)
  iterate_holds ns R n l h p step (suc m) s t c (u, e, o) =
      let g = iterate ms 4 n f h in
      let q = iterate_well n 4 h p in
      covers_below ns t (f g) g (below_from_test (f g) g (well_size v r (f g) g (keeps g q) q) (settles v r ms n f h keeps p l))
      (step u t g q (iterate_holds ns R n l h p step m s u c e) o)
