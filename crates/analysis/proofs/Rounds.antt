-- After the round limit a loop has settled: each round that is not the last lowers what is left to widen, once the
-- joined rounds are over. Rests on Measure, and on Join for what joins keep.
use Rattle.std.proofs.Common.{◌≡◌, ℕ, zero, suc, ◌+◌, ◌-◌, ◌*◌, ◌<◌, ◌≤◌, Bool, true, false, cond, ◌&&◌, List, length, refl, mul_assoc, mul_comm, add-mul, mul-le-mul_left, arith}
use lib.Dec.{eqb-suc-zero}
use Rattle.std.proofs.lemmas.Bool.Decides.{nat_tests}
use Rattle.interval.specs.Interval.{Interval, join_interval, widen_interval}
use Rattle.analysis.specs.Reach.{unreached, reached, ReachedAnd}
use Rattle.analysis.specs.AbstractState.{Abstract, merge, join, widen, all_within, within}
use Rattle.analysis.specs.Iteration.{iterate}
use Rattle.analysis.specs.Thresholds.{thresholds}
use Rattle.analysis.specs.Whole.{round_limit}
use Rattle.analysis.specs.Statements.{RoundsSuffice}
use Rattle.analysis.proofs.Relations.{Proper, ProperEnv, Well, well_from_test, well_to_test}
use Rattle.analysis.proofs.Join.{join_proper, merge_well}
use Rattle.analysis.proofs.Measure.{below_low, above_high, total, total_step, total_less, total_most}

-- widening keeps intervals proper
pub widen_proper : (ms : List ℕ) (a b : Interval) → Proper a → Proper b → Proper (widen_interval ms a b)
widen_proper ms a b h g =
    let l = below_low b.lo ms in let u = above_high b.hi ms g.1 in (grind (arith, nat_tests), grind (arith, nat_tests))

less_one : (k : ℕ) → suc k - 1 ≡ k
less_one k = omega arith

-- how far all intervals together can still be widened
abbrev height : List ℕ → Abstract → ℕ
height ms unreached = 0
height ms (reached w) = total ms w.values + total ms w.arrays

module _ (v r : ℕ) where
  -- merging keeps a reached state reached and well formed
  merge_here : (f : Interval → Interval → Interval) → ((a b : Interval) → Proper a → Proper b → Proper (f a b)) → (h g : Abstract) →
      ReachedAnd (ProperEnv v r) h → Well v r g → ReachedAnd (ProperEnv v r) (merge f h g)
  unfolding merge
  merge_here f k unreached g p q = absurd p
  merge_here f k (reached w) unreached p q = p
  merge_here f k (reached w) (reached u) p q = merge_well f k v r (reached w) (reached u) p q

  here_well : (h : Abstract) → ReachedAnd (ProperEnv v r) h → Well v r h
  here_well unreached p = absurd p
  here_well (reached w) p = p

  -- no well formed state is higher than this
  height_most : (ms : List ℕ) (h : Abstract) → ReachedAnd (ProperEnv v r) h → height ms h ≤ (v + r) * (2 * suc (length ms))
  height_most ms unreached p = absurd p
  height_most ms (reached w) (a, b, c, d) =
      let x = total_most ms w.values in let y = total_most ms w.arrays in
      rw (← a, ← b, add-mul (length w.values) (length w.arrays) (2 * suc (length ms))) (omega arith)

  -- a round that brings something new lowers the height
  round_lower : (ms : List ℕ) (h g : Abstract) → ReachedAnd (ProperEnv v r) h → Well v r g → within g h ≡ false → height ms (widen ms h (join h g)) < height ms h
  unfolding merge within
  round_lower ms unreached g p q n = absurd p
  round_lower ms (reached w) unreached p q n = absurd (grind arith)
  round_lower ms (reached w) (reached u) (a, b, c, d) (e, i, j, l) n = go (all_within u.values w.values) refl n
    where
      same-v : length u.values ≡ length w.values
      same-v = omega arith

      same-a : length u.arrays ≡ length w.arrays
      same-a = omega arith

      go : (y : Bool) → all_within u.values w.values ≡ y → (y && all_within u.arrays w.arrays) ≡ false →
          height ms (widen ms (reached w) (join (reached w) (reached u))) < height ms (reached w)
      go true x m = let s = total_step ms w.values u.values j same-v in let t = total_less ms w.arrays u.arrays l same-a m in omega arith
      go false x m = let s = total_less ms w.values u.values j same-v x in let t = total_step ms w.arrays u.arrays l same-a in omega arith

module _ (v r : ℕ) (ms : List ℕ) (f : Abstract → Abstract) (keeps : (g : Abstract) → Well v r g → Well v r (f g)) where
  -- one more round brings nothing new
  abbrev Settled : Abstract → Type 0
  Settled h = within (f h) h ≡ true

  -- a round that settles ends the rounds; else it is for the next to settle
  settled_or : (h g : Abstract) (c : Bool) → within (f h) h ≡ c → (c ≡ false → Settled g) → Settled (cond c h g)
  settled_or h g true e k = e
  settled_or h g false e k = k refl

  -- once widening has begun
  widening : (n : ℕ) (h : Abstract) → ReachedAnd (ProperEnv v r) h → height ms h < n → Settled (iterate ms 0 n f h)
  unfolding iterate
  widening zero h p l = absurd (omega arith)
  widening (suc n) h p l =
      settled_or h (iterate ms 0 n f (widen ms h (join h (f h)))) (within (f h) h) refl (λ e.
      let q = keeps h (here_well v r h p) in let k = round_lower v r ms h (f h) p q e in
      let i = merge_here v r join_interval join_proper h (f h) p q in
      widening n (widen ms h (join h (f h))) (merge_here v r (widen_interval ms) (widen_proper ms) h (join h (f h)) p (here_well v r (join h (f h)) i)) (omega arith))

  -- while rounds are joined
  joining : (k n : ℕ) (h : Abstract) → ReachedAnd (ProperEnv v r) h → k + (v + r) * (2 * suc (length ms)) < n → Settled (iterate ms k n f h)
  unfolding iterate
  joining zero n h p l = let m = height_most v r ms h p in widening n h p (omega arith)
  joining (suc k) zero h p l = absurd (omega arith)
  joining (suc k) (suc n) h p l = rw (less_one k, eqb-suc-zero k)
      (settled_or h (iterate ms k n f (join h (f h))) (within (f h) h) refl (λ e.
      joining k n (join h (f h)) (merge_here v r join_interval join_proper h (f h) p (keeps h (here_well v r h p))) (omega arith)))

  -- where nothing comes at first, the first round that brings something is a joined one
  from_unreached : (n : ℕ) (g : Abstract) → Well v r g → f unreached ≡ g → 3 + (v + r) * (2 * suc (length ms)) < n → Settled (cond (within g unreached) unreached (iterate ms 3 n f g))
  unfolding within
  from_unreached n unreached p e l = rw e refl
  from_unreached n (reached w) p e l = joining 3 n (reached w) p l

-- after more rounds than four and two for each bound and threshold, one more brings nothing new
pub settles : (v r : ℕ) (ms : List ℕ) (n : ℕ) (f : Abstract → Abstract) (h : Abstract) → ((g : Abstract) → Well v r g → Well v r (f g)) → Well v r h →
    4 + (v + r) * (2 * suc (length ms)) < n → within (f (iterate ms 4 n f h)) (iterate ms 4 n f h) ≡ true
unfolding iterate merge
settles v r ms n f (reached w) keeps p l = joining v r ms f keeps 4 n (reached w) p l
settles v r ms zero f unreached keeps p l = absurd (omega arith)
settles v r ms (suc n) f unreached keeps p l = from_unreached v r ms f keeps n (f unreached) (keeps unreached tt) refl (omega arith)

-- the round limit is more than that
pub enough : (a m : ℕ) → 4 + a * (2 * suc m) < 5 + 2 * a * (2 + m)
enough a m =
    let e : 2 * suc m ≤ 2 * (2 + m) = omega arith in let k = mul-le-mul_left a e in
    rw (mul_comm 2 a, mul_assoc a 2 (2 + m)) (omega arith)

pub rounds_suffice : RoundsSuffice
unfolding RoundsSuffice
rounds_suffice p f h keeps k =
    settles p.vars (length p.arrays) (thresholds p) (round_limit p) f h (λ g q. well_from_test p (f g) (keeps g (well_to_test p g q))) (well_from_test p h k)
    (enough (p.vars + length p.arrays) (length (thresholds p)))
