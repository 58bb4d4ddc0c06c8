-- Lists of intervals of the code against those of the definitions: look-ups, writes, what is done interval by interval.
-- Rests on the library's lemmas of lists alone.
use Rattle.std.proofs.Common.{◌≡◌, ℕ, zero, suc, ◌<◌, ◌&&◌, List, [], ◌∷◌, length, get_or, refl, ap, arith}
use Rattle.std.specs.List.{list_all, zip}
use Rattle.interval.specs.Interval as plain
use Rattle.interval.specs.Interval.{interval, within_interval}
use Rattle.interval.specs.declared.types.Interval.{Interval}
use Rattle.interval.specs.Of.{as_interval}
use Rattle.analysis.specs.AbstractState.{nth_interval, zip_with, all_within}
use Rattle.state.specs.Of.{as_intervals}

-- what stands at a place of the list
pub nth_within : (ss : List Interval) (i : ℕ) (d : Interval) → i < length ss → as_interval (get_or ss i d) ≡ nth_interval (as_intervals ss) i
unfolding nth_interval
nth_within [] i d h = absurd (omega arith)
nth_within (s ∷ ss) zero d h = refl
nth_within (s ∷ ss) (suc i) d h = nth_within ss i d (omega arith)

-- what stands at a place, or 0 to 0 past the end
pub nth_or : (ss : List Interval) (i : ℕ) (d : Interval) → as_interval d ≡ interval 0 0 → as_interval (get_or ss i d) ≡ nth_interval (as_intervals ss) i
unfolding nth_interval
nth_or [] i d h = h
nth_or (s ∷ ss) zero d h = refl
nth_or (s ∷ ss) (suc i) d h = nth_or ss i d h

-- a list that has f of the two lists' intervals at each place is their zip
pub zip_at : (f : plain.Interval → plain.Interval → plain.Interval) (rs ss ts : List Interval) → length rs ≡ length ss → length ss ≡ length ts →
    ((k : ℕ) (d : Interval) → k < length ts → as_interval (get_or rs k d) ≡ f (as_interval (get_or ss k d)) (as_interval (get_or ts k d))) →
    as_intervals rs ≡ zip_with f (as_intervals ss) (as_intervals ts)
unfolding zip_with
zip_at f [] [] ts e g h = refl
zip_at f [] (s ∷ ss) ts e g h = absurd (omega arith)
zip_at f (r ∷ rs) [] ts e g h = absurd (omega arith)
zip_at f (r ∷ rs) (s ∷ ss) [] e g h = absurd (omega arith)
zip_at f (r ∷ rs) (s ∷ ss) (t ∷ ts) e g h = let p = h 0 r (omega arith) in
    let q = zip_at f rs ss ts (omega arith) (omega arith) (λ k d l. h (suc k) d (omega arith)) in cc

-- of two lists of one length, all pairs lie within one another if the first list lies within the second
pub within-zip : (ss ts : List Interval) → length ss ≡ length ts →
    list_all (λ (p : Interval × Interval). within_interval (as_interval p.0) (as_interval p.1)) (zip ss ts) ≡ all_within (as_intervals ss) (as_intervals ts)
unfolding all_within
within-zip [] ts e = refl
within-zip (s ∷ ss) [] e = absurd (omega arith)
within-zip (s ∷ ss) (t ∷ ts) e = ap (λ b. within_interval (as_interval s) (as_interval t) && b) (within-zip ss ts (omega arith))
