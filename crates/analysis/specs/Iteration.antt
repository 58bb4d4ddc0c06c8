-- Loops: rounds until nothing new comes. Assumes nothing: these are definitions.
use Rattle.std.specs.Prelude.{ℕ, zero, suc, ◌-◌, cond, List, ◌==◌}
use Rattle.analysis.specs.AbstractState.{Abstract, join, widen, within}

-- a loop: f once more until nothing new comes; the first k times joined, from then on widened; at most n rounds
unfoldable pub iterate : List ℕ → ℕ → ℕ → (Abstract → Abstract) → Abstract → Abstract
iterate ms k zero f h = h
iterate ms k (suc n) f h =
    cond (within (f h) h) h (iterate ms (k - 1) n f (cond (k == 0) (widen ms h (join h (f h))) (join h (f h))))
