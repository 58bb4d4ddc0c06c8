-- Going on from what may be reached: what holds of each that comes in holds of what comes out. Rests on the definitions alone.
use Rattle.analysis.specs.Reach.{Reach, unreached, reached, bind, ReachedAnd, ReachedImplies}

-- something comes out, if something comes in
pub bind_and : {K L : Type 0} (P : K → Type 0) (Q : L → Type 0) (h : Reach K) (f : K → Reach L) → ((w : K) → P w → ReachedAnd Q (f w)) → ReachedAnd P h → ReachedAnd Q (bind h f)
unfolding bind
bind_and P Q unreached f k p = absurd p
bind_and P Q (reached w) f k p = k w p

-- whether or not something comes in
pub bind_implies : {K L : Type 0} (P : K → Type 0) (Q : L → Type 0) (h : Reach K) (f : K → Reach L) → ((w : K) → P w → ReachedImplies Q (f w)) → ReachedImplies P h → ReachedImplies Q (bind h f)
unfolding bind
bind_implies P Q unreached f k p = tt
bind_implies P Q (reached w) f k p = k w p
