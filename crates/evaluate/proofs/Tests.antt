-- Tests made of tests: what is known in any abstract state by what is known of the parts.
use Rattle.std.proofs.Common.{◌≡◌, ℕ, true, false, List, [], ◌∷◌, ◌++◌, sym, refl, ap, ◌∙◌, subst, arith}
use Rattle.std.proofs.lemmas.Bool.Decides.{nat_tests}
use Rattle.program.specs.Basics.{smaller, larger}
use Rattle.program.specs.Syntax.{Test, not_test, and_test, or_test}
use Rattle.interval.specs.Interval.{Interval, join_interval}
use Rattle.interval.specs.declared.types.Faults.{Faults}
use Rattle.interval.specs.Of.{Faulty, faults_or}
use Rattle.interval.proofs.Combining.{faulty_or}
use Rattle.analysis.specs.Reach.{unreached, reached, bind, faults_in}
use Rattle.analysis.specs.AbstractState.{Abstract, zip_with, merge, join}
use Rattle.analysis.specs.Assume.{assume, test_faults}
use Rattle.analysis.specs.Clauses.{assume_here, faults_here}
use Rattle.state.specs.Of.{as_abstract}
use Rattle.state.specs.declared.types.Abstract.{Abstract as CodeAbstract}
use Rattle.evaluate.specs.declared.types.Ways.{Ways}
use Rattle.evaluate.specs.Found.{Splits}

-- joins do not depend on the order
interval_swap : (a b : Interval) → join_interval a b ≡ join_interval b a
interval_swap a b =
    let low : smaller a.lo b.lo ≡ smaller b.lo a.lo = grind (arith, nat_tests) in
    let high : larger a.hi b.hi ≡ larger b.hi a.hi = grind (arith, nat_tests) in
    cc

zip_swap : (ss ts : List Interval) → zip_with join_interval ss ts ≡ zip_with join_interval ts ss
unfolding zip_with
zip_swap [] [] = refl
zip_swap [] (t ∷ ts) = refl
zip_swap (s ∷ ss) [] = refl
zip_swap (s ∷ ss) (t ∷ ts) = let e = interval_swap s t in let f = zip_swap ss ts in cc

pub join_swap : (h g : Abstract) → join h g ≡ join g h
unfolding merge
join_swap unreached unreached = refl
join_swap unreached (reached v) = refl
join_swap (reached w) unreached = refl
join_swap (reached w) (reached v) = let e = zip_swap w.values v.values in let f = zip_swap w.arrays v.arrays in cc

-- both hold; the first does not, or the first does and the second does not
and_holds : (ns : List ℕ) (t u : Test) (h : Abstract) → assume_here ns true (and_test t u) h ≡ assume_here ns true u (assume_here ns true t h)
unfolding assume bind
and_holds ns t u unreached = refl
and_holds ns t u (reached w) = refl

and_fails : (ns : List ℕ) (t u : Test) (h : Abstract) →
    assume_here ns false (and_test t u) h ≡ join (assume_here ns false t h) (assume_here ns false u (assume_here ns true t h))
unfolding assume bind merge
and_fails ns t u unreached = refl
and_fails ns t u (reached w) = refl

and_faults : (ns : List ℕ) (t u : Test) (h : Abstract) → faults_here ns (and_test t u) h ≡ faults_here ns t h ++ faults_here ns u (assume_here ns true t h)
unfolding test_faults faults_in bind
and_faults ns t u unreached = refl
and_faults ns t u (reached w) = refl

-- the first holds, or it does not and the second does; neither does
or_holds : (ns : List ℕ) (t u : Test) (h : Abstract) →
    assume_here ns true (or_test t u) h ≡ join (assume_here ns true t h) (assume_here ns true u (assume_here ns false t h))
unfolding assume bind merge
or_holds ns t u unreached = refl
or_holds ns t u (reached w) = refl

or_fails : (ns : List ℕ) (t u : Test) (h : Abstract) → assume_here ns false (or_test t u) h ≡ assume_here ns false u (assume_here ns false t h)
unfolding assume bind
or_fails ns t u unreached = refl
or_fails ns t u (reached w) = refl

or_faults : (ns : List ℕ) (t u : Test) (h : Abstract) → faults_here ns (or_test t u) h ≡ faults_here ns t h ++ faults_here ns u (assume_here ns false t h)
unfolding test_faults faults_in bind
or_faults ns t u unreached = refl
or_faults ns t u (reached w) = refl

-- the same test, the same end
pub split_same : (ns : List ℕ) (h : Abstract) (t u : Test) (mid stop : ℕ) (a : Ways) → t ≡ u → mid ≡ stop → Splits mid ns h t a → Splits stop ns h u a
split_same ns h t u mid stop a e is s = subst (λ (v : Test). Splits stop ns h v a) e (subst (λ (k : ℕ). Splits k ns h t a) is s)

pub split_not : (ns : List ℕ) (h : Abstract) (t : Test) (stop : ℕ) (a : Ways) (y n : CodeAbstract) → Splits stop ns h t a → y ≡ a.no → n ≡ a.yes →
    Splits stop ns h (not_test t) (record { yes = y; no = n; faults = a.faults; end = a.end })
unfolding assume test_faults
split_not ns h t stop a y n s e f = rw (e, f) (record { yes = s.no; no = s.yes; faults = s.faults; end = s.end })

-- the faults of two tests, the second worked out from g
two_faults : (ns : List ℕ) (h g : Abstract) (t u : Test) (f e d : Faults) → d ≡ faults_or f e → Faulty f (faults_here ns t h) → Faulty e (faults_here ns u g) →
    Faulty d (faults_here ns t h ++ faults_here ns u g)
two_faults ns h g t u f e d is p q = rw is (faulty_or f e (faults_here ns t h) (faults_here ns u g) p q)

pub split_and : (ns : List ℕ) (h : Abstract) (t u : Test) (mid stop : ℕ) (a b : Ways) (j : CodeAbstract) (d : Faults) →
    Splits mid ns h t a → Splits stop ns (as_abstract a.yes) u b →
    as_abstract j ≡ join (as_abstract b.no) (as_abstract a.no) → d ≡ faults_or a.faults b.faults →
    Splits stop ns h (and_test t u) (record { yes = b.yes; no = j; faults = d; end = b.end })
split_and ns h t u mid stop a b j d p q joined both =
    record {
      yes = q.yes ∙ ap (λ (g : Abstract). assume_here ns true u g) p.yes ∙ sym (and_holds ns t u h);
      no = rw (joined, join_swap (as_abstract b.no) (as_abstract a.no), q.no, p.yes, p.no) (sym (and_fails ns t u h));
      faults = rw (and_faults ns t u h) (two_faults ns h (assume_here ns true t h) t u a.faults b.faults d both p.faults (rw p.yes at q.faults));
      end = q.end;
    }

pub split_or : (ns : List ℕ) (h : Abstract) (t u : Test) (mid stop : ℕ) (a b : Ways) (j : CodeAbstract) (d : Faults) →
    Splits mid ns h t a → Splits stop ns (as_abstract a.no) u b →
    as_abstract j ≡ join (as_abstract b.yes) (as_abstract a.yes) → d ≡ faults_or a.faults b.faults →
    Splits stop ns h (or_test t u) (record { yes = j; no = b.no; faults = d; end = b.end })
split_or ns h t u mid stop a b j d p q joined both =
    record {
      yes = rw (joined, join_swap (as_abstract b.yes) (as_abstract a.yes), q.yes, p.no, p.yes) (sym (or_holds ns t u h));
      no = q.no ∙ ap (λ (g : Abstract). assume_here ns false u g) p.no ∙ sym (or_fails ns t u h);
      faults = rw (or_faults ns t u h) (two_faults ns h (assume_here ns false t h) t u a.faults b.faults d both p.faults (rw p.no at q.faults));
      end = q.end;
    }
