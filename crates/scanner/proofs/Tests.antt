-- Tests by their first byte: each kind is its parts behind that byte. Rests on Forms, and on what stands behind a first byte.
use Rattle.std.proofs.Common.{◌≡◌, ℕ, zero, suc, ◌+◌, ◌-◌, ◌<◌, ◌≤◌, Bool, true, false, ◌&&◌, leb, List, length, Some, None, Option, sym, refl, subst, arith}
use Rattle.std.proofs.lemmas.Bool.{and_parts, leb-true}
use Rattle.std.proofs.lemmas.Bool.Decides.{nat_tests}
use Rattle.std.specs.Option.{option_map}
use Rattle.program.specs.Syntax.{Test, less, equal, not_test, and_test, or_test}
use Rattle.program.specs.Encoding.{encode_test}
use Rattle.program.specs.Validity.{valid_test, test_size}
use Rattle.encoding.specs.Parts.{TestAt}
use Rattle.encoding.proofs.Lengths.{test_long}
use Rattle.encoding.proofs.Parts.{test_at, less_at, equal_at, not_at, and_at, or_at}
use Rattle.scanner.specs.declared.scan.TestEnd.{TestEnd}
use Rattle.scanner.specs.Bytes.{ByteAt}
use Rattle.scanner.specs.Form.{Form, followed, Scanned}
use Rattle.scanner.specs.Parts.{exprs_form}
use Rattle.scanner.specs.Trees.{test_form}
use Rattle.scanner.proofs.Forms.{Tagged, then_second, made, made_same}
use Rattle.scanner.proofs.Parts.{some_within}

no_kind : (text : List ℕ) (pos : ℕ) (e : Test) (k : ℕ) → 5 ≤ k → TestAt k text pos e → ⊥
no_kind text pos e zero l h = omega arith
no_kind text pos e (suc zero) l h = omega arith
no_kind text pos e (suc (suc zero)) l h = omega arith
no_kind text pos e (suc (suc (suc zero))) l h = omega arith
no_kind text pos e (suc (suc (suc (suc zero)))) l h = omega arith
no_kind text pos e (suc (suc (suc (suc (suc k))))) l h = h

some_size : (t : Test) → 1 ≤ test_size t
unfolding test_size
some_size (less a b) = omega arith
some_size (equal a b) = omega arith
some_size (not_test t) = omega arith
some_size (and_test t u) = omega arith
some_size (or_test t u) = omega arith

-- how the room is shared
one_fits : (p : Bool) (m : ℕ) → 0 < m → (p && leb 1 m) ≡ p
one_fits p m l = grind (arith, nat_tests)

more_fits : (p : Bool) (s m : ℕ) → 0 < m → (p && leb (suc s) m) ≡ (p && leb s (m - 1))
more_fits p s m l = grind (arith, nat_tests)

two_fit : (p q : Bool) (s t m : ℕ) → 0 < m → ((p && q) && leb (suc (s + t)) m) ≡ ((p && leb s (m - 1)) && (q && leb t (m - 1 - s)))
two_fit true true s t m l = grind (arith, nat_tests)
two_fit true false s t m l = grind (arith, nat_tests)
two_fit false q s t m l = refl

module _ (n r m : ℕ) (some : 0 < m) where
  -- a comparison is one test
  abbrev compared : ℕ → TestEnd
  compared s = record { end = s; room = m - 1 }

  pub less_tagged : Tagged (exprs_form n r) (test_form n r m) 0 (λ p. less p.0 p.1) compared
  unfolding valid_test encode_test test_size
  less_tagged = record {
    passes = λ v. one_fits _ m some;
    bytes = λ v. refl;
    answer = λ stop v s p a. record { stops = a; leaves = omega arith };
    back = λ text pos w h e. let q = less_at text pos w h e in ((q.a, q.b), sym q.is);
  }

  pub equal_tagged : Tagged (exprs_form n r) (test_form n r m) 1 (λ p. equal p.0 p.1) compared
  unfolding valid_test encode_test test_size
  equal_tagged = record {
    passes = λ v. one_fits _ m some;
    bytes = λ v. refl;
    answer = λ stop v s p a. record { stops = a; leaves = omega arith };
    back = λ text pos w h e. let q = equal_at text pos w h e in ((q.a, q.b), sym q.is);
  }

  pub not_tagged : Tagged (test_form n r (m - 1)) (test_form n r m) 2 not_test (λ s. s)
  unfolding valid_test encode_test test_size
  not_tagged = record {
    passes = λ v. more_fits _ (test_size v) m some;
    bytes = λ v. refl;
    answer = λ stop v s p a. record { stops = a.stops; leaves = omega (arith, a.leaves) };
    back = λ text pos w h e. let q = not_at text pos w h e in (q.t, sym q.is);
  }

  -- two tests share the room that is left
  abbrev pub tests_form : Form (Test × Test) TestEnd
  tests_form = followed (test_form n r (m - 1)) (λ t. test_form n r (m - 1 - test_size t))

  two_answer : (stop : ℕ) (v : Test × Test) (s : TestEnd) → tests_form.passes v ≡ true → tests_form.answer stop v s → s.room + suc (test_size v.0 + test_size v.1) ≡ m
  two_answer stop v s p a =
      let q = and_parts (valid_test n r v.0) _ (and_parts (valid_test n r v.0 && leb (test_size v.0) (m - 1)) _ p).0 in
      omega (arith, a.leaves, leb-true (test_size v.0) (m - 1) q.1)

  pub and_tagged : Tagged tests_form (test_form n r m) 3 (λ p. and_test p.0 p.1) (λ s. s)
  unfolding valid_test encode_test test_size
  and_tagged = record {
    passes = λ v. two_fit _ _ (test_size v.0) (test_size v.1) m some;
    bytes = λ v. refl;
    answer = λ stop v s p a. record { stops = a.stops; leaves = two_answer stop v s p a };
    back = λ text pos w h e. let q = and_at text pos w h e in ((q.t, q.u), sym q.is);
  }

  pub or_tagged : Tagged tests_form (test_form n r m) 4 (λ p. or_test p.0 p.1) (λ s. s)
  unfolding valid_test encode_test test_size
  or_tagged = record {
    passes = λ v. two_fit _ _ (test_size v.0) (test_size v.1) m some;
    bytes = λ v. refl;
    answer = λ stop v s p a. record { stops = a.stops; leaves = two_answer stop v s p a };
    back = λ text pos w h e. let q = or_at text pos w h e in ((q.t, q.u), sym q.is);
  }

  -- a comparison begins with 0 or 1, and two tests with 3 or 4
  pub comparison_made : {text : List ℕ} {pos : ℕ} (b : ℕ) → ByteAt text pos b → b ≤ 1 → (o : Option ℕ) → Scanned (exprs_form n r) text (pos + 1) o → Scanned (test_form n r m) text pos (option_map compared o)
  comparison_made zero h l o s = made less_tagged h o s
  comparison_made (suc zero) h l o s = made equal_tagged h o s
  comparison_made (suc (suc b)) h l o s = absurd (omega arith)

  pub tests_made : {text : List ℕ} {pos : ℕ} (b : ℕ) → ByteAt text pos b → 3 ≤ b → b ≤ 4 → (o : Option TestEnd) → Scanned tests_form text (pos + 1) o → Scanned (test_form n r m) text pos o
  tests_made zero h l u o s = absurd (omega arith)
  tests_made (suc zero) h l u o s = absurd (omega arith)
  tests_made (suc (suc zero)) h l u o s = absurd (omega arith)
  tests_made (suc (suc (suc zero))) h l u o s = made_same and_tagged h o s
  tests_made (suc (suc (suc (suc zero)))) h l u o s = made_same or_tagged h o s
  tests_made (suc (suc (suc (suc (suc b))))) h l u o s = absurd (omega arith)

module _ (n r m : ℕ) (text : List ℕ) (pos : ℕ) where
  pub test_past : length text ≤ pos → Scanned (test_form n r m) text pos None
  test_past l t h = omega (arith, test_long t, some_within text pos (encode_test t) (omega (arith, test_long t)) h.stands)

  -- no test without room
  pub test_no_room : m ≡ 0 → Scanned (test_form n r m) text pos None
  test_no_room e t h = omega (arith, some_size t, leb-true (test_size t) m (and_parts (valid_test n r t) _ h.passes).1)

  -- no test begins with another byte
  pub test_other : (k : ℕ) → ByteAt text pos k → 5 ≤ k → Scanned (test_form n r m) text pos None
  test_other k b l t h = no_kind text pos t k l (test_at text pos t k h.stands b.is)

  -- the second test in the room that the first leaves
  pub then_test : (first : TestEnd) (o : Option TestEnd) → Scanned (test_form n r m) text pos (Some first) → Scanned (test_form n r first.room) text first.end o →
      Scanned (followed (test_form n r m) (λ t. test_form n r (m - test_size t))) text pos o
  then_test first o h k =
      then_second (test_form n r m) (λ t. test_form n r (m - test_size t)) text pos first o h
      (λ t a. let e : first.room ≡ m - test_size t = omega (arith, a.leaves) in
      subst (λ (at : ℕ). Scanned (test_form n r (m - test_size t)) text at o) a.stops (subst (λ (k₁ : ℕ). Scanned (test_form n r k₁) text first.end o) e k))
