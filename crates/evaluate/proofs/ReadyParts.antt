-- The parts of an expression or a test that is ready at a position are ready at theirs.
-- Rests on what the first byte tells of its parts (encoding's Parts).
use Rattle.std.proofs.Common.{◌≡◌, ℕ, ◌+◌, ◌-◌, ◌<◌, ◌≤◌, true, ◌&&◌, ltb, ◌⊎◌, List, [], ◌∷◌, length, get_or, sym, subst, inl, inr, arith}
use Rattle.std.proofs.lemmas.Bool.{ltb-true, and_parts}
use Rattle.program.specs.Basics.{limit}
use Rattle.program.specs.Syntax.{Expr, num, var, bin, element, Test, less, equal, not_test, and_test, or_test}
use Rattle.program.specs.Encoding.{encode_expr, encode_test}
use Rattle.program.specs.Validity.{valid_expr, valid_test}
use Rattle.encoding.specs.Standing.{Stands}
use Rattle.encoding.specs.Parts.{NumberAt, BinaryAt, ElementAt, LessAt, EqualAt, NotAt, AndAt, OrAt}
use Rattle.encoding.proofs.Lengths.{expr_long, test_long}
use Rattle.encoding.proofs.Standing.{stands_move, stands_within}
use Rattle.encoding.proofs.Parts.{expr_tag, expr_first, test_tag, test_first}
use Rattle.evaluate.specs.Ready.{ExprReady, TestReady}

-- bytes that stand somewhere end within the text
some_within : (text : List ℕ) (pos : ℕ) (bs : List ℕ) → 0 < length bs → Stands text pos bs → pos + length bs ≤ length text
some_within text pos [] l h = absurd (omega arith)
some_within text pos (b ∷ bs) l h = stands_within text pos b bs h

-- an expression that is ready ends within the text
pub expr_within : (text : List ℕ) (pos left : ℕ) (e : Expr) → ExprReady text pos left e → pos + length (encode_expr e) ≤ length text
expr_within text pos left e ready = some_within text pos (encode_expr e) (omega (arith, expr_long e)) ready.stands

-- where none is ready: there is no room for it, or its first byte is no expression's
pub no_expr : (text : List ℕ) (pos left : ℕ) (e : Expr) → ExprReady text pos left e → (left ≡ 0) ⊎ (length text ≤ pos) → ⊥
no_expr text pos left e ready (inl h) = omega (arith, expr_long e, ready.enough)
no_expr text pos left e ready (inr h) = omega (arith, expr_long e, expr_within text pos left e ready, h)

tag_small : (e : Expr) → expr_tag e < 4
tag_small (num n) = omega arith
tag_small (var x) = omega arith
tag_small (bin k a b) = omega arith
tag_small (element r a) = omega arith

pub first_small : (text : List ℕ) (pos left : ℕ) (e : Expr) → ExprReady text pos left e → get_or text pos 0 < 4
first_small text pos left e ready = omega (arith, tag_small e, expr_first text pos e ready.stands)

-- the same at the same place
pub ready_move : (text : List ℕ) (pos at left : ℕ) (e : Expr) → at ≡ pos → ExprReady text pos left e → ExprReady text at left e
ready_move text pos at left e is ready = subst (λ (p : ℕ). ExprReady text p left e) (sym is) ready

-- a number that is ready is one
pub number_small : (text : List ℕ) (pos left : ℕ) (e : Expr) → ExprReady text pos left e → (h : NumberAt text pos e) → h.n < limit
unfolding valid_expr
number_small text pos left e ready h = ltb-true h.n limit (subst (λ (d : Expr). valid_expr ready.variables ready.arrays d ≡ true) h.is ready.valid)

pub left_ready : (text : List ℕ) (pos left : ℕ) (e : Expr) → ExprReady text pos left e → (h : BinaryAt text pos e) →
    (at : ℕ) → at ≡ pos + 2 → ExprReady text at (left - 1) h.a
unfolding valid_expr
left_ready text pos left e ready h at is =
    let v = and_parts (ltb h.op 5) _ (subst (λ (d : Expr). valid_expr ready.variables ready.arrays d ≡ true) h.is ready.valid) in
    let enough : length (encode_expr h.a) ≤ left - 1 = omega (arith, ready.enough, h.long) in
    record {
      variables = ready.variables;
      arrays = ready.arrays;
      stands = stands_move text (pos + 2) at (encode_expr h.a) (sym is) h.left;
      enough = enough;
      valid = (and_parts (valid_expr ready.variables ready.arrays h.a) _ v.1).0;
    }

pub right_ready : (text : List ℕ) (pos left : ℕ) (e : Expr) → ExprReady text pos left e → (h : BinaryAt text pos e) →
    (at : ℕ) → at ≡ pos + 2 + length (encode_expr h.a) → ExprReady text at (left - 1) h.b
unfolding valid_expr
right_ready text pos left e ready h at is =
    let v = and_parts (ltb h.op 5) _ (subst (λ (d : Expr). valid_expr ready.variables ready.arrays d ≡ true) h.is ready.valid) in
    let enough : length (encode_expr h.b) ≤ left - 1 = omega (arith, ready.enough, h.long) in
    record {
      variables = ready.variables;
      arrays = ready.arrays;
      stands = stands_move text (pos + 2 + length (encode_expr h.a)) at (encode_expr h.b) (sym is) h.right;
      enough = enough;
      valid = (and_parts (valid_expr ready.variables ready.arrays h.a) _ v.1).1;
    }

pub index_ready : (text : List ℕ) (pos left : ℕ) (e : Expr) → ExprReady text pos left e → (h : ElementAt text pos e) →
    (at : ℕ) → at ≡ pos + 2 → ExprReady text at (left - 1) h.a
unfolding valid_expr
index_ready text pos left e ready h at is =
    let v = and_parts (ltb h.r ready.arrays) _ (subst (λ (d : Expr). valid_expr ready.variables ready.arrays d ≡ true) h.is ready.valid) in
    let enough : length (encode_expr h.a) ≤ left - 1 = omega (arith, ready.enough, h.long) in
    record {
      variables = ready.variables;
      arrays = ready.arrays;
      stands = stands_move text (pos + 2) at (encode_expr h.a) (sym is) h.index;
      enough = enough;
      valid = v.1;
    }

-- a test that is ready ends within the text
pub test_within : (text : List ℕ) (pos left : ℕ) (t : Test) → TestReady text pos left t → pos + length (encode_test t) ≤ length text
test_within text pos left t ready = some_within text pos (encode_test t) (omega (arith, test_long t)) ready.stands

-- where none is ready
pub no_test : (text : List ℕ) (pos left : ℕ) (t : Test) → TestReady text pos left t → (left ≡ 0) ⊎ (length text ≤ pos) → ⊥
no_test text pos left t ready (inl h) = omega (arith, test_long t, ready.enough)
no_test text pos left t ready (inr h) = omega (arith, test_long t, test_within text pos left t ready, h)

test_tag_small : (t : Test) → test_tag t < 5
test_tag_small (less a b) = omega arith
test_tag_small (equal a b) = omega arith
test_tag_small (not_test t) = omega arith
test_tag_small (and_test t u) = omega arith
test_tag_small (or_test t u) = omega arith

pub test_first_small : (text : List ℕ) (pos left : ℕ) (t : Test) → TestReady text pos left t → get_or text pos 0 < 5
test_first_small text pos left t ready = omega (arith, test_tag_small t, test_first text pos t ready.stands)

-- the two sides of a comparison
sides_ready : (text : List ℕ) (pos left v r : ℕ) (a b : Expr) → Stands text pos (encode_expr a) → Stands text (pos + length (encode_expr a)) (encode_expr b) →
    length (encode_expr a) ≤ left → length (encode_expr b) ≤ left → (valid_expr v r a && valid_expr v r b) ≡ true →
    ExprReady text pos left a × ExprReady text (pos + length (encode_expr a)) left b
sides_ready text pos left v r a b h g m n valid =
    let q = and_parts (valid_expr v r a) (valid_expr v r b) valid in
    (record { variables = v; arrays = r; stands = h; enough = m; valid = q.0 }, record { variables = v; arrays = r; stands = g; enough = n; valid = q.1 })

pub less_ready : (text : List ℕ) (pos left : ℕ) (t : Test) → TestReady text pos left t → (h : LessAt text pos t) →
    ExprReady text (pos + 1) (left - 1) h.a × ExprReady text (pos + 1 + length (encode_expr h.a)) (left - 1) h.b
unfolding valid_test
less_ready text pos left t ready h =
    sides_ready text (pos + 1) (left - 1) ready.variables ready.arrays h.a h.b h.left h.right
    (omega (arith, ready.enough, h.long)) (omega (arith, ready.enough, h.long))
    (subst (λ (u : Test). valid_test ready.variables ready.arrays u ≡ true) h.is ready.valid)

pub equal_ready : (text : List ℕ) (pos left : ℕ) (t : Test) → TestReady text pos left t → (h : EqualAt text pos t) →
    ExprReady text (pos + 1) (left - 1) h.a × ExprReady text (pos + 1 + length (encode_expr h.a)) (left - 1) h.b
unfolding valid_test
equal_ready text pos left t ready h =
    sides_ready text (pos + 1) (left - 1) ready.variables ready.arrays h.a h.b h.left h.right
    (omega (arith, ready.enough, h.long)) (omega (arith, ready.enough, h.long))
    (subst (λ (u : Test). valid_test ready.variables ready.arrays u ≡ true) h.is ready.valid)

-- the parts of a test made of tests
pub inner_ready : (text : List ℕ) (pos left : ℕ) (t : Test) → TestReady text pos left t → (h : NotAt text pos t) → TestReady text (pos + 1) (left - 1) h.t
unfolding valid_test
inner_ready text pos left t ready h =
    let enough : length (encode_test h.t) ≤ left - 1 = omega (arith, ready.enough, h.long) in
    record {
      variables = ready.variables;
      arrays = ready.arrays;
      stands = h.inner;
      enough = enough;
      valid = subst (λ (u : Test). valid_test ready.variables ready.arrays u ≡ true) h.is ready.valid;
    }

tests_ready : (text : List ℕ) (pos left v r : ℕ) (t u : Test) → Stands text pos (encode_test t) → Stands text (pos + length (encode_test t)) (encode_test u) →
    length (encode_test t) ≤ left → length (encode_test u) ≤ left → (valid_test v r t && valid_test v r u) ≡ true →
    TestReady text pos left t × ((at : ℕ) → at ≡ pos + length (encode_test t) → TestReady text at left u)
tests_ready text pos left v r t u h g m n valid =
    let q = and_parts (valid_test v r t) (valid_test v r u) valid in (
      record { variables = v; arrays = r; stands = h; enough = m; valid = q.0 },
      λ at is. record { variables = v; arrays = r; stands = stands_move text (pos + length (encode_test t)) at (encode_test u) (sym is) g; enough = n; valid = q.1 },
    )

pub and_ready : (text : List ℕ) (pos left : ℕ) (t : Test) → TestReady text pos left t → (h : AndAt text pos t) →
    TestReady text (pos + 1) (left - 1) h.t × ((at : ℕ) → at ≡ pos + 1 + length (encode_test h.t) → TestReady text at (left - 1) h.u)
unfolding valid_test
and_ready text pos left t ready h =
    tests_ready text (pos + 1) (left - 1) ready.variables ready.arrays h.t h.u h.first h.second
    (omega (arith, ready.enough, h.long)) (omega (arith, ready.enough, h.long))
    (subst (λ (u : Test). valid_test ready.variables ready.arrays u ≡ true) h.is ready.valid)

pub or_ready : (text : List ℕ) (pos left : ℕ) (t : Test) → TestReady text pos left t → (h : OrAt text pos t) →
    TestReady text (pos + 1) (left - 1) h.t × ((at : ℕ) → at ≡ pos + 1 + length (encode_test h.t) → TestReady text at (left - 1) h.u)
unfolding valid_test
or_ready text pos left t ready h =
    tests_ready text (pos + 1) (left - 1) ready.variables ready.arrays h.t h.u h.first h.second
    (omega (arith, ready.enough, h.long)) (omega (arith, ready.enough, h.long))
    (subst (λ (u : Test). valid_test ready.variables ready.arrays u ≡ true) h.is ready.valid)
