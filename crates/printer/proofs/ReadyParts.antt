-- The parts of an expression, a test or a statement that is ready at a position are ready at theirs. Rests on what the first byte tells of its parts (encoding's Parts).
use Rattle.std.proofs.Common.{◌≡◌, ℕ, ◌+◌, ◌-◌, ◌<◌, ◌≤◌, Bool, true, ◌&&◌, ltb, List, length, sym, subst, arith}
use Rattle.std.proofs.lemmas.Bool.{ltb-true, and_parts}
use Rattle.program.specs.Basics.{limit}
use Rattle.program.specs.Syntax.{Expr, Test}
use Rattle.program.specs.Encoding.{encode_expr, encode_test}
use Rattle.program.specs.Validity.{valid_expr, valid_test}
use Rattle.encoding.specs.Standing.{Stands}
use Rattle.encoding.specs.Parts.{NumberAt, BinaryAt, ElementAt, LessAt, EqualAt, NotAt, AndAt, OrAt}
use Rattle.printer.specs.Ready.{Ready, ExprReady, TestReady}
use Rattle.printer.specs.Printing.{Prints}
use Rattle.printer.specs.declared.write.Printer.{Printer}
use Rattle.printer.proofs.Placed.{placed}

-- where printing has come to
pub ready_next : {A : Type 0} {encode : A → List ℕ} {is_valid : ℕ → ℕ → A → Bool} {old new : Printer} {n : ℕ} {words : List ℕ} {at to left : ℕ} {x : A} →
    Prints n words old new → Ready encode is_valid old.text.now at left x → to ≡ at → Ready encode is_valid new.text.now to left x
ready_next {A} {encode} {is_valid} {old} {new} {n} {words} {at} {to} {left} {x} step ready is =
    subst (λ (k : ℕ). Ready encode is_valid new.text.now k left x) (sym is) (subst (λ (t : List ℕ). Ready encode is_valid t at left x) (sym step.text) ready)

-- another name for what is valid
pub valid_as : {A : Type 0} {encode : A → List ℕ} {is_valid : ℕ → ℕ → A → Bool} {text : List ℕ} {pos left : ℕ} {x y : A} →
    (ready : Ready encode is_valid text pos left x) → x ≡ y → is_valid ready.variables ready.arrays y ≡ true
valid_as {A} {encode} {is_valid} {text} {pos} {left} {x} {y} ready is = subst (λ (z : A). is_valid ready.variables ready.arrays z ≡ true) is ready.valid

-- two that stand one behind the other
pub both_ready : {A : Type 0} (encode : A → List ℕ) (is_valid : ℕ → ℕ → A → Bool) (n r : ℕ) (text : List ℕ) (pos left : ℕ) (a b : A) → (is_valid n r a && is_valid n r b) ≡ true →
    Stands text pos (encode a) → Stands text (pos + length (encode a)) (encode b) → length (encode a) + length (encode b) ≤ left →
    (at : ℕ) → at ≡ pos → Ready encode is_valid text at left a × Ready encode is_valid text (at + length (encode a)) left b
both_ready encode is_valid n r text pos left a b v h k l at is =
    let q = and_parts (is_valid n r a) (is_valid n r b) v in (
      record { variables = n; arrays = r; placed = placed text at pos left (encode a) is h (omega arith); valid = q.0 },
      record { variables = n; arrays = r; placed = placed text (at + length (encode a)) (pos + length (encode a)) left (encode b) (omega arith) k (omega arith); valid = q.1 },
    )

-- expressions

-- a number that is ready is one
pub number_small : (text : List ℕ) (pos left : ℕ) (e : Expr) → ExprReady text pos left e → (h : NumberAt text pos e) → h.n < limit
unfolding valid_expr
number_small text pos left e ready h = ltb-true h.n limit (valid_as ready h.is)

pub operands_ready : (text : List ℕ) (pos left : ℕ) (e : Expr) → ExprReady text pos left e → (h : BinaryAt text pos e) →
    (at : ℕ) → at ≡ pos + 2 → ExprReady text at (left - 1) h.a × ExprReady text (at + length (encode_expr h.a)) (left - 1) h.b
unfolding valid_expr
operands_ready text pos left e ready h at is =
    both_ready encode_expr valid_expr ready.variables ready.arrays text (pos + 2) (left - 1) h.a h.b (and_parts (ltb h.op 5) _ (valid_as ready h.is)).1
    h.left h.right (omega (arith, ready.placed.enough, h.long)) at is

pub index_ready : (text : List ℕ) (pos left : ℕ) (e : Expr) → ExprReady text pos left e → (h : ElementAt text pos e) →
    (at : ℕ) → at ≡ pos + 2 → ExprReady text at (left - 1) h.a
unfolding valid_expr
index_ready text pos left e ready h at is =
    record {
      variables = ready.variables;
      arrays = ready.arrays;
      placed = placed text at (pos + 2) (left - 1) (encode_expr h.a) is h.index (omega (arith, ready.placed.enough, h.long));
      valid = (and_parts (ltb h.r ready.arrays) _ (valid_as ready h.is)).1;
    }

-- tests

pub less_ready : (text : List ℕ) (pos left : ℕ) (t : Test) → TestReady text pos left t → (h : LessAt text pos t) →
    (at : ℕ) → at ≡ pos + 1 → ExprReady text at (left - 1) h.a × ExprReady text (at + length (encode_expr h.a)) (left - 1) h.b
unfolding valid_test
less_ready text pos left t ready h at is =
    both_ready encode_expr valid_expr ready.variables ready.arrays text (pos + 1) (left - 1) h.a h.b (valid_as ready h.is)
    h.left h.right (omega (arith, ready.placed.enough, h.long)) at is

pub equal_ready : (text : List ℕ) (pos left : ℕ) (t : Test) → TestReady text pos left t → (h : EqualAt text pos t) →
    (at : ℕ) → at ≡ pos + 1 → ExprReady text at (left - 1) h.a × ExprReady text (at + length (encode_expr h.a)) (left - 1) h.b
unfolding valid_test
equal_ready text pos left t ready h at is =
    both_ready encode_expr valid_expr ready.variables ready.arrays text (pos + 1) (left - 1) h.a h.b (valid_as ready h.is)
    h.left h.right (omega (arith, ready.placed.enough, h.long)) at is

pub inner_ready : (text : List ℕ) (pos left : ℕ) (t : Test) → TestReady text pos left t → (h : NotAt text pos t) →
    (at : ℕ) → at ≡ pos + 1 → TestReady text at (left - 1) h.t
unfolding valid_test
inner_ready text pos left t ready h at is =
    record {
      variables = ready.variables;
      arrays = ready.arrays;
      placed = placed text at (pos + 1) (left - 1) (encode_test h.t) is h.inner (omega (arith, ready.placed.enough, h.long));
      valid = valid_as ready h.is;
    }

pub and_ready : (text : List ℕ) (pos left : ℕ) (t : Test) → TestReady text pos left t → (h : AndAt text pos t) →
    (at : ℕ) → at ≡ pos + 1 → TestReady text at (left - 1) h.t × TestReady text (at + length (encode_test h.t)) (left - 1) h.u
unfolding valid_test
and_ready text pos left t ready h at is =
    both_ready encode_test valid_test ready.variables ready.arrays text (pos + 1) (left - 1) h.t h.u (valid_as ready h.is)
    h.first h.second (omega (arith, ready.placed.enough, h.long)) at is

pub or_ready : (text : List ℕ) (pos left : ℕ) (t : Test) → TestReady text pos left t → (h : OrAt text pos t) →
    (at : ℕ) → at ≡ pos + 1 → TestReady text at (left - 1) h.t × TestReady text (at + length (encode_test h.t)) (left - 1) h.u
unfolding valid_test
or_ready text pos left t ready h at is =
    both_ready encode_test valid_test ready.variables ready.arrays text (pos + 1) (left - 1) h.t h.u (valid_as ready h.is)
    h.first h.second (omega (arith, ready.placed.enough, h.long)) at is
