-- The parts of a statement that is ready at a position are ready at theirs. Rests on what the first byte tells of its parts (encoding's Parts).
use Rattle.std.proofs.Common.{◌≡◌, ℕ, ◌+◌, ◌-◌, ◌≤◌, true, ltb, leb, List, length, get_or, sym, ap, ◌∙◌, subst, arith}
use Rattle.std.proofs.lemmas.Bool.{ltb-true, leb-true, and_parts}
use Rattle.program.specs.Basics.{limit}
use Rattle.program.specs.Syntax.{Test, Stmt, assign, store, input}
use Rattle.program.specs.Encoding.{encode_expr, encode_test, encode_stmt}
use Rattle.program.specs.Validity.{valid_expr, valid_test, valid_condition, test_size, valid_stmt}
use Rattle.encoding.specs.Standing.{Stands}
use Rattle.encoding.specs.Parts.{AssignAt, StoreAt, InputAt, CheckAt, SeqAt, BranchAt, LoopAt}
use Rattle.encoding.proofs.Standing.{stands_move}
use Rattle.printer.specs.Ready.{ExprReady, TestReady, StmtReady}
use Rattle.printer.specs.Printing.{Prints, BoundsAt}
use Rattle.printer.specs.declared.write.Printer.{Printer}
use Rattle.printer.proofs.Placed.{placed}
use Rattle.printer.proofs.ReadyParts.{valid_as, both_ready}

-- the same bounds, where printing has come to
pub bounds_next : {old new : Printer} {n : ℕ} {words : List ℕ} {at to a b : ℕ} → Prints n words old new → BoundsAt old.text.now at a b → to ≡ at → BoundsAt new.text.now to a b
bounds_next {old} {new} {n} {words} {at} {to} {a} {b} step h is =
    subst (λ (k : ℕ). BoundsAt new.text.now k a b) (sym is) (subst (λ (t : List ℕ). BoundsAt t at a b) (sym step.text) h)

-- the byte behind a statement's number
head_byte : (text : List ℕ) (pos : ℕ) {old new : Printer} {words : List ℕ} → Prints 9 words old new → text ≡ old.text.now → pos ≡ old.pos → get_or text (pos + 9) 0 ≡ get_or new.text.now new.pos 0
head_byte text pos {old} {new} step same from =
    ap (λ (t : List ℕ). get_or t (pos + 9) 0) (same ∙ sym step.text) ∙ ap (λ (k : ℕ). get_or new.text.now k 0) (ap (λ (k : ℕ). k + 9) from ∙ sym step.pos)

module _ (text : List ℕ) (pos left : ℕ) (d : Stmt) (ready : StmtReady text pos left d) where
  -- a test behind the statement's number
  condition_ready : (t : Test) → valid_condition ready.variables ready.arrays t ≡ true → Stands text (pos + 9) (encode_test t) → length (encode_test t) ≤ left - 1 →
      (at : ℕ) → at ≡ pos + 9 → TestReady text at (left - 1) t
  condition_ready t v h l at is =
      record {
        variables = ready.variables;
        arrays = ready.arrays;
        placed = placed text at (pos + 9) (left - 1) (encode_test t) is h l;
        valid = (and_parts (valid_test ready.variables ready.arrays t) (leb (test_size t) 63) v).0;
      }

  -- a statement in it
  part_ready : (a : Stmt) (from : ℕ) → valid_stmt ready.variables ready.arrays a ≡ true → Stands text from (encode_stmt a) →
      length (encode_stmt a) ≤ left - 1 → (at : ℕ) → at ≡ from → StmtReady text at (left - 1) a
  part_ready a from v h l at is =
      record { variables = ready.variables; arrays = ready.arrays; placed = placed text at from (left - 1) (encode_stmt a) is h l; valid = v }

  pub assign_is : (h : AssignAt text pos d) {old new : Printer} {words : List ℕ} → Prints 9 words old new → text ≡ old.text.now → pos ≡ old.pos → d ≡ assign h.p (get_or new.text.now new.pos 0) h.e
  assign_is h step same from = h.is ∙ ap (λ (v : ℕ). assign h.p v h.e) (sym h.v_is ∙ head_byte text pos step same from)

  pub assign_ready : (h : AssignAt text pos d) → (at : ℕ) → at ≡ pos + 10 → ExprReady text at (left - 1) h.e
  unfolding valid_stmt
  assign_ready h at is =
      record {
        variables = ready.variables;
        arrays = ready.arrays;
        placed = placed text at (pos + 10) (left - 1) (encode_expr h.e) is h.value (omega (arith, ready.placed.enough, h.long));
        valid = (and_parts (ltb h.v ready.variables) _ (valid_as ready h.is)).1;
      }

  pub store_is : (h : StoreAt text pos d) {old new : Printer} {words : List ℕ} → Prints 9 words old new → text ≡ old.text.now → pos ≡ old.pos → d ≡ store h.p (get_or new.text.now new.pos 0) h.a h.e
  store_is h step same from = h.is ∙ ap (λ (v : ℕ). store h.p v h.a h.e) (sym h.r_is ∙ head_byte text pos step same from)

  pub store_ready : (h : StoreAt text pos d) → (at : ℕ) → at ≡ pos + 10 → ExprReady text at (left - 1) h.a × ExprReady text (at + length (encode_expr h.a)) (left - 1) h.e
  unfolding valid_stmt
  store_ready h at is =
      both_ready encode_expr valid_expr ready.variables ready.arrays text (pos + 10) (left - 1) h.a h.e (and_parts (ltb h.r ready.arrays) _ (valid_as ready h.is)).1
      h.index h.value (omega (arith, ready.placed.enough, h.long)) at is

  pub input_is : (h : InputAt text pos d) {old new : Printer} {words : List ℕ} → Prints 9 words old new → text ≡ old.text.now → pos ≡ old.pos → d ≡ input h.p (get_or new.text.now new.pos 0) h.a h.b
  input_is h step same from = h.is ∙ ap (λ (v : ℕ). input h.p v h.a h.b) (sym h.v_is ∙ head_byte text pos step same from)

  pub input_bounds : (h : InputAt text pos d) → (at : ℕ) → at ≡ pos + 10 → BoundsAt text at h.a h.b
  unfolding valid_stmt
  input_bounds h at is =
      let v = and_parts (ltb h.v ready.variables) _ (valid_as ready h.is) in
      let w = and_parts (leb h.a h.b) (ltb h.b limit) v.1 in
      let small = ltb-true h.b limit w.1 in
      record {
        low = stands_move text (pos + 10) at _ (sym is) h.low;
        high = stands_move text (pos + 18) (at + 8) _ (omega arith) h.high;
        low_small = omega (arith, leb-true h.a h.b w.0);
        high_small = small;
      }

  pub check_ready : (h : CheckAt text pos d) → (at : ℕ) → at ≡ pos + 9 → TestReady text at (left - 1) h.t
  unfolding valid_stmt
  check_ready h at is = condition_ready h.t (valid_as ready h.is) h.condition (omega (arith, ready.placed.enough, h.long)) at is

  pub seq_ready : (h : SeqAt text pos d) → (at : ℕ) → at ≡ pos + 1 → StmtReady text at (left - 1) h.a × StmtReady text (at + length (encode_stmt h.a)) (left - 1) h.b
  unfolding valid_stmt
  seq_ready h at is =
      let v = and_parts (valid_stmt ready.variables ready.arrays h.a) _ (valid_as ready h.is) in (
        part_ready h.a (pos + 1) v.0 h.first (omega (arith, ready.placed.enough, h.long)) at is,
        part_ready h.b (pos + 1 + length (encode_stmt h.a)) v.1 h.second (omega (arith, ready.placed.enough, h.long)) (at + length (encode_stmt h.a)) (omega arith),
      )

  pub branch_test_ready : (h : BranchAt text pos d) → (at : ℕ) → at ≡ pos + 9 → TestReady text at (left - 1) h.t
  unfolding valid_stmt
  branch_test_ready h at is =
      let v = and_parts (valid_condition ready.variables ready.arrays h.t) _ (valid_as ready h.is) in
      condition_ready h.t v.0 h.condition (omega (arith, ready.placed.enough, h.long)) at is

  pub branch_ready : (h : BranchAt text pos d) → (at : ℕ) → at ≡ pos + 9 →
      StmtReady text (at + length (encode_test h.t)) (left - 1) h.a × StmtReady text (at + length (encode_test h.t) + length (encode_stmt h.a)) (left - 1) h.b
  unfolding valid_stmt
  branch_ready h at is =
      let v = and_parts (valid_condition ready.variables ready.arrays h.t) _ (valid_as ready h.is) in
      let w = and_parts (valid_stmt ready.variables ready.arrays h.a) _ v.1 in (
        part_ready h.a (pos + 9 + length (encode_test h.t)) w.0 h.first (omega (arith, ready.placed.enough, h.long)) (at + length (encode_test h.t)) (omega arith),
        part_ready h.b (pos + 9 + length (encode_test h.t) + length (encode_stmt h.a)) w.1 h.second (omega (arith, ready.placed.enough, h.long))
            (at + length (encode_test h.t) + length (encode_stmt h.a)) (omega arith),
      )

  pub loop_ready : (h : LoopAt text pos d) → (at : ℕ) → at ≡ pos + 9 → TestReady text at (left - 1) h.t × StmtReady text (at + length (encode_test h.t)) (left - 1) h.a
  unfolding valid_stmt
  loop_ready h at is =
      let v = and_parts (valid_condition ready.variables ready.arrays h.t) _ (valid_as ready h.is) in (
        condition_ready h.t v.0 h.condition (omega (arith, ready.placed.enough, h.long)) at is,
        part_ready h.a (pos + 9 + length (encode_test h.t)) v.1 h.body (omega (arith, ready.placed.enough, h.long)) (at + length (encode_test h.t)) (omega arith),
      )
