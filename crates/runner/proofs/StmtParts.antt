-- The parts of a statement that is ready at a position are ready at theirs, and its number is read. Rests on what the first byte tells of its parts (encoding's Parts).
use Rattle.std.proofs.Common.{◌≡◌, ℕ, ◌+◌, ◌-◌, ◌<◌, ◌≤◌, true, ltb, leb, List, length, get_or, sym, ap, ◌∙◌, subst, arith}
use Rattle.std.specs.List.{AllByRecursion}
use Rattle.std.proofs.lemmas.Bool.{ltb-true, leb-true, and_parts}
use Rattle.program.specs.Basics.{limit}
use Rattle.program.specs.Syntax.{Test, Stmt, assign, store, input, check, branch, loop}
use Rattle.program.specs.Encoding.{encode_expr, encode_test, encode_stmt}
use Rattle.program.specs.Validity.{valid_test, valid_condition, test_size, valid_stmt, stmt_numbers}
use Rattle.encoding.specs.Standing.{Stands}
use Rattle.encoding.specs.Parts.{AssignAt, StoreAt, InputAt, CheckAt, SeqAt, BranchAt, LoopAt}
use Rattle.encoding.proofs.ReadBack.{Word, all_two}
use Rattle.encoding.proofs.Standing.{stands_move}
use Rattle.runner.specs.Ready.{ExprReady, TestReady, StmtReady}
use Rattle.runner.specs.Running.{BoundsAt}
use Rattle.runner.proofs.Placed.{placed}
use Rattle.runner.proofs.ReadyParts.{exprs_ready}

pub stmt_moved : (text : List ℕ) (pos left : ℕ) (d : Stmt) → StmtReady text pos left d → (at : ℕ) → at ≡ pos → StmtReady text at left d
stmt_moved text pos left d ready at is = subst (λ (k : ℕ). StmtReady text k left d) (sym is) ready

module _ (text : List ℕ) (pos left : ℕ) (d : Stmt) (ready : StmtReady text pos left d) where
  valid_as : (x : Stmt) → d ≡ x → valid_stmt ready.variables ready.arrays x ≡ true
  valid_as x is = subst (λ (y : Stmt). valid_stmt ready.variables ready.arrays y ≡ true) is ready.valid

  numbers_as : (x : Stmt) → d ≡ x → AllByRecursion Word (stmt_numbers x)
  numbers_as x is = subst (λ (y : Stmt). AllByRecursion Word (stmt_numbers y)) is ready.numbers

  -- a test behind the statement's number
  condition_ready : (t : Test) → valid_condition ready.variables ready.arrays t ≡ true → Stands text (pos + 9) (encode_test t) → length (encode_test t) ≤ left - 1 →
      (at : ℕ) → at ≡ pos + 9 → TestReady text at (left - 1) t
  condition_ready t v h l at is =
      record {
        variables = ready.variables;
        arrays = ready.arrays;
        placed = placed text at (pos + 9) (left - 1) (encode_test t) is h l;
        valid = (and_parts (valid_test ready.variables ready.arrays t) (leb (test_size t) 63) v).0;
      }

  -- a statement in it
  part_ready : (a : Stmt) (from : ℕ) → valid_stmt ready.variables ready.arrays a ≡ true → AllByRecursion Word (stmt_numbers a) → Stands text from (encode_stmt a) →
      length (encode_stmt a) ≤ left - 1 → (at : ℕ) → at ≡ from → StmtReady text at (left - 1) a
  part_ready a from v ns h l at is =
      record { variables = ready.variables; arrays = ready.arrays; placed = placed text at from (left - 1) (encode_stmt a) is h l; valid = v; numbers = ns }

  pub assign_is : (h : AssignAt text pos d) → (k at : ℕ) → k ≡ h.p → at ≡ pos + 9 → d ≡ assign k (get_or text at 0) h.e
  assign_is h k at e is = h.is ∙ sym (ap (λ (p : ℕ). assign p (get_or text at 0) h.e) e ∙ ap (λ (v : ℕ). assign h.p v h.e) (ap (λ (j : ℕ). get_or text j 0) is ∙ h.v_is))

  pub assign_number : (h : AssignAt text pos d) → h.p < 18446744073709551616
  unfolding stmt_numbers
  assign_number h = (numbers_as _ h.is).0

  pub assign_ready : (h : AssignAt text pos d) → (at : ℕ) → at ≡ pos + 10 → ExprReady text at (left - 1) h.e
  unfolding valid_stmt
  assign_ready h at is =
      record {
        variables = ready.variables;
        arrays = ready.arrays;
        placed = placed text at (pos + 10) (left - 1) (encode_expr h.e) is h.value (omega (arith, ready.placed.enough, h.long));
        valid = (and_parts (ltb h.v ready.variables) _ (valid_as _ h.is)).1;
      }

  pub store_is : (h : StoreAt text pos d) → (k at : ℕ) → k ≡ h.p → at ≡ pos + 9 → d ≡ store k (get_or text at 0) h.a h.e
  store_is h k at e is =
      h.is ∙ sym (ap (λ (p : ℕ). store p (get_or text at 0) h.a h.e) e ∙ ap (λ (v : ℕ). store h.p v h.a h.e) (ap (λ (j : ℕ). get_or text j 0) is ∙ h.r_is))

  pub store_number : (h : StoreAt text pos d) → h.p < 18446744073709551616
  unfolding stmt_numbers
  store_number h = (numbers_as _ h.is).0

  pub store_ready : (h : StoreAt text pos d) → (at : ℕ) → at ≡ pos + 10 → ExprReady text at (left - 1) h.a × ExprReady text (at + length (encode_expr h.a)) (left - 1) h.e
  unfolding valid_stmt
  store_ready h at is =
      exprs_ready ready.variables ready.arrays text (pos + 10) (left - 1) h.a h.e (and_parts (ltb h.r ready.arrays) _ (valid_as _ h.is)).1
      h.index h.value (omega (arith, ready.placed.enough, h.long)) at is

  pub input_is : (h : InputAt text pos d) → (at : ℕ) → at ≡ pos + 9 → d ≡ input h.p (get_or text at 0) h.a h.b
  input_is h at is = h.is ∙ sym (ap (λ (v : ℕ). input h.p v h.a h.b) (ap (λ (j : ℕ). get_or text j 0) is ∙ h.v_is))

  pub input_bounds : (h : InputAt text pos d) → (at : ℕ) → at ≡ pos + 10 → BoundsAt text at h.a h.b
  unfolding valid_stmt
  input_bounds h at is =
      let v = and_parts (ltb h.v ready.variables) _ (valid_as _ h.is) in
      let w = and_parts (leb h.a h.b) (ltb h.b limit) v.1 in
      let small = ltb-true h.b limit w.1 in
      record {
        low = stands_move text (pos + 10) at _ (sym is) h.low;
        high = stands_move text (pos + 18) (at + 8) _ (omega arith) h.high;
        low_small = omega (arith, leb-true h.a h.b w.0);
        high_small = small;
      }

  pub check_is : (h : CheckAt text pos d) → (k : ℕ) → k ≡ h.p → d ≡ check k h.t
  check_is h k e = h.is ∙ sym (ap (λ (p : ℕ). check p h.t) e)

  pub check_number : (h : CheckAt text pos d) → h.p < 18446744073709551616
  unfolding stmt_numbers
  check_number h = (numbers_as _ h.is).0

  pub check_ready : (h : CheckAt text pos d) → (at : ℕ) → at ≡ pos + 9 → TestReady text at (left - 1) h.t
  unfolding valid_stmt
  check_ready h at is = condition_ready h.t (valid_as _ h.is) h.condition (omega (arith, ready.placed.enough, h.long)) at is

  pub seq_ready : (h : SeqAt text pos d) → (at : ℕ) → at ≡ pos + 1 → StmtReady text at (left - 1) h.a × StmtReady text (at + length (encode_stmt h.a)) (left - 1) h.b
  unfolding valid_stmt stmt_numbers
  seq_ready h at is =
      let v = and_parts (valid_stmt ready.variables ready.arrays h.a) _ (valid_as _ h.is) in
      let ns = all_two Word (stmt_numbers h.a) (stmt_numbers h.b) (numbers_as _ h.is) in (
        part_ready h.a (pos + 1) v.0 ns.0 h.first (omega (arith, ready.placed.enough, h.long)) at is,
        part_ready h.b (pos + 1 + length (encode_stmt h.a)) v.1 ns.1 h.second (omega (arith, ready.placed.enough, h.long)) (at + length (encode_stmt h.a)) (omega arith),
      )

  pub branch_is : (h : BranchAt text pos d) → (k : ℕ) → k ≡ h.p → d ≡ branch k h.t h.a h.b
  branch_is h k e = h.is ∙ sym (ap (λ (p : ℕ). branch p h.t h.a h.b) e)

  pub branch_number : (h : BranchAt text pos d) → h.p < 18446744073709551616
  unfolding stmt_numbers
  branch_number h = (numbers_as _ h.is).0

  pub branch_test_ready : (h : BranchAt text pos d) → (at : ℕ) → at ≡ pos + 9 → TestReady text at (left - 1) h.t
  unfolding valid_stmt
  branch_test_ready h at is =
      let v = and_parts (valid_condition ready.variables ready.arrays h.t) _ (valid_as _ h.is) in
      condition_ready h.t v.0 h.condition (omega (arith, ready.placed.enough, h.long)) at is

  pub branch_ready : (h : BranchAt text pos d) → (at : ℕ) → at ≡ pos + 9 →
      StmtReady text (at + length (encode_test h.t)) (left - 1) h.a × StmtReady text (at + length (encode_test h.t) + length (encode_stmt h.a)) (left - 1) h.b
  unfolding valid_stmt stmt_numbers
  branch_ready h at is =
      let v = and_parts (valid_condition ready.variables ready.arrays h.t) _ (valid_as _ h.is) in
      let w = and_parts (valid_stmt ready.variables ready.arrays h.a) _ v.1 in
      let ns = all_two Word (stmt_numbers h.a) (stmt_numbers h.b) (numbers_as _ h.is).1 in (
        part_ready h.a (pos + 9 + length (encode_test h.t)) w.0 ns.0 h.first (omega (arith, ready.placed.enough, h.long)) (at + length (encode_test h.t)) (omega arith),
        part_ready h.b (pos + 9 + length (encode_test h.t) + length (encode_stmt h.a)) w.1 ns.1 h.second (omega (arith, ready.placed.enough, h.long))
            (at + length (encode_test h.t) + length (encode_stmt h.a)) (omega arith),
      )

  pub loop_is : (h : LoopAt text pos d) → (k : ℕ) → k ≡ h.p → d ≡ loop k h.t h.a
  loop_is h k e = h.is ∙ sym (ap (λ (p : ℕ). loop p h.t h.a) e)

  pub loop_number : (h : LoopAt text pos d) → h.p < 18446744073709551616
  unfolding stmt_numbers
  loop_number h = (numbers_as _ h.is).0

  pub loop_ready : (h : LoopAt text pos d) → (at : ℕ) → at ≡ pos + 9 → TestReady text at (left - 1) h.t × StmtReady text (at + length (encode_test h.t)) (left - 1) h.a
  unfolding valid_stmt stmt_numbers
  loop_ready h at is =
      let v = and_parts (valid_condition ready.variables ready.arrays h.t) _ (valid_as _ h.is) in (
        condition_ready h.t v.0 h.condition (omega (arith, ready.placed.enough, h.long)) at is,
        part_ready h.a (pos + 9 + length (encode_test h.t)) v.1 (numbers_as _ h.is).1 h.body (omega (arith, ready.placed.enough, h.long)) (at + length (encode_test h.t)) (omega arith),
      )
