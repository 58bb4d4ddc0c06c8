-- The parts of a statement that is ready are ready where they stand.
use Rattle.std.proofs.Common.{◌≡◌, ℕ, ◌+◌, ◌-◌, true, ◌&&◌, leb, List, [], ◌∷◌, ◌++◌, length, subst, arith}
use Rattle.std.specs.List.{AllByRecursion as All}
use Rattle.std.proofs.lemmas.Bool.{and_parts}
use Rattle.program.specs.Syntax.{Stmt, assign, store, check, seq, branch, loop}
use Rattle.program.specs.Encoding.{encode_expr, encode_test, encode_stmt}
use Rattle.program.specs.Validity.{valid_expr, valid_test, test_size, valid_condition, valid_stmt, stmt_numbers}
use Rattle.encoding.specs.Parts.{AssignAt, StoreAt, CheckAt, SeqAt, BranchAt, LoopAt}
use Rattle.evaluate.specs.Ready.{ExprReady, TestReady}
use Rattle.walker.specs.Ready.{Low, StmtReady}

pub all_left : (P : ℕ → Type 0) (xs ys : List ℕ) → All P (xs ++ ys) → All P xs
all_left P [] ys h = tt
all_left P (x ∷ xs) ys h = (h.0, all_left P xs ys h.1)

pub all_right : (P : ℕ → Type 0) (xs ys : List ℕ) → All P (xs ++ ys) → All P ys
all_right P [] ys h = h
all_right P (x ∷ xs) ys h = all_right P xs ys h.1

-- a statement that is known to be of one form is ready in that form
pub ready_as : (text : List ℕ) (pos left : ℕ) (d e : Stmt) → d ≡ e → StmtReady text pos left d → StmtReady text pos left e
ready_as text pos left d e q h = subst (StmtReady text pos left) q h

module _ (text : List ℕ) (pos left : ℕ) (d : Stmt) (h : StmtReady text pos left d) where
  -- the conditions on d, at the form that it has
  valid_as : (e : Stmt) → d ≡ e → valid_stmt h.variables h.arrays e ≡ true
  valid_as e q = subst (λ (x : Stmt). valid_stmt h.variables h.arrays x ≡ true) q h.valid

  low_as : (e : Stmt) → d ≡ e → All Low (stmt_numbers e)
  low_as e q = subst (λ (x : Stmt). All Low (stmt_numbers x)) q h.low

  pub seq_first : (s : SeqAt text pos d) → StmtReady text (pos + 1) (left - 1) s.a
  unfolding valid_stmt stmt_numbers
  seq_first s =
      let v = and_parts (valid_stmt h.variables h.arrays s.a) (valid_stmt h.variables h.arrays s.b) (valid_as (seq s.a s.b) s.is) in
      record {
        variables = h.variables;
        arrays = h.arrays;
        stands = s.first;
        enough = omega (arith, s.long, h.enough);
        valid = v.0;
        low = all_left Low (stmt_numbers s.a) (stmt_numbers s.b) (low_as (seq s.a s.b) s.is);
      }

  pub seq_second : (s : SeqAt text pos d) → StmtReady text (pos + 1 + length (encode_stmt s.a)) (left - 1) s.b
  unfolding valid_stmt stmt_numbers
  seq_second s =
      let v = and_parts (valid_stmt h.variables h.arrays s.a) (valid_stmt h.variables h.arrays s.b) (valid_as (seq s.a s.b) s.is) in
      record {
        variables = h.variables;
        arrays = h.arrays;
        stands = s.second;
        enough = omega (arith, s.long, h.enough);
        valid = v.1;
        low = all_right Low (stmt_numbers s.a) (stmt_numbers s.b) (low_as (seq s.a s.b) s.is);
      }

  pub branch_condition : (s : BranchAt text pos d) → TestReady text (pos + 9) (left - 1) s.t
  unfolding valid_stmt
  branch_condition s =
      let v = and_parts (valid_condition h.variables h.arrays s.t) _ (valid_as (branch s.p s.t s.a s.b) s.is) in
      let c = and_parts (valid_test h.variables h.arrays s.t) (leb (test_size s.t) 63) v.0 in
      record { variables = h.variables; arrays = h.arrays; stands = s.condition; enough = omega (arith, s.long, h.enough); valid = c.0 }

  pub branch_first : (s : BranchAt text pos d) → StmtReady text (pos + 9 + length (encode_test s.t)) (left - 1) s.a
  unfolding valid_stmt stmt_numbers
  branch_first s =
      let v = and_parts (valid_condition h.variables h.arrays s.t) (valid_stmt h.variables h.arrays s.a && valid_stmt h.variables h.arrays s.b)
      (valid_as (branch s.p s.t s.a s.b) s.is) in
      let w = and_parts (valid_stmt h.variables h.arrays s.a) (valid_stmt h.variables h.arrays s.b) v.1 in
      record {
        variables = h.variables;
        arrays = h.arrays;
        stands = s.first;
        enough = omega (arith, s.long, h.enough);
        valid = w.0;
        low = all_left Low (stmt_numbers s.a) (stmt_numbers s.b) (low_as (branch s.p s.t s.a s.b) s.is).1;
      }

  pub branch_second : (s : BranchAt text pos d) → StmtReady text (pos + 9 + length (encode_test s.t) + length (encode_stmt s.a)) (left - 1) s.b
  unfolding valid_stmt stmt_numbers
  branch_second s =
      let v = and_parts (valid_condition h.variables h.arrays s.t) (valid_stmt h.variables h.arrays s.a && valid_stmt h.variables h.arrays s.b)
      (valid_as (branch s.p s.t s.a s.b) s.is) in
      let w = and_parts (valid_stmt h.variables h.arrays s.a) (valid_stmt h.variables h.arrays s.b) v.1 in
      record {
        variables = h.variables;
        arrays = h.arrays;
        stands = s.second;
        enough = omega (arith, s.long, h.enough);
        valid = w.1;
        low = all_right Low (stmt_numbers s.a) (stmt_numbers s.b) (low_as (branch s.p s.t s.a s.b) s.is).1;
      }

  pub loop_condition : (s : LoopAt text pos d) → TestReady text (pos + 9) (left - 1) s.t
  unfolding valid_stmt
  loop_condition s =
      let v = and_parts (valid_condition h.variables h.arrays s.t) _ (valid_as (loop s.p s.t s.a) s.is) in
      let c = and_parts (valid_test h.variables h.arrays s.t) (leb (test_size s.t) 63) v.0 in
      record { variables = h.variables; arrays = h.arrays; stands = s.condition; enough = omega (arith, s.long, h.enough); valid = c.0 }

  pub loop_body : (s : LoopAt text pos d) → StmtReady text (pos + 9 + length (encode_test s.t)) (left - 1) s.a
  unfolding valid_stmt stmt_numbers
  loop_body s =
      let v = and_parts (valid_condition h.variables h.arrays s.t) (valid_stmt h.variables h.arrays s.a) (valid_as (loop s.p s.t s.a) s.is) in
      record {
        variables = h.variables;
        arrays = h.arrays;
        stands = s.body;
        enough = omega (arith, s.long, h.enough);
        valid = v.1;
        low = (low_as (loop s.p s.t s.a) s.is).1;
      }

  pub check_condition : (s : CheckAt text pos d) → TestReady text (pos + 9) left s.t
  unfolding valid_stmt
  check_condition s =
      let c = and_parts (valid_test h.variables h.arrays s.t) (leb (test_size s.t) 63) (valid_as (check s.p s.t) s.is) in
      record { variables = h.variables; arrays = h.arrays; stands = s.condition; enough = omega (arith, s.long, h.enough); valid = c.0 }

  pub assign_value : (s : AssignAt text pos d) → ExprReady text (pos + 10) left s.e
  unfolding valid_stmt
  assign_value s =
      let v = and_parts _ (valid_expr h.variables h.arrays s.e) (valid_as (assign s.p s.v s.e) s.is) in
      record { variables = h.variables; arrays = h.arrays; stands = s.value; enough = omega (arith, s.long, h.enough); valid = v.1 }

  pub store_index : (s : StoreAt text pos d) → ExprReady text (pos + 10) left s.a
  unfolding valid_stmt
  store_index s =
      let v = and_parts _ (valid_expr h.variables h.arrays s.a && valid_expr h.variables h.arrays s.e) (valid_as (store s.p s.r s.a s.e) s.is) in
      let w = and_parts (valid_expr h.variables h.arrays s.a) (valid_expr h.variables h.arrays s.e) v.1 in
      record { variables = h.variables; arrays = h.arrays; stands = s.index; enough = omega (arith, s.long, h.enough); valid = w.0 }

  pub store_value : (s : StoreAt text pos d) → ExprReady text (pos + 10 + length (encode_expr s.a)) left s.e
  unfolding valid_stmt
  store_value s =
      let v = and_parts _ (valid_expr h.variables h.arrays s.a && valid_expr h.variables h.arrays s.e) (valid_as (store s.p s.r s.a s.e) s.is) in
      let w = and_parts (valid_expr h.variables h.arrays s.a) (valid_expr h.variables h.arrays s.e) v.1 in
      record { variables = h.variables; arrays = h.arrays; stands = s.value; enough = omega (arith, s.long, h.enough); valid = w.1 }

  -- statements' numbers can be told from their eight bytes
  pub branch_number : (s : BranchAt text pos d) → Low s.p
  unfolding stmt_numbers
  branch_number s = (low_as (branch s.p s.t s.a s.b) s.is).0

  pub loop_number : (s : LoopAt text pos d) → Low s.p
  unfolding stmt_numbers
  loop_number s = (low_as (loop s.p s.t s.a) s.is).0

-- a statement is ready at a position by another name
pub ready_at : (text : List ℕ) (pos next left : ℕ) (d : Stmt) → pos ≡ next → StmtReady text pos left d → StmtReady text next left d
ready_at text pos next left d e h = subst (λ (p : ℕ). StmtReady text p left d) e h
