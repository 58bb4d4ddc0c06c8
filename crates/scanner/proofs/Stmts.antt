-- Statements by their first byte: each kind is its parts behind that byte. Rests on Forms, and on what stands behind a first byte.
use Rattle.std.proofs.Common.{◌≡◌, ℕ, zero, suc, ◌+◌, ◌-◌, ◌<◌, ◌≤◌, true, ◌&&◌, ltb, List, [], ◌∷◌, ◌++◌, length, Some, None, Option, sym, refl, ap, ◌∙◌, subst, append_assoc, add-zero, arith, length-append}
use Rattle.std.proofs.lemmas.Bool.{and_parts, ltb-true, lt-ltb}
use Rattle.program.specs.Basics.{eight, in_bytes}
use Rattle.program.specs.Syntax.{Test, Stmt, skip, assign, store, input, check, seq, branch, loop}
use Rattle.program.specs.Encoding.{encode_test, encode_stmt}
use Rattle.program.specs.Validity.{stmt_numbers}
use Rattle.encoding.specs.Parts.{StmtAt}
use Rattle.encoding.proofs.Lengths.{stmt_long, numbers_twelfth}
use Rattle.encoding.proofs.Standing.{stands_nil}
use Rattle.encoding.proofs.Parts.{stmt_at, skip_at, assign_at, store_at, input_at, check_at, seq_at, branch_at, loop_at}
use Rattle.scanner.specs.declared.scan.StmtEnd.{StmtEnd}
use Rattle.scanner.specs.Bytes.{ByteAt}
use Rattle.scanner.specs.Form.{Form, plain, followed, Scanned}
use Rattle.scanner.specs.OnePass.{valid_from}
use Rattle.scanner.specs.Trees.{assign_form, store_form, input_form, head_form, stmt_form, one_numbered}
use Rattle.scanner.proofs.Forms.{Tagged, then_second, made}
use Rattle.scanner.proofs.Parts.{some_within}

no_kind : (text : List ℕ) (pos : ℕ) (e : Stmt) (k : ℕ) → 8 ≤ k → StmtAt k text pos e → ⊥
no_kind text pos e zero l h = omega arith
no_kind text pos e (suc zero) l h = omega arith
no_kind text pos e (suc (suc zero)) l h = omega arith
no_kind text pos e (suc (suc (suc zero))) l h = omega arith
no_kind text pos e (suc (suc (suc (suc zero)))) l h = omega arith
no_kind text pos e (suc (suc (suc (suc (suc zero))))) l h = omega arith
no_kind text pos e (suc (suc (suc (suc (suc (suc zero)))))) l h = omega arith
no_kind text pos e (suc (suc (suc (suc (suc (suc (suc zero))))))) l h = omega arith
no_kind text pos e (suc (suc (suc (suc (suc (suc (suc (suc k)))))))) l h = h

module _ (n r k l j : ℕ) where
  -- no number: the next one's stays; nothing stands behind the byte of `skip`
  abbrev kept : ℕ → StmtEnd
  kept s = record { end = s; next = j }

  skip_tagged : Tagged (plain (λ (u : Unit {0}). true) (λ u. [])) (stmt_form n r k l j) 0 (λ u. skip) kept
  unfolding valid_from encode_stmt stmt_numbers
  skip_tagged = record {
    passes = λ v. refl;
    bytes = λ v. refl;
    answer = λ stop v s p a. record { stops = a; counts = sym (add-zero j) };
    back = λ text pos w h e. (tt, sym (skip_at text pos w h e).is);
  }

  pub skip_found : (text : List ℕ) (pos : ℕ) → ByteAt text pos 0 → Scanned (stmt_form n r k l j) text pos (Some (record { end = pos + 1; next = j }))
  skip_found text pos h =
      made skip_tagged h (Some (pos + 1)) ((tt, (record { passes = refl; stands = stands_nil text (pos + 1) }, sym (add-zero (pos + 1)))), λ v at. sym (add-zero (pos + 1)))

  pub assign_tagged : Tagged (assign_form n r j) (stmt_form n r k l j) 1 (λ v. assign v.0 v.1.0 v.1.1) (one_numbered j)
  unfolding valid_from encode_stmt stmt_numbers in_bytes
  assign_tagged = record {
    passes = λ v. refl;
    bytes = λ v. refl;
    answer = λ stop v s p a. record { stops = a; counts = refl };
    back = λ text pos w h e. let q = assign_at text pos w h e in ((q.p, (q.v, q.e)), sym q.is);
  }

  pub store_tagged : Tagged (store_form n r j) (stmt_form n r k l j) 2 (λ v. store v.0 v.1.0 v.1.1.0 v.1.1.1) (one_numbered j)
  unfolding valid_from encode_stmt stmt_numbers in_bytes
  store_tagged = record {
    passes = λ v. refl;
    bytes = λ v. refl;
    answer = λ stop v s p a. record { stops = a; counts = refl };
    back = λ text pos w h e. let q = store_at text pos w h e in ((q.p, (q.r, (q.a, q.e))), sym q.is);
  }

  pub input_tagged : Tagged (input_form n j) (stmt_form n r k l j) 3 (λ v. input v.0 v.1.0 v.1.1.0 v.1.1.1) (one_numbered j)
  unfolding valid_from encode_stmt stmt_numbers in_bytes
  input_tagged = record {
    passes = λ v. refl;
    bytes = λ v. refl;
    answer = λ stop v s p a. record { stops = a; counts = refl };
    back = λ text pos w h e. let q = input_at text pos w h e in ((q.p, (q.v, (q.a, q.b))), sym q.is);
  }

  pub check_tagged : Tagged (head_form n r j) (stmt_form n r k l j) 4 (λ v. check v.0 v.1) (one_numbered j)
  unfolding valid_from encode_stmt stmt_numbers
  check_tagged = record {
    passes = λ v. refl;
    bytes = λ v. refl;
    answer = λ stop v s p a. record { stops = a; counts = refl };
    back = λ text pos w h e. let q = check_at text pos w h e in ((q.p, q.t), sym q.is);
  }

  -- two statements, the second numbered from where the first leaves off
  abbrev pub stmts_form : Form (Stmt × Stmt) StmtEnd
  stmts_form = followed (stmt_form n r k l j) (λ a. stmt_form n r k l (j + length (stmt_numbers a)))

  pub seq_tagged : Tagged stmts_form (stmt_form n r k l j) 5 (λ v. seq v.0 v.1) (λ s. s)
  unfolding valid_from encode_stmt stmt_numbers
  seq_tagged = record {
    passes = λ v. refl;
    bytes = λ v. refl;
    answer = λ stop v s p a. record { stops = a.stops; counts = omega (arith, a.counts, length-append (stmt_numbers v.0) (stmt_numbers v.1)) };
    back = λ text pos w h e. let q = seq_at text pos w h e in ((q.a, q.b), sym q.is);
  }

  pub then_stmt : (text : List ℕ) (pos : ℕ) (first : StmtEnd) (o : Option StmtEnd) → Scanned (stmt_form n r k l j) text pos (Some first) → Scanned (stmt_form n r k l first.next) text first.end o →
      Scanned stmts_form text pos o
  then_stmt text pos first o h s =
      then_second (stmt_form n r k l j) (λ a. stmt_form n r k l (j + length (stmt_numbers a))) text pos first o h
      (λ a e. subst (λ (at : ℕ). Scanned (stmt_form n r k l (j + length (stmt_numbers a))) text at o) e.stops (subst (λ (m : ℕ). Scanned (stmt_form n r k l m) text first.end o) e.counts s))

  -- a statement has fewer numbers than bytes
  pub next_within : (text : List ℕ) (pos : ℕ) (first : StmtEnd) → Scanned (stmt_form n r k l j) text pos (Some first) → j ≤ pos → first.next ≤ first.end
  next_within text pos first h b = omega (arith, h.0.1.1.stops, h.0.1.1.counts, numbers_twelfth h.0.0)

  pub stmt_past : (text : List ℕ) (pos : ℕ) → length text ≤ pos → Scanned (stmt_form n r k l j) text pos None
  stmt_past text pos b d h = omega (arith, stmt_long d, some_within text pos (encode_stmt d) (stmt_long d) h.stands)

  -- no statement begins with another byte
  pub stmt_other : (text : List ℕ) (pos b : ℕ) → ByteAt text pos b → 8 ≤ b → Scanned (stmt_form n r k l j) text pos None
  stmt_other text pos b h u d at = no_kind text pos d b u (stmt_at text pos d b at.stands h.is)

  -- no branch where none may be nested
  pub no_branch : (text : List ℕ) (pos : ℕ) → ByteAt text pos 6 → k ≡ 0 → Scanned (stmt_form n r k l j) text pos None
  unfolding valid_from
  no_branch text pos h e d at =
      let q = branch_at text pos d at.stands h.is in
      let p = ap (valid_from n r k l j) (sym q.is) ∙ at.passes in
      omega (arith, ltb-true 0 k (and_parts (ltb 0 k) _ p).0)

  -- no loop where none may be nested, or none in a loop
  pub no_loop : (text : List ℕ) (pos : ℕ) → ByteAt text pos 7 → (0 < k → 0 < l → ⊥) → Scanned (stmt_form n r k l j) text pos None
  unfolding valid_from
  no_loop text pos h e d at =
      let q = loop_at text pos d at.stands h.is in
      let p = ap (valid_from n r k l j) (sym q.is) ∙ at.passes in
      let u = and_parts (ltb 0 k) (ltb 0 l) (and_parts (ltb 0 k && ltb 0 l) _ p).0 in
      e (ltb-true 0 k u.0) (ltb-true 0 l u.1)

-- branches and loops leave less room to what they hold

abbrev pub branch_form : ℕ → ℕ → ℕ → ℕ → ℕ → Form ((ℕ × Test) × (Stmt × Stmt)) StmtEnd
branch_form n r k l j = followed (head_form n r j) (λ p. stmts_form n r (k - 1) l (j + 1))

pub branch_tagged : (n r k l j : ℕ) → 0 < k → Tagged (branch_form n r k l j) (stmt_form n r k l j) 6 (λ v. branch v.0.0 v.0.1 v.1.0 v.1.1) (λ s. s)
unfolding valid_from encode_stmt stmt_numbers in_bytes
branch_tagged n r k l j some = record {
  passes = λ v. rw (lt-ltb 0 k some) refl;
  bytes = λ v. append_assoc (6 ∷ eight v.0.0 ++ encode_test v.0.1) (encode_stmt v.1.0) (encode_stmt v.1.1);
  answer = λ stop v s p a. record { stops = a.stops; counts = omega (arith, a.counts, length-append (stmt_numbers v.1.0) (stmt_numbers v.1.1)) };
  back = λ text pos w h e. let q = branch_at text pos w h e in (((q.p, q.t), (q.a, q.b)), sym q.is);
}

abbrev pub loop_form : ℕ → ℕ → ℕ → ℕ → ℕ → Form ((ℕ × Test) × Stmt) StmtEnd
loop_form n r k l j = followed (head_form n r j) (λ p. stmt_form n r (k - 1) (l - 1) (j + 1))

pub loop_tagged : (n r k l j : ℕ) → 0 < k → 0 < l → Tagged (loop_form n r k l j) (stmt_form n r k l j) 7 (λ v. loop v.0.0 v.0.1 v.1) (λ s. s)
unfolding valid_from encode_stmt stmt_numbers in_bytes
loop_tagged n r k l j some-k some-l = record {
  passes = λ v. rw (lt-ltb 0 k some-k, lt-ltb 0 l some-l) refl;
  bytes = λ v. refl;
  answer = λ stop v s p a. record { stops = a.stops; counts = omega (arith, a.counts) };
  back = λ text pos w h e. let q = loop_at text pos w h e in (((q.p, q.t), q.a), sym q.is);
}
