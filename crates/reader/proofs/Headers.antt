-- A program's header: that it is read from the text of a program, and that nothing else is. Rests on Parts and OnePass, and on where a program's parts stand.
use Rattle.std.proofs.Common.{◌≡◌, ℕ, ◌+◌, ◌-◌, ◌*◌, ◌<◌, ◌≤◌, Bool, true, false, ◌&&◌, leb, List, ◌++◌, length, Some, None, sym, refl, ◌∙◌, subst, arith, length-append}
use Rattle.std.proofs.lemmas.Bool.{and_parts, and_from, both_ways, leb-true, le-leb}
use Rattle.program.specs.Basics.{all, eight, flat_map}
use Rattle.program.specs.Syntax.{Stmt, Program}
use Rattle.program.specs.Encoding.{encode_stmt, encode_program}
use Rattle.program.specs.Validity.{valid_stmt, stmt_numbers, consecutive, nesting}
use Rattle.program.specs.Command.{load, valid}
use Rattle.encoding.specs.Standing.{Stands}
use Rattle.encoding.specs.ProgramParts.{ProgramAt}
use Rattle.encoding.proofs.Lengths.{length_eight, length_eights}
use Rattle.encoding.proofs.Standing.{stands_join, stands_cons, stands_move}
use Rattle.encoding.proofs.Valid.{ValidProgram, program_parts, program_valid, program_length, lengths_all, all_lengths}
use Rattle.encoding.proofs.ProgramParts.{program_at, load_stands, load_long, stands_load}
use Rattle.scanner.specs.declared.scan.StmtEnd.{StmtEnd}
use Rattle.scanner.specs.Bytes.{ByteAt, NumberFound}
use Rattle.scanner.specs.Form.{Here, Scanned}
use Rattle.scanner.specs.OnePass.{valid_from}
use Rattle.scanner.specs.Trees.{stmt_form}
use Rattle.reader.specs.declared.load.Header.{Header}
use Rattle.reader.specs.Request.{EncodingOf, array_length, LengthsAt, LengthsRead, Loads, HeaderRead}
use Rattle.scanner.proofs.Parts.{eight_same}
use Rattle.scanner.proofs.OnePass.{valid_from_is}

-- what may be of variables, arrays and bytes
abbrev allowed : ℕ → ℕ → ℕ → Bool
allowed v n b = leb v 64 && (leb n 16 && leb b 32768)

-- a valid program that the text encodes
record Loaded (text : List ℕ) (p : Program) : Type 0 where
  pub parts : ProgramAt text 1 p
  pub long : length text ≡ 1 + length (encode_program p)
  pub valid : ValidProgram p

loaded : (text : List ℕ) (p : Program) → EncodingOf (load p) text → Loaded text p
unfolding valid
loaded text p e = record { parts = program_at text 1 p (load_stands text p e.0); long = load_long text p e.0; valid = program_parts p e.1 }

-- a statement that passes is valid in all that is asked of a program's, and the other way round
body_passes : (p : Program) → ValidProgram p → valid_from p.vars (length p.arrays) 32 3 1 p.body ≡ true
body_passes p v =
    valid_from_is p.vars (length p.arrays) 32 3 1 p.body
    ∙ and_from (valid_stmt p.vars (length p.arrays) p.body && consecutive 1 (stmt_numbers p.body)) _
    (and_from (valid_stmt p.vars (length p.arrays) p.body) _ v.body v.numbered)
    (and_from (leb (nesting p.body) 32) _ (le-leb _ _ v.nested) (le-leb _ _ v.loops_nested))

program_passes : (p : Program) → allowed p.vars (length p.arrays) (length (encode_program p)) ≡ true → all array_length p.arrays ≡ true → valid_from p.vars (length p.arrays) 32 3 1 p.body ≡ true → ValidProgram p
program_passes p a l h =
    let b = and_parts (leb p.vars 64) _ a in
    let c = and_parts (leb (length p.arrays) 16) _ b.1 in
    let d = and_parts (valid_stmt p.vars (length p.arrays) p.body && consecutive 1 (stmt_numbers p.body)) _ (sym (valid_from_is p.vars (length p.arrays) 32 3 1 p.body) ∙ h) in
    let e = and_parts (valid_stmt p.vars (length p.arrays) p.body) _ d.0 in
    let f = and_parts (leb (nesting p.body) 32) _ d.1 in
    record {
      vars = leb-true _ _ b.0;
      arrays = leb-true _ _ c.0;
      array_lengths = lengths_all p.arrays l;
      body = e.0;
      numbered = e.1;
      nested = leb-true _ _ f.0;
      loops_nested = leb-true _ _ f.1;
      short = leb-true _ _ c.1;
    }

-- a program's parts, one behind the other
program_stands : (text : List ℕ) (v : ℕ) (ns : List ℕ) (d : Stmt) → ByteAt text 1 v → Stands text 2 (eight (length ns)) → Stands text 10 (flat_map eight ns) → Stands text (10 + 8 * length ns) (encode_stmt d) →
    Stands text 1 (encode_program (record { vars = v; arrays = ns; body = d }))
program_stands text v ns d b count lengths body =
    let l : length (eight (length ns)) ≡ 8 = length_eight (length ns) in
    let h = stands_join text 2 (eight (length ns)) (flat_map eight ns) count (stands_move text 10 (2 + length (eight (length ns))) (flat_map eight ns) (omega arith) lengths) in
    let m : 10 + 8 * length ns ≡ 2 + length (eight (length ns) ++ flat_map eight ns) = omega (arith, length-append (eight (length ns)) (flat_map eight ns), length_eights ns) in
    stands_cons text 1 2 v (eight (length ns) ++ flat_map eight ns ++ encode_stmt d) b.inside b.is refl
    (stands_join text 2 (eight (length ns) ++ flat_map eight ns) (encode_stmt d) h (stands_move text (10 + 8 * length ns) (2 + length (eight (length ns) ++ flat_map eight ns)) (encode_stmt d) m body))

module _ (text : List ℕ) where
  same_vars : (v : ℕ) (p : Program) → ByteAt text 1 v → Loaded text p → p.vars ≡ v
  same_vars v p b h = sym h.parts.vars_is ∙ b.is

  same_count : (n : ℕ) (p : Program) → NumberFound text 2 n → Loaded text p → length p.arrays ≡ n
  same_count n p f h = sym (eight_same text 2 n (length p.arrays) f h.parts.count (omega (arith, h.valid.arrays)))

  -- a text that is too short
  pub no_vars : length text ≤ 1 → HeaderRead text None
  no_vars l p e = let h = loaded text p e in omega (arith, h.long, program_length p)

  pub no_count : length text < 10 → HeaderRead text None
  no_count l p e = let h = loaded text p e in omega (arith, h.long, program_length p)

module _ (text : List ℕ) (v n : ℕ) (b : ByteAt text 1 v) (f : NumberFound text 2 n) where
  -- the program's variables and arrays are those that are read
  as_read : (P : ℕ → ℕ → Type 0) (p : Program) → Loaded text p → P p.vars (length p.arrays) → P v n
  as_read P p h k = subst (λ (m : ℕ). P v m) (same_count text n p f h) (subst (λ (m : ℕ). P m (length p.arrays)) (same_vars text v p b h) k)

  pub not_allowed : allowed v n (length text - 1) ≡ false → HeaderRead text None
  not_allowed a p e =
      let h = loaded text p e in
      let fits : allowed p.vars (length p.arrays) (length text - 1) ≡ true =
      and_from (leb p.vars 64) _ (le-leb _ _ h.valid.vars) (and_from (leb (length p.arrays) 16) _ (le-leb _ _ h.valid.arrays) (le-leb (length text - 1) 32768 (omega (arith, h.long, h.valid.short)))) in
      both_ways (allowed v n (length text - 1)) a (as_read (λ m k. allowed m k (length text - 1) ≡ true) p h fits)

  pub no_lengths : LengthsRead text 10 n None → HeaderRead text None
  no_lengths k p e = let h = loaded text p e in k p.arrays (same_count text n p f h) (all_lengths p.arrays h.valid.array_lengths) h.parts.arrays

  -- the program's statement stands behind its arrays
  body_here : (p : Program) → Loaded text p → Here (stmt_form v n 32 3 1) text (10 + 8 * n) p.body
  body_here p h = record {
    passes = as_read (λ m k. valid_from m k 32 3 1 p.body ≡ true) p h (body_passes p h.valid);
    stands = as_read (λ m k. Stands text (10 + 8 * k) (encode_stmt p.body)) p h h.parts.body;
  }

  pub no_body : Scanned (stmt_form v n 32 3 1) text (10 + 8 * n) None → HeaderRead text None
  no_body k p e = k p.body (body_here p (loaded text p e))

  pub not_all : (last : StmtEnd) → Scanned (stmt_form v n 32 3 1) text (10 + 8 * n) (Some last) → (last.end ≡ length text → ⊥) → HeaderRead text None
  not_all last k ne p e =
      let h = loaded text p e in
      ne (omega (arith, (k.1 p.body (body_here p h)).stops, h.long, program_length p, same_count text n p f h))

  pub header_read : (ls : List ℕ) (last : StmtEnd) → ByteAt text 0 1 → allowed v n (length text - 1) ≡ true → LengthsAt text 10 n ls → Scanned (stmt_form v n 32 3 1) text (10 + 8 * n) (Some last) → last.end ≡ length text →
      (h : Header) → h.vars ≡ v → h.lengths ≡ ls → h.arrays ≡ n → h.body ≡ 10 + 8 * n → Loads text h
  unfolding valid
  header_read ls last one a l k end h vars lengths arrays at =
      let d = k.0.0 in
      let p : Program = record { vars = v; arrays = l.ns; body = d } in
      let ends = k.0.1.1.stops in
      let long : length text ≡ 1 + length (encode_program p) = omega (arith, program_length p, l.counted, ends, end) in
      let body : Stands text (10 + 8 * length l.ns) (encode_stmt d) = rw l.counted k.0.1.0.stands in
      let stands = program_stands text v l.ns d b (rw l.counted f.stands) l.stands body in
      let size : length text - 1 ≡ length (encode_program p) = omega arith in
      let fits : allowed v (length l.ns) (length (encode_program p)) ≡ true = rw (sym size, l.counted) a in
      let passes : valid_from v (length l.ns) 32 3 1 d ≡ true = rw l.counted k.0.1.0.passes in
      record {
        program = p;
        encoded = (stands_load text p one.is long stands, program_valid p (program_passes p fits l.allowed passes));
        vars = vars;
        arrays = arrays ∙ sym l.counted;
        lengths = lengths ∙ rw l.counted l.padded;
        stands = rw at k.0.1.0.stands;
        ends = rw at (sym ends ∙ end);
      }
