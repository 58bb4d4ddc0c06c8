-- A valid program's statements, counted by a scan. Rests on what the reader's scans answer.
use Rattle.std.proofs.Common.{◌≡◌, ℕ, ◌-◌, Bool, true, false, ◌&&◌, eqb, leb, List, [], ◌∷◌, length, Some, sym, refl, ap, ◌∙◌, arith}
use Rattle.std.proofs.lemmas.Bool.{eqb-true}
use borrow.Author.Tests.{clash}
use Rattle.program.specs.Basics.{all}
use Rattle.program.specs.Syntax.{Program}
use Rattle.program.specs.Encoding.{encode_program}
use Rattle.program.specs.Validity.{valid_stmt, consecutive, stmt_numbers, nesting, loop_nesting}
use Rattle.program.specs.Command.{load, encode, valid}
use Rattle.reader.specs.declared.load.Header.{Header}
use Rattle.scanner.specs.declared.scan.StmtEnd.{StmtEnd}
use Rattle.scanner.specs.Form.{Scanned}
use Rattle.scanner.specs.OnePass.{valid_from}
use Rattle.scanner.specs.Trees.{stmt_form}
use Rattle.reader.specs.Request.{Loads}
use Rattle.scanner.proofs.OnePass.{valid_from_is}
use Rattle.source.specs.Valid.{Encodes}
use Rattle.source.specs.Sizes.{HasSizes}
use Rattle.source.specs.declared.sizes.Sizes.{Sizes}

picked : (a v c n l b : Bool) → (a && ((v && c) && (n && (l && b)))) ≡ true → ((v && c) && (n && l)) ≡ true
picked true true true true true b e = refl
picked false v c n l b e = absurd (clash e)
picked true false c n l b e = absurd (clash e)
picked true true false n l b e = absurd (clash e)
picked true true true false l b e = absurd (clash e)
picked true true true true false b e = absurd (clash e)

body_valid : (p : Program) → valid (load p) ≡ true → valid_from p.vars (length p.arrays) 32 3 1 p.body ≡ true
unfolding valid
body_valid p e =
    valid_from_is p.vars (length p.arrays) 32 3 1 p.body
    ∙ picked (leb p.vars 64 && (leb (length p.arrays) 16 && all (λ n. leb 1 n && leb n 65536) p.arrays)) (valid_stmt p.vars (length p.arrays) p.body)
    (consecutive 1 (stmt_numbers p.body)) (leb (nesting p.body) 32) (leb (loop_nesting p.body) 3) (leb (length (encode_program p)) 32768) e

pub count_is : (text : List ℕ) (h : Header) (last : StmtEnd) → Scanned (stmt_form h.vars h.arrays 32 3 1) text h.body (Some last) → (l : Loads text h) →
    last.next - 1 ≡ length (stmt_numbers l.program.body)
count_is text h last s l =
    let v : valid_from h.vars h.arrays 32 3 1 l.program.body ≡ true = rw (l.vars, l.arrays) (body_valid l.program l.encoded.1) in
    let a = s.1 l.program.body (record { passes = v; stands = l.stands }) in
    omega (arith, a.counts)

tail_of : List ℕ → List ℕ
tail_of [] = []
tail_of (b ∷ bs) = bs

-- the program behind the command's first byte
pub encodes_from : (program text : List ℕ) (s : Sizes) → HasSizes text s → text ≡ 1 ∷ program → Encodes program s.statements s.vars s.arrays
unfolding encode valid tail_of
encodes_from program text s h e =
    record {
      program = h.loads.program;
      encoded = ap tail_of (h.loads.encoded.0 ∙ e);
      valid = h.loads.encoded.1;
      statements_are = h.statements_are;
      variables_are = h.variables_are ∙ h.loads.vars;
      arrays_are = h.arrays_are ∙ h.loads.arrays;
    }

both : (a b : Bool) → (a && b) ≡ true → (a ≡ true) × (b ≡ true)
both true true e = (refl, refl)
both true false e = absurd (clash e)
both false b e = absurd (clash e)

-- sizes that compare as the same
pub encodes_same : (bs : List ℕ) (s t : Sizes) → (eqb s.statements t.statements && (eqb s.vars t.vars && eqb s.arrays t.arrays)) ≡ true → Encodes bs s.statements s.vars s.arrays → Encodes bs t.statements t.vars t.arrays
encodes_same bs s t e p =
    let f = both _ _ e in
    let g = both _ _ f.1 in
    record {
      program = p.program;
      encoded = p.encoded;
      valid = p.valid;
      statements_are = sym (eqb-true _ _ f.0) ∙ p.statements_are;
      variables_are = sym (eqb-true _ _ g.0) ∙ p.variables_are;
      arrays_are = sym (eqb-true _ _ g.1) ∙ p.arrays_are;
    }
