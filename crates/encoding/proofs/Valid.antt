-- What a valid program satisfies, part by part, and the bounds that follow: at most 2730 statements, numbered from 1. Rests on Lengths.
use Rattle.std.proofs.Common.{◌≡◌, ℕ, suc, ◌+◌, ◌*◌, ◌≤◌, true, ◌&&◌, eqb, leb, List, [], ◌∷◌, length, refl, arith, length-append}
use Rattle.std.proofs.lemmas.Bool.{leb-true, le-leb, eqb-true, and_parts, and_from}
use Rattle.std.specs.List.{AllByRecursion as All}
use Rattle.program.specs.Basics.{all}
use Rattle.program.specs.Syntax.{Program}
use Rattle.program.specs.Encoding.{encode_stmt, encode_program}
use Rattle.program.specs.Validity.{valid_stmt, nesting, loop_nesting, stmt_numbers, consecutive, valid_program}
use Rattle.program.specs.Command.{Command, load, all_alarms, at_end, encode, valid}
use Rattle.encoding.proofs.Lengths.{length_eight, length_eights, numbers_twelfth}

-- an array's length is one from 1 to 65536
abbrev pub ArrayLength : ℕ → Type 0
ArrayLength n = (1 ≤ n) × (n ≤ 65536)

pub record ValidProgram (p : Program) : Type 0 where
  pub vars : p.vars ≤ 64
  pub arrays : length p.arrays ≤ 16
  pub array_lengths : All ArrayLength p.arrays
  pub body : valid_stmt p.vars (length p.arrays) p.body ≡ true
  pub numbered : consecutive 1 (stmt_numbers p.body) ≡ true
  pub nested : nesting p.body ≤ 32
  pub loops_nested : loop_nesting p.body ≤ 3
  pub short : length (encode_program p) ≤ 32768

pub lengths_all : (ns : List ℕ) → all (λ n. leb 1 n && leb n 65536) ns ≡ true → All ArrayLength ns
lengths_all [] h = tt
lengths_all (n ∷ ns) h =
    let q = and_parts (leb 1 n && leb n 65536) (all (λ n. leb 1 n && leb n 65536) ns) h in
    let r = and_parts (leb 1 n) (leb n 65536) q.0 in
    ((leb-true 1 n r.0, leb-true n 65536 r.1), lengths_all ns q.1)

pub all_lengths : (ns : List ℕ) → All ArrayLength ns → all (λ n. leb 1 n && leb n 65536) ns ≡ true
all_lengths [] h = refl
all_lengths (n ∷ ns) h =
    and_from (leb 1 n && leb n 65536) _ (and_from (leb 1 n) (leb n 65536) (le-leb 1 n h.0.0) (le-leb n 65536 h.0.1)) (all_lengths ns h.1)

pub program_parts : (p : Program) → valid_program p ≡ true → ValidProgram p
program_parts p h =
    let a = and_parts (leb p.vars 64 && (leb (length p.arrays) 16 && all (λ n. leb 1 n && leb n 65536) p.arrays)) _ h in
    let b = and_parts (leb p.vars 64) _ a.0 in
    let c = and_parts (leb (length p.arrays) 16) _ b.1 in
    let d = and_parts (valid_stmt p.vars (length p.arrays) p.body && consecutive 1 (stmt_numbers p.body)) _ a.1 in
    let e = and_parts (valid_stmt p.vars (length p.arrays) p.body) _ d.0 in
    let f = and_parts (leb (nesting p.body) 32) _ d.1 in
    let g = and_parts (leb (loop_nesting p.body) 3) _ f.1 in
    record {
      vars = leb-true p.vars 64 b.0;
      arrays = leb-true (length p.arrays) 16 c.0;
      array_lengths = lengths_all p.arrays c.1;
      body = e.0;
      numbered = e.1;
      nested = leb-true (nesting p.body) 32 f.0;
      loops_nested = leb-true (loop_nesting p.body) 3 g.0;
      short = leb-true (length (encode_program p)) 32768 g.1;
    }

pub program_valid : (p : Program) → ValidProgram p → valid_program p ≡ true
program_valid p v =
    and_from (leb p.vars 64 && (leb (length p.arrays) 16 && all (λ n. leb 1 n && leb n 65536) p.arrays)) _
    (and_from (leb p.vars 64) _ (le-leb _ _ v.vars) (and_from (leb (length p.arrays) 16) _ (le-leb _ _ v.arrays) (all_lengths p.arrays v.array_lengths)))
    (and_from (valid_stmt p.vars (length p.arrays) p.body && consecutive 1 (stmt_numbers p.body)) _
    (and_from (valid_stmt p.vars (length p.arrays) p.body) _ v.body v.numbered)
    (and_from (leb (nesting p.body) 32) _ (le-leb _ _ v.nested) (and_from (leb (loop_nesting p.body) 3) _ (le-leb _ _ v.loops_nested) (le-leb _ _ v.short))))

-- consecutive numbers from n, so many that none is above high
pub consecutive_all : (ps : List ℕ) (n low high : ℕ) → consecutive n ps ≡ true → low ≤ n → n + length ps ≤ suc high → All (λ p. (low ≤ p) × (p ≤ high)) ps
unfolding consecutive
consecutive_all [] n low high c l h = tt
consecutive_all (p ∷ ps) n low high c l h =
    let q = and_parts (eqb p n) (consecutive (suc n) ps) c in
    let e = eqb-true p n q.0 in
    ((omega arith, omega arith), consecutive_all ps (suc n) low high q.1 (omega arith) (omega arith))

pub program_length : (p : Program) → length (encode_program p) ≡ 9 + 8 * length p.arrays + length (encode_stmt p.body)
program_length p = simp length-append (omega (arith, length_eight (length p.arrays), length_eights p.arrays))

-- at most 2730 statements have a number
pub few_statements : (p : Program) → valid_program p ≡ true → length (stmt_numbers p.body) ≤ 2730
few_statements p h = omega (arith, (program_parts p h).short, program_length p, numbers_twelfth p.body)

-- the statements' numbers are between 1 and 2730
pub numbers_bounded : (p : Program) → valid_program p ≡ true → All (λ k. (1 ≤ k) × (k ≤ 2730)) (stmt_numbers p.body)
numbers_bounded p h = consecutive_all (stmt_numbers p.body) 1 1 2730 (program_parts p h).numbered (omega arith) (omega (arith, few_statements p h))

-- a valid command has at most 32769 bytes
pub text_short : (c : Command) → valid c ≡ true → length (encode c) ≤ 32769
unfolding encode valid
text_short (load p) h = omega (arith, (program_parts p h).short)
text_short all_alarms h = omega arith
text_short (at_end x) h = omega arith
