-- A program that stands at a position is taken apart: its variables, its arrays' lengths, its body. Rests on Standing and Valid.
use Rattle.std.proofs.Common.{◌≡◌, ℕ, zero, suc, ◌+◌, ◌*◌, ◌<◌, List, [], ◌∷◌, ◌++◌, length, get_or, drop, sym, ap, ◌∙◌, append-nil, arith, length-append}
use lib.Seq.{drop-length}
use Rattle.program.specs.Basics.{eight, flat_map}
use Rattle.program.specs.Syntax.{Program}
use Rattle.program.specs.Encoding.{encode_stmt, encode_program}
use Rattle.program.specs.Command.{load, encode}
use Rattle.encoding.specs.Standing.{Stands}
use Rattle.encoding.specs.ProgramParts.{ProgramAt}
use Rattle.encoding.proofs.Lengths.{length_eight, length_eights}
use Rattle.encoding.proofs.Valid.{program_length}
use Rattle.encoding.proofs.Standing.{stands_from, stands_move, stands_two, stands_first}

pub program_at : (text : List ℕ) (pos : ℕ) (p : Program) → Stands text pos (encode_program p) → ProgramAt text pos p
program_at text pos p h =
    let count = eight (length p.arrays) in
    let lengths = flat_map eight p.arrays in
    let q = stands_first text pos p.vars (count ++ lengths ++ encode_stmt p.body) h in
    let two = stands_two text (pos + 1) (count ++ lengths) (encode_stmt p.body) q.1 in
    let one = stands_two text (pos + 1) count lengths two.0 in
    let l : length count ≡ 8 = length_eight (length p.arrays) in
    let m : length (count ++ lengths) ≡ 8 + 8 * length p.arrays = omega (arith, length-append count lengths, length_eights p.arrays) in
    record {
      vars_is = q.0;
      count = one.0;
      arrays = stands_move text (pos + 1 + length count) (pos + 9) lengths (omega arith) one.1;
      body = stands_move text (pos + 1 + length (count ++ lengths)) (pos + 9 + 8 * length p.arrays) (encode_stmt p.body) (omega arith) two.1;
      long = program_length p;
    }

-- the i-th of numbers that stand one behind the other
pub number_stands : (text : List ℕ) (ns : List ℕ) (pos i : ℕ) → Stands text pos (flat_map eight ns) → i < length ns → Stands text (pos + 8 * i) (eight (get_or ns i 0))
number_stands text [] pos i h l = absurd (omega arith)
number_stands text (n ∷ ns) pos zero h l = stands_move text pos (pos + 8 * 0) (eight n) (omega arith) (stands_two text pos (eight n) (flat_map eight ns) h).0
number_stands text (n ∷ ns) pos (suc i) h l =
    let k = number_stands text ns (pos + length (eight n)) i (stands_two text pos (eight n) (flat_map eight ns) h).1 (omega arith) in
    stands_move text (pos + length (eight n) + 8 * i) (pos + 8 * suc i) (eight (get_or ns i 0)) (omega (arith, length_eight n)) k

-- in a text that encodes a program, the program stands behind the first byte and ends with the text
pub load_stands : (text : List ℕ) (p : Program) → encode (load p) ≡ text → Stands text 1 (encode_program p)
unfolding encode
load_stands text p e = stands_from text 1 (encode_program p) [] (ap (λ (ys : List ℕ). drop 1 ys) (sym e) ∙ sym (append-nil (encode_program p)))

pub load_long : (text : List ℕ) (p : Program) → encode (load p) ≡ text → length text ≡ 1 + length (encode_program p)
unfolding encode
load_long text p e = omega (arith, ap length e)

-- and the other way round
pub stands_load : (text : List ℕ) (p : Program) → get_or text 0 0 ≡ 1 → length text ≡ 1 + length (encode_program p) → Stands text 1 (encode_program p) → encode (load p) ≡ text
unfolding encode
stands_load [] p e l h = absurd (omega arith)
stands_load (t ∷ ts) p e l h =
    let rest : drop (1 + length (encode_program p)) (t ∷ ts) ≡ [] = ap (λ (n : ℕ). drop n (t ∷ ts)) (sym l) ∙ drop-length (t ∷ ts) in
    let all : ts ≡ encode_program p = h ∙ ap (λ (ys : List ℕ). encode_program p ++ ys) rest ∙ append-nil (encode_program p) in
    cc
