-- Commands are read back, so no two are encoded alike, and `hear` gives the one valid command that a text encodes, or none. Rests on ReadBack and Valid.
use Rattle.std.proofs.Common.{◌≡◌, ℕ, ◌≤◌, Bool, true, false, cond, ◌&&◌, eqb, List, [], ◌∷◌, ◌++◌, length, refl, ap, subst, append_assoc, append-nil, arith, length-append}
use Rattle.std.proofs.lemmas.Bool.{and_parts, and_from, eqb-true, eq-eqb}
use Rattle.std.proofs.ByRecursion.{All-weaker}
use Rattle.std.specs.List.{AllByRecursion as All}
use Rattle.program.specs.Basics.{eight, flat_map, same_list}
use Rattle.program.specs.Syntax.{Program}
use Rattle.program.specs.Encoding.{encode_stmt, encode_program}
use Rattle.program.specs.Validity.{valid_program, stmt_numbers}
use Rattle.program.specs.Command.{Command, load, all_alarms, at_end, encode, valid}
use Rattle.encoding.specs.Reader.{Out, fail, ok, and_read, read_byte, read_numbers, read_arrays, by_tag, read_program, read_command, Heard, nothing, heard, if_valid, hear}
use Rattle.encoding.specs.Statements.{EncodedOnce, ReadsBack, Hears, ReadsOnly}
use Rattle.encoding.proofs.Valid.{ArrayLength, program_parts, numbers_bounded}
use Rattle.encoding.proofs.ReadBack.{Back, Word, eight_back, stmt_back}

pub numbers_back : (ns xs : List ℕ) → All Word ns → read_numbers (length ns) (flat_map eight ns ++ xs) ≡ ok ns xs
unfolding read_numbers and_read
numbers_back [] xs h = refl
numbers_back (n ∷ ns) xs h = rw (append_assoc (eight n) (flat_map eight ns) xs, eight_back n (flat_map eight ns ++ xs) h.0, numbers_back ns xs h.1) refl

pub arrays_back : (ns xs : List ℕ) → Word (length ns) → All Word ns → read_arrays (eight (length ns) ++ (flat_map eight ns ++ xs)) ≡ ok ns xs
unfolding and_read
arrays_back ns xs w h = rw (eight_back (length ns) (flat_map eight ns ++ xs) w) (numbers_back ns xs h)

pub program_back : (p : Program) → valid_program p ≡ true → Back read_program (encode_program p) p
unfolding read_program read_byte and_read
program_back p h f xs l =
    let v = program_parts p h in
    let words = All-weaker ArrayLength Word (λ n b. omega arith) p.arrays v.array_lengths in
    let numbers = All-weaker (λ k. (1 ≤ k) × (k ≤ 2730)) Word (λ n b. omega arith) (stmt_numbers p.body) (numbers_bounded p h) in
    let few : Word (length p.arrays) = omega (arith, v.arrays) in
    let m = length-append (eight (length p.arrays) ++ flat_map eight p.arrays) (encode_stmt p.body) in
    let arrays = arrays_back p.arrays (encode_stmt p.body ++ xs) few words in
    let body = stmt_back p.vars (length p.arrays) p.body v.body numbers f xs (omega arith) in
    rw (
      append_assoc (eight (length p.arrays) ++ flat_map eight p.arrays) (encode_stmt p.body) xs,
      append_assoc (eight (length p.arrays)) (flat_map eight p.arrays) (encode_stmt p.body ++ xs),
      arrays,
      body,
    ) refl

pub command_back : (c : Command) → valid c ≡ true → Back read_command (encode c) c
unfolding encode valid read_command read_byte by_tag and_read
command_back (load p) h f xs l = rw (program_back p h f xs (omega arith)) refl
command_back all_alarms h f xs l = refl
command_back (at_end x) h f xs l = refl

-- a whole text is read
pub text_back : (c : Command) (text : List ℕ) → valid c ≡ true → encode c ≡ text → read_command (length text) text ≡ ok c []
text_back c text v e = let b = command_back c v (length (encode c)) [] (omega arith) in let n = append-nil (encode c) in cc

pub encoded_once : EncodedOnce
unfolding EncodedOnce
encoded_once a c v w e = let p = text_back a (encode c) v e in let q = text_back c (encode c) w refl in cc

pub same_is : (xs ys : List ℕ) → same_list xs ys ≡ true → xs ≡ ys
unfolding same_list
same_is [] [] h = refl
same_is [] (y ∷ ys) h = cc
same_is (x ∷ xs) [] h = cc
same_is (x ∷ xs) (y ∷ ys) h =
    let q = and_parts (eqb x y) (same_list xs ys) h in
    let e = eqb-true x y q.0 in let f = same_is xs ys q.1 in cc

pub same_itself : (xs : List ℕ) → same_list xs xs ≡ true
unfolding same_list
same_itself [] = refl
same_itself (x ∷ xs) = and_from (eqb x x) (same_list xs xs) (eq-eqb x x refl) (same_itself xs)

-- a valid command's encoding passes the test of `if-valid`
passes : (c : Command) (text : List ℕ) → encode c ≡ text → valid c ≡ true → (valid c && same_list (encode c) text) ≡ true
passes c text e v = and_from (valid c) (same_list (encode c) text) v (subst (λ t. same_list (encode c) t ≡ true) e (same_itself (encode c)))

-- by the test's outcome
tested : (c : Command) (text : List ℕ) (b : Bool) → read_command (length text) text ≡ ok c [] → (valid c && same_list (encode c) text) ≡ b → Hears text (cond b (heard c) nothing)
tested c text true r e = let q = and_parts (valid c) (same_list (encode c) text) e in (same_is (encode c) text q.1, q.0)
tested c text false r e = λ a h. let p = text_back a text h.1 h.0 in let same : a ≡ c = cc in
    let t = passes c text (subst (λ c. encode c ≡ text) same h.0) (subst (λ c. valid c ≡ true) same h.1) in cc

-- by what was read
judged : (text : List ℕ) (o : Out Command) → read_command (length text) text ≡ o → Hears text (if_valid text o)
unfolding if_valid
judged text fail r = λ a h. let p = text_back a text h.1 h.0 in cc
judged text (ok c []) r = tested c text (valid c && same_list (encode c) text) r refl
judged text (ok c (x ∷ xs)) r = λ a h. let p = text_back a text h.1 h.0 in cc

pub reads_only : ReadsOnly
unfolding ReadsOnly hear
reads_only text = judged text (read_command (length text) text) refl

-- a text says one thing only
pub hears_one : (text : List ℕ) (g h : Heard) → Hears text g → Hears text h → g ≡ h
unfolding EncodedOnce
hears_one text nothing nothing p q = refl
hears_one text nothing (heard c) p q = let z = p c q in cc
hears_one text (heard c) nothing p q = let z = q c p in cc
hears_one text (heard c) (heard d) p q = let e : encode c ≡ encode d = cc in ap heard (encoded_once c d p.1 q.1 e)

-- whatever a text says is what `hear` gives
pub hear_is : (text : List ℕ) (h : Heard) → Hears text h → hear text ≡ h
unfolding ReadsOnly
hear_is text h p = hears_one text (hear text) h (reads_only text) p

pub reads_back : ReadsBack
unfolding ReadsBack
reads_back c v = hear_is (encode c) (heard c) (refl, v)
