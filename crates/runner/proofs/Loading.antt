-- What stands in a text that loads a valid program, and the state that is made of it. Rests on encoding's ProgramParts and Valid.
use Rattle.std.proofs.Common.{◌≡◌, ℕ, ◌+◌, ◌*◌, ◌<◌, ◌≤◌, List, [], ◌∷◌, ◌++◌, length, get_or, take, replicate, Err, sym, refl, ap, ◌∙◌, subst, arith}
use Rattle.std.proofs.ByRecursion.{All-get_or, All-weaker}
use Rattle.std.proofs.lemmas.List.{take_more, take_all}
use Rattle.program.specs.Basics.{map}
use Rattle.program.specs.Syntax.{Program}
use Rattle.program.specs.Semantics.{State, Outcome, run, initial, run_program}
use Rattle.program.specs.Encoding.{encode_stmt}
use Rattle.program.specs.Command.{encode}
use Rattle.encoding.specs.Standing.{word_at}
use Rattle.encoding.specs.ProgramParts.{ProgramAt}
use Rattle.encoding.proofs.Valid.{ArrayLength, program_parts, numbers_bounded}
use Rattle.encoding.proofs.ProgramParts.{program_at, number_stands, load_stands, load_long}
use Rattle.encoding.proofs.ReadBack.{Word}
use Rattle.encoding.proofs.Standing.{stands_move}
use Rattle.runner.specs.Ready.{StmtReady}
use Rattle.runner.specs.Starting.{Loads, LengthsAt, ArraysMade, Starts}
use Rattle.runner.specs.declared.types.RunError.{RunError}
use Rattle.runner.specs.declared.types.RunError.TheVariants.{NoMemory, NoProgram}
use Rattle.runner.proofs.Words.{word_is}

module _ (text : List ℕ) (p : Program) (h : Loads text p) where
  stands : ProgramAt text 1 p
  stands = program_at text 1 p (load_stands text p h.text_is)

  pub first_is : get_or text 0 0 ≡ 1
  unfolding encode
  first_is = ap (λ (ys : List ℕ). get_or ys 0 0) (sym h.text_is)

  pub vars_are : get_or text 1 0 ≡ p.vars
  vars_are = stands.vars_is

  pub few_arrays : length p.arrays ≤ 16
  few_arrays = (program_parts p h.valid).arrays

  pub count_is : (w : ℕ) → (10 ≤ length text → w ≡ word_at text 2) → w ≡ length p.arrays
  count_is w f = word_is text 2 (length p.arrays) stands.count (omega (arith, few_arrays)) 2 w refl f

  pub lengths_stand : LengthsAt text (length p.arrays) p.arrays
  lengths_stand =
      record { count_is = refl; stand = stands.arrays; small = All-weaker ArrayLength (λ n. n ≤ 65536) (λ n l. l.1) p.arrays (program_parts p h.valid).array_lengths }

  pub body_ready : (pos : ℕ) → pos ≡ 10 + 8 * length p.arrays → StmtReady text pos (length text) p.body
  body_ready pos is =
      let v = program_parts p h.valid in
      record {
        variables = p.vars;
        arrays = length p.arrays;
        placed = record { stands = stands_move text (10 + 8 * length p.arrays) pos (encode_stmt p.body) (sym is) stands.body; enough = omega (arith, load_long text p h.text_is, stands.long) };
        valid = v.body;
        numbers = All-weaker (λ k. (1 ≤ k) × (k ≤ 2730)) Word (λ k l. omega arith) _ (numbers_bounded p h.valid);
      }

-- the length of an array, as it is read
pub length_is : (text : List ℕ) (count : ℕ) (ns : List ℕ) → LengthsAt text count ns → (i w : ℕ) → i < count → (10 + 8 * i + 8 ≤ length text → w ≡ word_at text (10 + 8 * i)) → w ≡ get_or ns i 0
length_is text count ns h i w l f =
    let inside : i < length ns = omega (arith, h.count_is) in
    let small : get_or ns i 0 ≤ 65536 = All-get_or (λ n. n ≤ 65536) ns i 0 inside h.small in
    word_is text (10 + 8 * i) (get_or ns i 0) (number_stands text ns 10 i h.stand inside) (omega arith) (10 + 8 * i) w refl f

pub length_small : (text : List ℕ) (count : ℕ) (ns : List ℕ) → LengthsAt text count ns → (i : ℕ) → i < count → get_or ns i 0 ≤ 65536
length_small text count ns h i l = All-get_or (λ n. n ≤ 65536) ns i 0 (omega (arith, h.count_is)) h.small

-- one array more

map_two : {A B : Type 0} (f : A → B) (xs ys : List A) → map f (xs ++ ys) ≡ map f xs ++ map f ys
map_two f [] ys = refl
map_two {B = B} f (x ∷ xs) ys = ap (λ (zs : List B). f x ∷ zs) (map_two f xs ys)

pub arrays_more : {A : Type 0} (f : A → List ℕ) (rows : List A) (ns : List ℕ) (i n : ℕ) (row : A) → i < length ns → n ≡ get_or ns i 0 →
    map f rows ≡ map (λ k. replicate k 0) (take i ns) → f row ≡ replicate n 0 → map f (rows ++ row ∷ []) ≡ map (λ k. replicate k 0) (take (i + 1) ns)
arrays_more f rows ns i n row l e h k =
    let g : ℕ → List ℕ = λ k. replicate k 0 in
    map_two f rows (row ∷ []) ∙ ap (λ (zs : List (List ℕ)). zs ++ f row ∷ []) h ∙ ap (λ (z : List ℕ). map g (take i ns) ++ z ∷ []) (k ∙ ap g e)
    ∙ sym (ap (map g) (take_more ns i 0 l) ∙ map_two g (take i ns) (get_or ns i 0 ∷ []))

pub arrays_all : (ns : List ℕ) (i : ℕ) → length ns ≡ i → map (λ k. replicate {A = ℕ} k 0) (take i ns) ≡ map (λ k. replicate k 0) ns
arrays_all ns i e = ap (λ (ks : List ℕ). map (λ k. replicate {A = ℕ} k 0) ks) (take_all i ns (omega arith))

-- the beginning, and the run from it

-- the lengths stand behind a count that is the arrays'
pub lengths_counted : (text : List ℕ) (p : Program) → Loads text p → (count : ℕ) → count ≡ length p.arrays → LengthsAt text count p.arrays
lengths_counted text p h count e = subst (λ (k : ℕ). LengthsAt text k p.arrays) (sym e) (lengths_stand text p h)

-- where the arrays are not made, nothing begins
pub begins_not : (text : List ℕ) (count : ℕ) (e : RunError) → ((p : Program) → Loads text p → count ≡ length p.arrays) → ArraysMade text count (Err e) → Starts text (Err e)
begins_not text count NoMemory f h = tt
begins_not text count NoProgram f h = λ p l. h p.arrays (lengths_counted text p l count (f p l))

pub begins : (p : Program) (vs : List ℕ) (rows : List (List ℕ)) (ins : List ℕ) (n : ℕ) → vs ≡ replicate n 0 → n ≡ p.vars → rows ≡ map (λ k. replicate k 0) p.arrays →
    record { values = vs; arrays = rows; inputs = ins } ≡ initial p ins
begins p vs rows ins n e is f =
    ap (λ (xs : List ℕ). record { values = xs; arrays = rows; inputs = ins }) (e ∙ ap (λ (k : ℕ). replicate k 0) is)
    ∙ ap (λ (xs : List (List ℕ)). record { values = replicate p.vars 0; arrays = xs; inputs = ins }) f

pub comes_to : (n : ℕ) (p : Program) (ins : List ℕ) (s : State) (o : Outcome) → s ≡ initial p ins → run n p.body s ≡ o → o ≡ run_program n p ins
comes_to n p ins s o e h = sym h ∙ ap (λ (u : State). run n p.body u) e
