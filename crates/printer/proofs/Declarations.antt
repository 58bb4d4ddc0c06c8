-- One more variable or array is declared as the definitions say. Rests on the definitions alone.
use Rattle.std.proofs.Common.{◌≡◌, ℕ, ◌+◌, List, ◌++◌, get_or, codes, decimal, sym, ap, ◌∙◌, append_assoc, add-one}
use Rattle.printer.specs.Text.{variable_word, array_word, separator, declared_variables, declared_arrays}

pub variable_more : (i : ℕ) (word : List ℕ) → word ≡ separator (codes "names ") i → declared_variables i ++ word ++ variable_word i ≡ declared_variables (i + 1)
unfolding declared_variables
variable_more i word is = ap (λ (w : List ℕ). declared_variables i ++ w ++ variable_word i) is ∙ sym (ap declared_variables (add-one i))

pub array_more : (lengths : List ℕ) (i n : ℕ) (word : List ℕ) → word ≡ separator (codes "rows ") i → n ≡ get_or lengths i 0 →
    declared_arrays lengths i ++ word ++ array_word i ++ (codes "[" ++ decimal n) ++ codes "]" ≡ declared_arrays lengths (i + 1)
unfolding declared_arrays
array_more lengths i n word is found =
    ap (λ (w : List ℕ). w ++ codes "]") (sym (append_assoc (declared_arrays lengths i ++ word ++ array_word i) (codes "[") (decimal n)))
    ∙ ap (λ (w : List ℕ). declared_arrays lengths i ++ w ++ array_word i ++ codes "[" ++ decimal n ++ codes "]") is
    ∙ ap (λ (k : ℕ). declared_arrays lengths i ++ separator (codes "rows ") i ++ array_word i ++ codes "[" ++ decimal k ++ codes "]") found
    ∙ sym (ap (declared_arrays lengths) (add-one i))
