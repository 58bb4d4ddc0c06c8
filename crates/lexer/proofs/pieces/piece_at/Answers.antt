use Rattle.std.proofs.Common.{◌≡◌, ℕ, ◌+◌, ◌-◌, List, get_or, sym, ap, ◌∙◌, arith}
use Rattle.lexer.specs.declared.types.Key.{Key}
use Rattle.lexer.specs.Keys.{symbol}
use Rattle.lexer.specs.Lexing.{First, letter, digit, key, token, symbol_or_strange}
use Rattle.lexer.proofs.Runs.{first_letter, first_digit, first_other}
use Rattle.lexer.proofs.pieces.piece_at.Goals as goal

-- what is known of a byte, in the text
in_text : {A : Type 0} (f : ℕ → A) (bs text : List ℕ) (i : ℕ) (a : A) → bs ≡ text → a ≡ f (get_or bs i 0) → f (get_or text i 0) ≡ a
in_text f bs text i a e h = sym (h ∙ ap (λ (xs : List ℕ). f (get_or xs i 0)) e)

one_byte : (i : ℕ) (k : Key) (f : First) → f ≡ token (key k) 1 → token (key k) (i + 1 - i) ≡ f
one_byte i k f e = let h : i + 1 - i ≡ 1 = omega arith in rw h (sym e)

pub returns-then-is_letter-clause-is : goal.returns-then-is_letter-clause-is
returns-then-is_letter-clause-is c =
    c.word_at.ensures.is ∙ sym (first_letter c.args.text.now c.args.at c.requires (in_text letter _ _ _ _ c.as_bytes.ensures.value c.if-is_letter.ensures))

pub returns-then-is_digit-clause-is : goal.returns-then-is_digit-clause-is
returns-then-is_digit-clause-is c =
    c.number_at.ensures.is
    ∙ sym (first_digit c.args.text.now c.args.at c.requires (in_text letter _ _ _ _ c.as_bytes.ensures.value c.if-is_letter.ensures) (in_text digit _ _ _ _ c.as_bytes.ensures.value c.if-is_digit.ensures))

pub returns-in-Some-clause-is : goal.returns-in-Some-clause-is
returns-in-Some-clause-is c =
    one_byte c.args.at c.in-Some.key _
    (first_other c.args.text.now c.args.at c.requires (in_text letter _ _ _ _ c.as_bytes.ensures.value c.if-is_letter.ensures) (in_text digit _ _ _ _ c.as_bytes.ensures.value c.if-is_digit.ensures)
    ∙ ap symbol_or_strange (in_text symbol _ _ _ _ c.as_bytes.ensures.value c.in-Some.ensures))

pub returns-in-None-clause-is : goal.returns-in-None-clause-is
returns-in-None-clause-is c =
    sym (first_other c.args.text.now c.args.at c.requires (in_text letter _ _ _ _ c.as_bytes.ensures.value c.if-is_letter.ensures) (in_text digit _ _ _ _ c.as_bytes.ensures.value c.if-is_digit.ensures)
    ∙ ap symbol_or_strange (in_text symbol _ _ _ _ c.as_bytes.ensures.value c.in-None.ensures))
