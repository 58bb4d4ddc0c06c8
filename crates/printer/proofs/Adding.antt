-- What is printed step by step. Rests on the definitions alone.
use Rattle.std.proofs.Common.{◌≡◌, ℕ, ◌+◌, ◌^◌, ◌<◌, List, [], ◌++◌, string_bytes, sym, refl, ap, ◌∙◌, subst, append_assoc, append-nil, arith}
use Rattle.printer.specs.declared.write.Printer.{Printer}
use Rattle.printer.specs.Printing.{Prints, Passes, head_size}

-- no step
pub no_step : (a : Printer) → Prints 0 [] a a
no_step a = record { text = refl; pos = omega arith; out = sym (append-nil (string_bytes a.out)) }

-- one step behind another
pub also : {m n : ℕ} {s t : List ℕ} {a b c : Printer} → Prints m s a b → Prints n t b c → Prints (m + n) (s ++ t) a c
also {m} {n} {s} {t} {a} {b} {c} e f =
    record {
      text = f.text ∙ e.text;
      pos = omega (arith, e.pos, f.pos);
      out = f.out ∙ ap (λ (x : List ℕ). x ++ t) e.out ∙ append_assoc (string_bytes a.out) s t;
    }

-- the same steps
pub same_steps : {m n : ℕ} {s t : List ℕ} {a b : Printer} → Prints m s a b → m ≡ n → s ≡ t → Prints n t a b
same_steps {m} {n} {s} {t} {a} {b} e f g = record { text = e.text; pos = e.pos ∙ ap (λ (k : ℕ). a.pos + k) f; out = e.out ∙ ap (λ (x : List ℕ). string_bytes a.out ++ x) g }

-- a statement's first byte and its number are behind
pub head_passed : {a b : Printer} {k : ℕ} → Passes (head_size k) a b → (kind : ℕ) → k ≡ kind → a.pos + head_size kind < 2 ^ 64 → Prints (head_size kind) [] a b
head_passed {a} {b} {k} e kind is h = subst (λ (j : ℕ). Passes (head_size j) a b) is e h
