-- A text that the reader takes for a command that loads a program is that program's; and a text's parts by the program. Rests on the encoding.
use Rattle.std.proofs.Common.{◌≡◌, ℕ, ◌≤◌, List, length, get_or, drop, Some, sym, refl, ap, ◌∙◌, subst, arith}
use Rattle.program.specs.Syntax.{Program}
use Rattle.program.specs.Encoding.{encode_program}
use Rattle.program.specs.Command.{Command, load, all_alarms, at_end, encode}
use Rattle.encoding.specs.Reader.{heard}
use Rattle.encoding.proofs.Hear.{hear_is, encoded_once}
use Rattle.encoding.specs.Statements.{EncodedOnce}
use Rattle.reader.specs.Request.{EncodingOf, Reads}
use Rattle.reader.specs.declared.load.Header.{Header}
use Rattle.reader.specs.declared.Request.{Request}
use Rattle.reader.specs.declared.Request.TheVariants.{Load, Alarms, AtEnd}
use Rattle.valid.specs.Loaded.{heard_program, program_of}

-- the program that is encoded is the one that is heard
pub program_is : (text : List ℕ) (p : Program) → EncodingOf (load p) text → program_of text ≡ p
program_is text p h = ap heard_program (hear_is text (heard (load p)) h)

pub of_heard : (text : List ℕ) (p : Program) → EncodingOf (load p) text → EncodingOf (load (program_of text)) text
of_heard text p h = subst (λ (q : Program). EncodingOf (load q) text) (sym (program_is text p h)) h

pub no_load : (text : List ℕ) (r : Request) → Reads text (Some r) → ((h : Header) → r ≡ Load h → ⊥) → (p : Program) → EncodingOf (load p) text → ⊥
unfolding EncodedOnce
no_load text (Load h) g n p e = n h refl
no_load text Alarms g n p e = let z : ◌≡◌ {A = Command} (load p) all_alarms = encoded_once (load p) all_alarms e.1 g.1 (e.0 ∙ sym g.0) in absurd (one-other z)
  where
    one-other : load p ≡ all_alarms → ⊥
    one-other z = let w : ◌≡◌ {A = ℕ} 0 1 = cc in omega arith
no_load text (AtEnd x) g n p e = let z : ◌≡◌ {A = Command} (load p) (at_end x) = encoded_once (load p) (at_end x) e.1 g.1 (e.0 ∙ sym g.0) in absurd (one-other z)
  where
    one-other : load p ≡ at_end x → ⊥
    one-other z = let w : ◌≡◌ {A = ℕ} 0 1 = cc in omega arith

-- behind the first byte stands the program, whose first byte is the number of variables
pub program_behind : (text : List ℕ) (p : Program) → encode (load p) ≡ text → drop 1 text ≡ encode_program p
unfolding encode
program_behind text p e = sym (ap (λ (ts : List ℕ). drop 1 ts) e)

pub variables_there : (text : List ℕ) (p : Program) → encode (load p) ≡ text → (d : ℕ) → get_or text 1 d ≡ p.vars
unfolding encode
variables_there text p e d = sym (ap (λ (ts : List ℕ). get_or ts 1 d) e)

pub two_bytes : (text : List ℕ) (p : Program) → encode (load p) ≡ text → 2 ≤ length text
unfolding encode
two_bytes text p e = subst (λ (ts : List ℕ). 2 ≤ length ts) e (omega arith)
