-- What is read where printing has come to is what stood there before. Rests on encoding's Standing.
use Rattle.std.proofs.Common.{◌≡◌, ℕ, ◌+◌, ◌<◌, ◌≤◌, List, length, get_or, sym, ap, ◌∙◌, arith}
use Rattle.program.specs.Basics.{eight}
use Rattle.encoding.specs.Standing.{Stands, word_at}
use Rattle.printer.specs.Printing.{Prints}
use Rattle.printer.specs.declared.write.Printer.{Printer}
use Rattle.encoding.proofs.Lengths.{length_eight}
use Rattle.encoding.proofs.Standing.{stands_inside, eight_stands}

pub eight_inside : (text : List ℕ) (pos n : ℕ) → Stands text pos (eight n) → pos + 8 ≤ length text
eight_inside text pos n h = let l = length_eight n in omega (arith, stands_inside text pos (eight n) (omega arith) h)

-- a byte
pub byte_next : {old new : Printer} {n : ℕ} {words : List ℕ} {at b : ℕ} → Prints n words old new → new.pos ≡ at → b ≡ get_or new.text.now new.pos 0 → b ≡ get_or old.text.now at 0
byte_next {old} {new} {n} {words} {at} {b} step is read = read ∙ ap (λ (t : List ℕ). get_or t new.pos 0) step.text ∙ ap (λ (k : ℕ). get_or old.text.now k 0) is

-- a number in eight bytes
pub word_next : {old new : Printer} {n m : ℕ} {words : List ℕ} {at w : ℕ} → Prints n words old new → Stands old.text.now at (eight m) → m < 18446744073709551616 → new.pos ≡ at →
    (new.pos + 8 ≤ length new.text.now → w ≡ word_at new.text.now new.pos) → w ≡ m
word_next {old} {new} {n} {m} {words} {at} {w} step stands small is read =
    let inside = eight_inside old.text.now at m stands in
    let same : length new.text.now ≡ length old.text.now = ap length step.text in
    read (omega (arith, is)) ∙ ap (λ (t : List ℕ). word_at t new.pos) step.text ∙ ap (λ (k : ℕ). word_at old.text.now k) is ∙ sym (eight_stands old.text.now at m stands small)
