-- A statement's number and its test, scanned one behind the other, as one scan for both. Rests on Forms.
use Rattle.std.proofs.Common.{ℕ, ◌&&◌, eqb, List, ◌++◌, Option}
use Rattle.std.specs.Option.{option_map}
use Rattle.program.specs.Basics.{eight}
use Rattle.program.specs.Encoding.{encode_test}
use Rattle.program.specs.Validity.{valid_condition}
use Rattle.scanner.specs.declared.scan.TestEnd.{TestEnd}
use Rattle.scanner.specs.Form.{followed, Scanned}
use Rattle.scanner.specs.Parts.{label_form}
use Rattle.scanner.specs.Trees.{TestEnds, test_form, head_form}
use Rattle.scanner.proofs.Forms.{answered}

pub head_made : (n r j : ℕ) (text : List ℕ) (pos : ℕ) (o : Option TestEnd) → Scanned (followed (label_form j) (λ p. test_form n r 63)) text pos o → Scanned (head_form n r j) text pos (option_map (λ e. e.end) o)
head_made n r j text pos o h =
    answered (λ p. eqb p.0 j && valid_condition n r p.1) (λ p. eight p.0 ++ encode_test p.1) (λ stop p e. TestEnds 63 stop p.1 e) (head_form n r j).answer (λ e. e.end) text pos o (λ stop v e a. a.stops) h
