-- A number that stands there is the one of the eight bytes.
use Rattle.std.proofs.Common.{◌≡◌, ℕ, ◌+◌, ◌≤◌, List, length, Some, None, Option, ◌∙◌, arith}
use Rattle.std.specs.Option.{unwrap_or}
use Rattle.encoding.specs.Standing.{word_at}
use Rattle.encoding.proofs.Standing.{eight_stands}
use Rattle.scanner.specs.Bytes.{NumberRead}
use Rattle.bytes_at.proofs.word_at.Goals as goal

word_read : (text : List ℕ) (pos : ℕ) (o : Option ℕ) → NumberRead text pos o → pos + 8 ≤ length text → unwrap_or o 0 ≡ word_at text pos
word_read text pos None h l = absurd (omega arith)
word_read text pos (Some n) h l = eight_stands text pos n h.stands h.small

pub returns : goal.returns
returns c l = c.unwrap_or.ensures ∙ word_read c.args.text.now c.args.pos c.read_number.result c.read_number.ensures l
