-- What is missing at a place, in words. Assumes nothing: these are definitions.
use Rattle.std.specs.Prelude.{ℕ, List, codes}
use Rattle.grammar.specs.declared.types.Expected.{Expected}
use Rattle.grammar.specs.declared.types.Expected.TheVariants.{Statement, Term, Test, Word, Number, Is, IsOrTakes, To, Then, Do, End, OpenIndex, CloseIndex, Close, EndOfText}

-- what should stand at a place
abbrev pub expected_words : Expected → List ℕ
expected_words Statement = codes "a statement"
expected_words Term = codes "a term"
expected_words Test = codes "a test"
expected_words Word = codes "a word"
expected_words Number = codes "a number"
expected_words Is = codes "\"is\""
expected_words IsOrTakes = codes "\"is\" or \"takes\""
expected_words To = codes "\"to\""
expected_words Then = codes "\"then\""
expected_words Do = codes "\"do\""
expected_words End = codes "\"end\""
expected_words OpenIndex = codes "\"[\""
expected_words CloseIndex = codes "\"]\""
expected_words Close = codes "\")\""
expected_words EndOfText = codes "\";\" or the end of the text"
