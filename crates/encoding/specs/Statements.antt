-- What is proved of the encoding. Each statement is a type; a function of src/ has it as its contract. Assumes nothing: these are definitions.
use Rattle.std.specs.Prelude.{◌≡◌, ℕ, zero, suc, true, List}
use Rattle.program.specs.Command.{Command, encode, valid}
use Rattle.encoding.specs.Reader.{Heard, nothing, heard, hear}

-- no two valid commands are encoded alike
unfoldable pub EncodedOnce : Type 0
EncodedOnce = (a c : Command) → valid a ≡ true → valid c ≡ true → encode a ≡ encode c → a ≡ c

-- a valid command is heard from its encoding
unfoldable pub ReadsBack : Type 0
ReadsBack = (c : Command) → valid c ≡ true → hear (encode c) ≡ heard c

-- what the text says: it is the encoding of this valid command, or of none
abbrev pub Hears : List ℕ → Heard → Type 0
Hears text nothing = (a : Command) → (encode a ≡ text) × (valid a ≡ true) → zero ≡ suc zero
Hears text (heard c) = (encode c ≡ text) × (valid c ≡ true)

-- of any list of numbers, `hear` gives what it says
unfoldable pub ReadsOnly : Type 0
ReadsOnly = (text : List ℕ) → Hears text (hear text)
