-- What the reader answers is what the text says. Rests on what is proved of hearing.
use Rattle.std.proofs.Common.{◌≡◌, ℕ, List, Some, None, subst}
use Rattle.std.specs.Prelude.{Option}
use Rattle.program.specs.Command.{load, all_alarms, at_end}
use Rattle.encoding.specs.Reader.{Heard, nothing, heard, hear}
use Rattle.encoding.specs.Statements.{Hears}
use Rattle.encoding.proofs.Hear.{hear_is}
use Rattle.reader.specs.declared.Request.{Request}
use Rattle.reader.specs.declared.Request.TheVariants.{Load, Alarms, AtEnd}
use Rattle.reader.specs.declared.load.Header.{Header}
use Rattle.reader.specs.Request.{EncodingOf, Loads, Reads}

-- the command of an answer
abbrev pub heard_by : (text : List ℕ) (r : Option Request) → Reads text r → Heard
heard_by text (Some (Load h)) a = heard (load a.program)
heard_by text (Some Alarms) a = heard all_alarms
heard_by text (Some (AtEnd x)) a = heard (at_end x)
heard_by text None a = nothing

hears : (text : List ℕ) (r : Option Request) (a : Reads text r) → Hears text (heard_by text r a)
hears text (Some (Load h)) a = a.encoded
hears text (Some Alarms) a = a
hears text (Some (AtEnd x)) a = a
hears text None a = λ c e. absurd (a c e)

pub hear_read : (text : List ℕ) (r : Option Request) (a : Reads text r) → hear text ≡ heard_by text r a
hear_read text r a = hear_is text (heard_by text r a) (hears text r a)

-- by the kind of what is asked for
pub loads_read : (text : List ℕ) (r : Request) (h : Header) → r ≡ Load h → Reads text (Some r) → Loads text h
loads_read text r h e a = subst (λ (q : Request). Reads text (Some q)) e a

pub alarms_asked : (text : List ℕ) (r : Request) → r ≡ Alarms → Reads text (Some r) → EncodingOf all_alarms text
alarms_asked text r e a = subst (λ (q : Request). Reads text (Some q)) e a

pub end_asked : (text : List ℕ) (r : Request) (x : ℕ) → r ≡ AtEnd x → Reads text (Some r) → EncodingOf (at_end x) text
end_asked text r x e a = subst (λ (q : Request). Reads text (Some q)) e a
