-- What a session stands for. Assumes nothing: these are definitions.
use Rattle.std.specs.Prelude.{ℕ, List, vec_items}
use Rattle.program.specs.Syntax.{Program}
use Rattle.model.specs.Session.{StandsFor}
use Rattle.session.specs.declared.held.Session.{Session}

-- the words of its memory
abbrev pub held_words : Session → List ℕ
held_words s = vec_items s.memory

-- its memory stands for this program
abbrev pub Holds : Session → Program → Type 0
Holds s p = StandsFor (held_words s) p
