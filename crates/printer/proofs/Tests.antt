-- What is printed of each kind of test is what the definitions say.
use Rattle.std.proofs.Common.{◌≡◌, ℕ, false, List, ◌++◌, codes, sym, ap}
use Rattle.program.specs.Syntax.{Test}
use Rattle.encoding.specs.Parts.{LessAt, EqualAt, NotAt, AndAt, OrAt}
use Rattle.printer.specs.Text.{text_expr, text_test}

pub less_text : (text : List ℕ) (pos : ℕ) (t : Test) (h : LessAt text pos t) → text_expr false h.a ++ codes " < " ++ text_expr false h.b ≡ text_test t
unfolding text_test
less_text text pos t h = sym (ap text_test h.is)

pub equal_text : (text : List ℕ) (pos : ℕ) (t : Test) (h : EqualAt text pos t) → text_expr false h.a ++ codes " = " ++ text_expr false h.b ≡ text_test t
unfolding text_test
equal_text text pos t h = sym (ap text_test h.is)

pub not_text : (text : List ℕ) (pos : ℕ) (t : Test) (h : NotAt text pos t) → codes "not (" ++ text_test h.t ++ codes ")" ≡ text_test t
unfolding text_test
not_text text pos t h = sym (ap text_test h.is)

pub and_text : (text : List ℕ) (pos : ℕ) (t : Test) (h : AndAt text pos t) → codes "(" ++ text_test h.t ++ codes ") and (" ++ text_test h.u ++ codes ")" ≡ text_test t
unfolding text_test
and_text text pos t h = sym (ap text_test h.is)

pub or_text : (text : List ℕ) (pos : ℕ) (t : Test) (h : OrAt text pos t) → codes "(" ++ text_test h.t ++ codes ") or (" ++ text_test h.u ++ codes ")" ≡ text_test t
unfolding text_test
or_text text pos t h = sym (ap text_test h.is)
