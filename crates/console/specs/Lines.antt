-- What a line asks, by its bytes, and the words of the answers. Assumes nothing: these are definitions.
use Rattle.std.specs.Prelude.{◌≡◌, ℕ, cond, List, [], ◌++◌, codes, decimal, ◌==◌, ◌≢◌}
use Rattle.console.specs.declared.Line.{Line}
use Rattle.console.specs.declared.Line.TheVariants.{Blank, Help, Alarms, AtEnd, Load, Unknown}

-- the line is no other command
pub record Other (t : List ℕ) : Type 0 where
  pub not_blank : t ≡ [] → ⊥
  pub not_help : t ≡ codes "help" → ⊥
  pub not_alarms : t ≡ codes "alarms" → ⊥
  pub not_load : (rest : List ℕ) → t ≢ codes "load " ++ rest
  pub not_at_end : (rest : List ℕ) → t ≢ codes "at the end " ++ rest

-- a line and what it is taken for
abbrev pub Asks : List ℕ → Line → Type 0
Asks t Blank = t ≡ []
Asks t Help = t ≡ codes "help"
Asks t Alarms = t ≡ codes "alarms"
Asks t (AtEnd name) = t ≡ codes "at the end " ++ name.now
Asks t (Load path) = t ≡ codes "load " ++ path.now
Asks t Unknown = Other t

-- a kind of fault in words
abbrev pub fault_words : ℕ → List ℕ
fault_words k =
    cond (k == 1) (codes "a number that's none") (cond (k == 2) (codes "a quotient by 0")
    (cond (k == 3) (codes "no such entry") (cond (k == 4) (codes "a check that fails") (codes "an unknown fault"))))

-- a refusal in words
abbrev pub refusal_words : ℕ → List ℕ
refusal_words k =
    cond (k == 1) (codes "that is no command, or a program that isn't allowed") (cond (k == 2) (codes "that isn't known yet")
    (cond (k == 3) (codes "there's no such name") (codes "refused")))

-- an alarm's line
abbrev pub alarm_words : (stmt kind : ℕ) → List ℕ
alarm_words stmt kind = codes "deed " ++ (decimal stmt ++ (codes ": " ++ fault_words kind))

-- the line of a variable's interval at the end
abbrev pub bounds_words : (name lo hi : ℕ) → List ℕ
bounds_words name lo hi = decimal name ++ (codes ": " ++ (decimal lo ++ (codes " to " ++ decimal hi)))

-- a refusal's line
abbrev pub refused_words : ℕ → List ℕ
refused_words number = codes "refused: " ++ (refusal_words number ++ (codes " (" ++ (decimal number ++ codes ")")))
