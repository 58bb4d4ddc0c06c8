-- What may stand in a text, and what a scan for it answers. Assumes nothing: these are definitions.
use Rattle.std.specs.Prelude.{◌≡◌, ℕ, ◌+◌, Bool, true, ◌&&◌, List, ◌++◌, length, Some, None, Option}
use Rattle.encoding.specs.Standing.{Stands}

-- values: which of them pass, their bytes, and what a scan answers of one whose bytes end at a position
pub record Form (V R : Type 0) : Type 1 where
  pub passes : V → Bool
  pub bytes : V → List ℕ
  pub answer : ℕ → V → R → Type 0

-- a scan that answers where the bytes end
abbrev pub plain : {V : Type 0} → (V → Bool) → (V → List ℕ) → Form V ℕ
plain p b = record { passes = p; bytes = b; answer = λ stop v r. r ≡ stop }

-- one value behind another
abbrev pub followed : {V W R S : Type 0} → Form V R → (V → Form W S) → Form (V × W) S
followed F G = record {
  passes = λ p. F.passes p.0 && (G p.0).passes p.1;
  bytes = λ p. F.bytes p.0 ++ (G p.0).bytes p.1;
  answer = λ stop p s. (G p.0).answer stop p.1 s;
}

-- a value that passes stands at the position
pub record Here {V R : Type 0} (F : Form V R) (text : List ℕ) (pos : ℕ) (v : V) : Type 0 where
  pub passes : F.passes v ≡ true
  pub stands : Stands text pos (F.bytes v)

-- the answer is that of a value
abbrev pub Answered : {V R : Type 0} → Form V R → ℕ → V → R → Type 0
Answered F pos v r = F.answer (pos + length (F.bytes v)) v r

-- nothing that passes stands at the position, or something does and the answer is that of whatever does
abbrev pub Scanned : {V R : Type 0} → Form V R → List ℕ → ℕ → Option R → Type 0
Scanned {V = V} F text pos None = (v : V) → Here F text pos v → ⊥
Scanned {V = V} F text pos (Some r) = ((v : V) × (Here F text pos v × Answered F pos v r)) × ((v : V) → Here F text pos v → Answered F pos v r)
