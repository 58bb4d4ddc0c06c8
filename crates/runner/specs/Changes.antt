-- Elements of arrays, read and changed one by one, and inputs, read one by one. Assumes nothing: these are definitions.
use Rattle.std.specs.Prelude.{◌≡◌, ℕ, ⊤, Bool, true, false, cond, length, drop, nat_lt, slice_index, slice_set, Ok, Err, Result}
use Rattle.program.specs.declared.fault.Fault.{Fault}
use Rattle.program.specs.declared.fault.Fault.TheVariants.{Index}
use Rattle.program.specs.Semantics.{State, nth_array, first_input, Evaluated, value, failed}

-- the array has such an element
abbrev pub has_element : State → ℕ → ℕ → Bool
has_element s r i = nat_lt i (length (nth_array s.arrays r))

-- an element's value, or that there is no such element
abbrev pub element_in : State → ℕ → ℕ → Evaluated
element_in s r i = cond (has_element s r i) (value (slice_index (nth_array s.arrays r) i)) (failed 3)

-- the state with one element changed
abbrev pub with_element : State → ℕ → ℕ → ℕ → State
with_element s r i n = record { values = s.values; arrays = slice_set s.arrays r (slice_set (nth_array s.arrays r) i n); inputs = s.inputs }

-- the element gets its value if there is one
abbrev pub Stored : State → ℕ → ℕ → ℕ → Result ⊤ Fault → State → Type 0
Stored s r i n (Ok done) s₁ = (has_element s r i ≡ true) × (s₁ ≡ with_element s r i n)
Stored s r i n (Err f) s₁ = (has_element s r i ≡ false) × (f ≡ Index)

-- the state with one input less
abbrev pub without_input : State → State
without_input s = record { values = s.values; arrays = s.arrays; inputs = drop 1 s.inputs }

-- n is the next input, and is read
pub record ReadInput (s : State) (n : ℕ) (s₁ : State) : Type 0 where
  pub next : n ≡ first_input s.inputs
  pub rest : s₁ ≡ without_input s
