-- Random numbers, from a counter of 64 bits. Assumes nothing: these are definitions.
use Rattle.std.specs.Prelude.{ℕ, ◌+◌, ◌*◌, ◌/◌, ◌%◌, ◌^◌, bit_xor}

-- the counter goes on by an odd step
abbrev pub advanced : ℕ → ℕ
advanced s = (s + 0x9e3779b97f4a7c15) % 2 ^ 64

-- the bits mixed with those k places higher, times a factor
unfoldable pub scrambled : ℕ → ℕ → ℕ → ℕ
scrambled k factor z = (bit_xor z (z / 2 ^ k) * factor) % 2 ^ 64

-- the random number of a counter: its bits, mixed twice
abbrev pub twice : ℕ → ℕ
twice s = scrambled 27 0x94d049bb133111eb (scrambled 30 0xbf58476d1ce4e5b9 s)

abbrev pub drawn : ℕ → ℕ
drawn s = bit_xor (twice s) (twice s / 2 ^ 31)
