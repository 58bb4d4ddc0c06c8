-- A number's bytes put into a row stand there as its eight bytes. Rests on the encoding's eight bytes.
use Rattle.std.proofs.Common.{◌≡◌, ℕ, ◌+◌, ◌-◌, List, ◌++◌, take, drop, sym, refl, ◌∙◌, arith, w64, drop-drop}
use borrow.Rule.Slice.PartMut.{put_mid}
use Rattle.std.specs.Int.{to_be_bytes}
use Rattle.program.specs.Basics.{eight}
use Rattle.encoding.proofs.Words.{eight_is}

pub number_put : (out bs : List ℕ) (at n : ℕ) → bs ≡ to_be_bytes w64 n → put_mid at (at + 8 - at) out bs ≡ take at out ++ (eight n ++ drop (at + 8) out)
number_put out bs at n e =
    let k : at + 8 - at ≡ 8 = omega arith in
    let f : bs ≡ eight n = e ∙ sym (eight_is n) in
    rw (k, f, drop-drop 8 at out) refl
