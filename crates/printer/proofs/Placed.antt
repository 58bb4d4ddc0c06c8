-- Bytes that stand at a position, of which there are few enough, are placed there. Rests on encoding's Standing.
use Rattle.std.proofs.Common.{◌≡◌, ℕ, ◌≤◌, List, length, sym}
use Rattle.encoding.specs.Standing.{Stands}
use Rattle.encoding.proofs.Standing.{stands_move}
use Rattle.printer.specs.Ready.{Placed}

pub placed : (text : List ℕ) (next pos left : ℕ) (bs : List ℕ) → next ≡ pos → Stands text pos bs → length bs ≤ left → Placed text next left bs
placed text next pos left bs e h l = record { stands = stands_move text pos next bs (sym e) h; enough = l }
