use Rattle.std.proofs.Common.{ℕ, ◌+◌, ◌*◌, get_or, refl, ap, arith}
use Rattle.tables.proofs.Showing.{end_refused, end_unreached, end_shown}
use Rattle.tables.proofs.show.show_end.Goals as goal

pub returns-then-x-memory : goal.returns-then-x-memory
returns-then-x-memory c = end_refused c.args.memory.now c.args.out.now c.args.x c.if-x-memory.true

pub returns-then-memory-ne0 : goal.returns-then-memory-ne0
returns-then-memory-ne0 c = end_unreached c.args.memory.now c.args.out.now c.args.x c.if-x-memory.false c.if-memory-ne0.true

pub returns : goal.returns
returns c =
    let m = c.args.memory.now in
    end_shown m _ c.args.out.now c.write_number.new.out c.write_number-2.new.out c.args.x
    (get_or m (3 + 2 * c.args.x) 0) (get_or m (3 + 2 * c.args.x + 1) 0) c.if-x-memory.false c.if-memory-ne0.false refl (ap (λ (k : ℕ). get_or m k 0) (omega arith))
    refl c.write_number.ensures c.write_number-2.ensures
