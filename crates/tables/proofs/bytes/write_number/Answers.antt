use Rattle.std.proofs.Common.{◌∙◌}
use Rattle.tables.proofs.Digits.{number_put}
use Rattle.tables.proofs.bytes.write_number.Goals as goal

pub returns : goal.returns
returns c = number_put c.args.out.now c.copy_from_slice.new.self c.args.at c.args.n (c.copy_from_slice.ensures.after ∙ c.to_be_bytes.ensures)
