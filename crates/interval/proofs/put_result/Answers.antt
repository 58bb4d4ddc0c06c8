-- The interval is put into the slice, or there is none.
use Rattle.interval.proofs.Reckoning.{replies_value, replies_never}
use Rattle.interval.proofs.put_result.Goals as goal

pub returns-in_default : goal.returns-in_default
returns-in_default c w h = replies_never c.args.res w c.args.out.now c.fault_bits-bits.result c.in_default.is h c.fault_bits-bits.ensures

pub returns : goal.returns
returns c w h =
    replies_value c.in-Some.s c.args.res w c.args.out.now c.fault_bits-bits.result c.in-Some.is h c.requires c.fault_bits-bits.ensures
