use Rattle.std.proofs.Common.{refl}
use Rattle.source.proofs.sizes.sizes_of.Goals as goal

pub returns : goal.returns
returns c =
    record {
      header = c.in_ok-header.header;
      loads = c.in_ok-header.ensures;
      statements_are = c.in_ok-statements.ensures c.in_ok-header.ensures;
      variables_are = refl;
      arrays_are = refl;
    }
