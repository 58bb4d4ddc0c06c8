-- What a step that fails gives its caller. Rests on the definitions alone.
use Rattle.std.proofs.Common.{ℕ, List, Ok, Err, IsErrAnd, Result}
use Rattle.source.specs.declared.errors.SourceError.{SourceError}
use Rattle.source.specs.declared.whole.Source.{Source}
use Rattle.source.specs.Reading.{Explains, Reads}

pub reads_err : (r : Result Source SourceError) (P : SourceError → Type 0) (bs : List ℕ) → ((e : SourceError) → P e → Explains bs e) → IsErrAnd r P → Reads bs r
reads_err (Ok s) P bs f p = absurd p
reads_err (Err e) P bs f p = f e p
