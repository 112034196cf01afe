-- The exit of a step that may fail. Assumes nothing.
use Rattle.std.proofs.Common.{◌≡◌, Some, None, Err, Option}
use Rattle.std.specs.Option.{ok_or}

-- the error that comes out is the one that was handed in
pub failed : {T E : Type 0} (o : Option T) (f g : E) → Err g ≡ ok_or o f → g ≡ f
failed None f g e = cc
failed (Some x) f g e = cc
