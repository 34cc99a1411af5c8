-- What the program ends with after a case that it does not go on from: nothing is known of the write that says so, and a read or a write
-- that failed is not lost. Assumes nothing.
use Rattle.std.specs.Prelude.{◌≡◌, Result, Err}
use Rattle.std.specs.declared.io.Error.{Error}
use Rattle.replay.specs.declared.input.Stop.{Stop}
use Rattle.replay.specs.declared.input.Stop.TheVariants.{BadCase, Failed}

abbrev pub Ends : Stop → Result (Unit {0}) Error → Type 0
Ends BadCase r = Unit {0}
Ends (Failed e) r = r ≡ Err e
