-- Numbers that stop at the greatest 32-bit number. Definitions only; their laws are in CappedLaws. Assumes nothing.
use Rattle.std.specs.Prelude.{ℕ, min}

abbrev pub most : ℕ
most = 4294967295

abbrev pub cap : ℕ → ℕ
cap x = min x most
