-- What an answer of the writer tells: the paper's number, place and length for each case. Every promise is stated of it. Definitions
-- only. Assumes nothing.
use Rattle.std.specs.Prelude.{ℕ, Result, Ok, Err}
use Rattle.flow.specs.declared.Refusal.{Refusal}
use Rattle.writer.specs.declared.Size.{Size}

-- the refusal number or 0, and its place; the length of the file
pub record WritingTold : Type 0 where
  pub number : ℕ
  pub place : ℕ
  pub length : ℕ

abbrev pub writing_written : ℕ → WritingTold
writing_written length = record { number = 0; place = 0; length = length }

abbrev pub writing_refused : ℕ → ℕ → WritingTold
writing_refused number place = record { number = number; place = place; length = 0 }

unfoldable pub writing_told : Result Size Refusal → WritingTold
writing_told (Ok e) = writing_written e.length
writing_told (Err r) = writing_refused r.number r.place
