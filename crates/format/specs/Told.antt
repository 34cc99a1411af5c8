-- What an item tells in 01's terms, and what a lent table is after it was written. Definitions only. Assumes nothing.
use Rattle.std.specs.Prelude.{ℕ, Result, Ok, Err, List, ◌++◌, length, drop}
use Rattle.flow.specs.declared.Refusal.{Refusal}
use Rattle.format.specs.declared.Got.{Got}

-- a refusal's number and place
abbrev pub refusal_of : ℕ → ℕ → Refusal
refusal_of number place = record { number = number; place = place }

-- what an item tells in 01's terms: the refusal number or 0 and its place; the value and the offset behind it
pub record ItemTold : Type 0 where
  pub number : ℕ
  pub place : ℕ
  pub value : ℕ
  pub next : ℕ

abbrev pub item_found : ℕ → ℕ → ItemTold
item_found value next = record { number = 0; place = 0; value = value; next = next }

abbrev pub item_refused : ℕ → ℕ → ItemTold
item_refused number place = record { number = number; place = place; value = 0; next = 0 }

unfoldable pub item_told : Result Got Refusal → ItemTold
item_told (Ok g) = item_found g.value g.next.at
item_told (Err r) = item_refused r.number r.place

-- "the first numbers of the two tables are the file's and the rest unchanged"
abbrev pub at_front : List ℕ → List ℕ → List ℕ
at_front ns table = ns ++ drop (length ns) table
