-- How a file is gone through: a plan takes one item after the other, and may refuse on what it read. `run` follows a plan through
-- a file from an offset; an item that is not wholly there is refused with 15 at its own offset, whatever the plan.
-- Not here: the plan of the flow file (Sections), what holds of every plan (Plans). Definitions only. Assumes nothing.
use Rattle.std.specs.Prelude.{ℕ, ◌+◌, cond, List, leb, ltb, length, take, drop}

-- 01: "A count, length byte, name's bytes and number are items"; of 02, Four, a set's bytes are one more
pub data Plan (A : Type 0) : Type 0 where
  -- the value is found
  done : A → Plan A
  -- a refusal: its number and place
  refuse : ℕ → ℕ → Plan A
  -- go on, knowing the offset
  place : (ℕ → Plan A) → Plan A
  -- an item of so many bytes, and what to do with them
  item : ℕ → (List ℕ → Plan A) → Plan A
  -- the first plan where the file ends here, the second where it goes on
  ends : Plan A → Plan A → Plan A

infixl 20 ◌>>=◌
-- one plan, then another by what the first found
unfoldable pub ◌>>=◌ : {A B : Type 0} → Plan A → (A → Plan B) → Plan B
◌>>=◌ (done a) f = f a
◌>>=◌ (refuse n p) f = refuse n p
◌>>=◌ (place k) f = place (λ at. k at >>= f)
◌>>=◌ (item n k) f = item n (λ b. k b >>= f)
◌>>=◌ (ends p q) f = ends (p >>= f) (q >>= f)

-- what comes of it: a value and the offset behind it, or a refusal's number and place
pub data Ran (A : Type 0) : Type 0 where
  got : A → ℕ → Ran A
  bad : ℕ → ℕ → Ran A

-- 01: "A cut file is refused at the item that could not be read (15)."
unfoldable pub run : {A : Type 0} → List ℕ → ℕ → Plan A → Ran A
run s at (done a) = got a at
run s at (refuse n p) = bad n p
run s at (place k) = run s at (k at)
run s at (item n k) = cond (leb (at + n) (length s)) (run s (at + n) (k (take n (drop at s)))) (bad 15 at)
run s at (ends p q) = cond (ltb at (length s)) (run s at q) (run s at p)
