-- The letter of a kind of case and the number of a function of a call, and what a byte tells of them. Definitions only. Assumes nothing.
use Rattle.std.specs.Prelude.{ℕ, ◌≡◌, ◌≢◌, Result, MatchResult}
use Rattle.replay.specs.declared.Kind.{Kind}
use Rattle.replay.specs.declared.Kind.TheVariants as kind
use Rattle.replay.specs.declared.Function.{Function}
use Rattle.replay.specs.declared.Function.TheVariants as function
use Rattle.replay.specs.declared.input.Stop.{Stop}
use Rattle.replay.specs.declared.input.Stop.TheVariants.{BadCase}

-- in ASCII
abbrev pub letter_of : Kind → ℕ
letter_of kind.File = 70
letter_of kind.Judge = 74
letter_of kind.Read = 82
letter_of kind.Call = 67

abbrev pub number_of : Function → ℕ
number_of function.Judge = 0
number_of function.Next = 1
number_of function.Write = 3

-- the kind with this letter, or no case if no kind has it
abbrev pub TellsKind : ℕ → Result Kind Stop → Type 0
TellsKind letter r = MatchResult r (λ k. letter_of k ≡ letter) (λ stop. (stop ≡ BadCase) × ((k : Kind) → letter_of k ≢ letter))

-- the function with this number, or no case if none has it
abbrev pub TellsFunction : ℕ → Result Function Stop → Type 0
TellsFunction number r = MatchResult r (λ f. number_of f ≡ number) (λ stop. (stop ≡ BadCase) × ((f : Function) → number_of f ≢ number))
