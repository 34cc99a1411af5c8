-- What is checked and which flow is drawn, of a call that is lent a names section or none: as by the library's function with names, or by
-- the one without; and by these what is answered. Definitions only. Assumes nothing.
use Rattle.std.specs.Prelude.{ℕ, List, length, Option, Some, None, Result, ⊤}
use Rattle.calculus.specs.Records.{State}
use Rattle.flow.specs.declared.Refusal.{Refusal}
use Rattle.flow.specs.Drawn.{flow_of}
use Rattle.judge.specs.declared.Answer.{Answer}
use Rattle.judge.specs.Judged.{judge_check, named_judge_check, named_flow, judged_by, bytes_by, room_wanted, JudgedBy}
use Rattle.ahead.specs.declared.answer.Next.{Next}
use Rattle.ahead.specs.Outcome.{next_check, named_next_check, NextBy}

---- By cases ----

abbrev pub lent_flow : Option (List ℕ) → List ℕ → List ℕ → State
lent_flow None = flow_of
lent_flow (Some s) = named_flow s

abbrev pub lent_judge_check : Option (List ℕ) → List ℕ → List ℕ → List ℕ → ℕ → Result ⊤ Refusal
lent_judge_check None = judge_check
lent_judge_check (Some s) = named_judge_check s

abbrev pub lent_next_check : Option (List ℕ) → List ℕ → List ℕ → List ℕ → ℕ → ℕ → Result ⊤ Refusal
lent_next_check None = next_check
lent_next_check (Some s) = named_next_check s

---- The judge ----

-- `judged` or `judged_named`
abbrev pub lent_judged : Option (List ℕ) → List ℕ → List ℕ → List ℕ → ℕ → ℕ → Answer
lent_judged names sets ns rs room allowance = judged_by (lent_judge_check names sets ns rs room) (lent_flow names sets ns) rs allowance

-- `work_after` or `named_work_after`
abbrev pub lent_work_after : Option (List ℕ) → List ℕ → List ℕ → List ℕ → List ℕ → List ℕ
lent_work_after names sets ns rs work = bytes_by (lent_judge_check names sets ns rs (length work)) (room_wanted ns rs) work

-- `Judged` or `NamedJudged`
abbrev pub LentJudged : Option (List ℕ) → List ℕ → List ℕ → List ℕ → ℕ → List ℕ → Answer → List ℕ → Type 0
LentJudged names sets ns rs allowance work r after =
    JudgedBy (lent_judge_check names sets ns rs (length work)) (lent_flow names sets ns) ns rs allowance work r after

---- `next` ----

-- `NextOf` or `NamedNextOf`
abbrev pub LentNext : Option (List ℕ) → List ℕ → List ℕ → List ℕ → ℕ → List ℕ → List ℕ → Next → List ℕ → List ℕ → Type 0
LentNext names sets ns rs allowance list work r list' after =
    NextBy (lent_next_check names sets ns rs (length list) (length work)) (lent_flow names sets ns) ns rs allowance list work r list' after
