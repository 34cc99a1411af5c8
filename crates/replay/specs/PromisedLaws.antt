-- Clean work bytes are exactly those that are promised, and the judge leaves them so, with names and without: whatever is refused, and
-- whatever the flow. Assumes nothing.
use Rattle.std.specs.Prelude.{ℕ, ◌+◌, ◌-◌, ◌≤◌, Bool, true, ◌↔◌, ◌≡◌, length, take, drop, replicate, Result, Ok, Err, ⊤, refl, Some, None}
use Rattle.std.proofs.Common.{arith, sym, ◌∙◌, subst₂, length-append, take-append-drop, length-take-le, take_at, drop_at}
use mathlib.Core.List.{List, ◌++◌}
use Rattle.std.proofs.Math.Path.{ap, ap₂}
use Rattle.std.proofs.lemmas.List.{length-replicate}
use Rattle.calculus.specs.Records.{State}
use Rattle.calculus.specs.Search.{Verdict, accepted, rejected, undecided}
use Rattle.calculus.specs.Search as search
use Rattle.flow.specs.declared.Refusal.{Refusal}
use Rattle.flow.specs.Records.{records}
use Rattle.flow.specs.Tests.{both_true}
use Rattle.judge.specs.declared.Answer.{Answer}
use Rattle.judge.specs.declared.Answer.TheVariants.{Refused}
use Rattle.judge.specs.Judged.{JudgedBy, judged, judged_named, work_after, named_work_after, judged_by, bytes_by, room_wanted, cleared, answer_of, unless_refused}
use Rattle.line.specs.Line.{Put}
use Rattle.replay.specs.Filler.{filler, all_are, kept}
use Rattle.replay.specs.Lent.{lent_judged, lent_work_after}
use Rattle.replay.specs.Promised.{zeros_after, promised, is_clean, case_line}
use Rattle.replay.specs.FillerLaws.{all_replicate, all_is, kept_exactly, replicate_rest}

---- The promise ----

-- `clean` is printed exactly if the bytes are the promised ones
pub clean_exactly : (zeros : ℕ) (work : List ℕ) → (is_clean zeros work ≡ true) ↔ (work ≡ promised zeros (length work))
unfolding is_clean
clean_exactly zeros work = (λ e. to e, λ e. from e)
  where
    to : is_clean zeros work ≡ true → work ≡ promised zeros (length work)
    to e =
        let h = both_true (kept filler zeros work) (all_are 0 (take zeros work)) e in
        let k = (kept_exactly filler zeros work).0 h.0 in
        sym (take-append-drop zeros work)
        ∙ ap₂ ◌++◌ (all_is 0 (take zeros work) h.1 ∙ ap (λ (n : ℕ). replicate n 0) (length-take-le zeros work k.there)) k.unchanged

    from : work ≡ promised zeros (length work) → is_clean zeros work ≡ true
    from e =
        let n : ℕ = length work - zeros in
        let nought : ℕ = 0 in
        let a : List ℕ = replicate zeros nought in
        let b : List ℕ = replicate n filler in
        let la : length a ≡ zeros = length-replicate zeros nought in
        let fits : zeros ≤ length work = omega (arith, ap length e, length-append a b) in
        let front : take zeros work ≡ a = ap (take zeros) e ∙ take_at a b zeros la in
        let back : drop zeros work ≡ b = ap (drop zeros) e ∙ drop_at a b zeros la in
        rw ((kept_exactly filler zeros work).1 (record { there = fits; unchanged = back }), front, all_replicate nought zeros)

---- The judge leaves them clean ----

-- all filler but for the first, which are zero
pub cleared_clean : (n zeros : ℕ) → is_clean zeros (cleared zeros (replicate n filler)) ≡ true
unfolding cleared
cleared_clean n zeros =
    let nought : ℕ = 0 in
    let front : List ℕ = replicate zeros nought in
    let rest : List ℕ = drop zeros (replicate n filler) in
    let l : length (front ++ rest) ≡ zeros + (n - zeros) =
    length-append front rest ∙ (λ i. length-replicate zeros nought i + length (replicate_rest filler n zeros i)) ∙ ap (λ (k : ℕ). zeros + k) (length-replicate (n - zeros) filler) in
    let m : n - zeros ≡ length (front ++ rest) - zeros = omega arith in
    (clean_exactly zeros (front ++ rest)).1 (ap (λ (x : List ℕ). front ++ x) (replicate_rest filler n zeros ∙ ap (λ (k : ℕ). replicate k filler) m))

module _ (flow : State) (ns rs : List ℕ) (allowance n : ℕ) where
  by_check : (c : Result ⊤ Refusal) (v : Verdict)
      → is_clean (zeros_after (unless_refused c Refused (answer_of v)) (length ns) (length rs)) (bytes_by c (room_wanted ns rs) (replicate n filler)) ≡ true
  unfolding bytes_by unless_refused answer_of zeros_after cleared
  by_check (Ok tt) (accepted place count) = cleared_clean n (room_wanted ns rs)
  by_check (Ok tt) (rejected place count) = cleared_clean n (room_wanted ns rs)
  by_check (Ok tt) (undecided place count) = cleared_clean n (room_wanted ns rs)
  by_check (Err r) v = cleared_clean n 0

  -- `dirty` is never printed
  pub always_clean : {c : Result ⊤ Refusal} {work after : List ℕ} {r : Answer} → work ≡ replicate n filler → JudgedBy c flow ns rs allowance work r after
      → is_clean (zeros_after r (length ns) (length rs)) after ≡ true
  unfolding judged_by
  always_clean {c} e h =
      ap₂ (λ (a : Answer) (x : List ℕ). is_clean (zeros_after a (length ns) (length rs)) x) h.answers (h.leaves ∙ ap (bytes_by c (room_wanted ns rs)) e)
      ∙ by_check c (search.judge flow (records rs) allowance)

---- The line ----

-- so the line of a case ends in `clean`, whatever is judged; what is refused may depend on how many work bytes are lent
pub case_clean : (c : ℕ → Result ⊤ Refusal) (n : ℕ) {flow : State} {ns rs given after out out' : List ℕ} {allowance r : ℕ} {a : Answer}
    → given ≡ replicate n filler → JudgedBy (c (length given)) flow ns rs allowance given a after
    → Put (case_line a (is_clean (zeros_after a (length ns) (length rs)) after)) out 0 out' r → Put (case_line (judged_by (c n) flow rs allowance) true) out 0 out' r
case_clean c n {flow} {ns} {rs} {out = out} {out' = out'} {allowance = allowance} {r = r} f j w =
    subst₂ (λ (x : Answer) (y : Bool). Put (case_line x y) out 0 out' r)
    (j.answers ∙ ap (λ (k : ℕ). judged_by (c k) flow rs allowance) (ap length f ∙ length-replicate n filler))
    (always_clean flow ns rs allowance n f j) w

-- what is judged is what the judge answers without names, or with the names that are lent
module _ (sets ns rs : List ℕ) (room allowance : ℕ) where
  pub lent_none : lent_judged None sets ns rs room allowance ≡ judged sets ns rs room allowance
  lent_none = refl

  pub lent_some : (s : List ℕ) → lent_judged (Some s) sets ns rs room allowance ≡ judged_named s sets ns rs room allowance
  lent_some s = refl

-- and so are the work bytes after it
module _ (sets ns rs work : List ℕ) where
  pub lent_work_none : lent_work_after None sets ns rs work ≡ work_after sets ns rs work
  lent_work_none = refl

  pub lent_work_some : (s : List ℕ) → lent_work_after (Some s) sets ns rs work ≡ named_work_after s sets ns rs work
  lent_work_some s = refl
