-- Complete runs over record lists: they are the traces (`complete_traces`), and parts of the same traces have the same ones over record
-- lists (`std_traces`, `cmp_traces`). A flow free of joint events has a complete run that closes done or failed (`has_firm_run`,
-- `has_firm_crun`), so that no state free of them is stuck (`closes_somehow`). Assumes nothing.
use Rattle.std.specs.Prelude.{ℕ, refl, ◌≢◌, ◌↔◌, List, [], ◌∷◌}
use Rattle.calculus.specs.Term.{Closing, done, withdrawn, failed, Std, Cmp}
use Rattle.calculus.specs.Traces.{Trace, tr, Tr, CTr, Within, SamePairs}
use Rattle.calculus.specs.Records.{Record, State, over, std, cmp, standard, compensable, Complete, InTraces, ClosesFirm, by_done, by_failed, later}
use Rattle.calculus.specs.Leaves.{Free, CFree, FreeState}
use Rattle.calculus.proofs.RunsAreTraces.{runs_are_traces, cruns_are_traces}
use Rattle.calculus.proofs.PrintedTraces.{Firm, some, csome}

-- Complete runs are traces -----------------------------------------------------------------------------------------------------

pub complete_traces : (s : State) (rs : List Record) → Complete s rs ↔ InTraces s rs
complete_traces over rs = (λ e. e, λ e. e)
complete_traces (std p) rs = (
  λ c. (c.0, c.1, c.2, (runs_are_traces p c.0 c.1).0 c.3),
  λ c. (c.0, c.1, c.2, (runs_are_traces p c.0 c.1).1 c.3),
)
complete_traces (cmp pp) rs = (
  λ c. let h = (cruns_are_traces pp c.0 c.1 c.2 c.3).0 c.5 in (c.0, c.1, c.2, c.3, c.4, h.0, h.1),
  λ c. (c.0, c.1, c.2, c.3, c.4, (cruns_are_traces pp c.0 c.1 c.2 c.3).1 (c.5, c.6)),
)

-- Parts of the same traces -----------------------------------------------------------------------------------------------------

pub std_traces : (p q : Std) → ((z : Trace) → Tr p z ↔ Tr q z) → (rs : List Record) → InTraces (std p) rs ↔ InTraces (std q) rs
std_traces p q h rs = (
  λ c. (c.0, c.1, c.2, (h (tr c.0 c.1)).0 c.3),
  λ c. (c.0, c.1, c.2, (h (tr c.0 c.1)).1 c.3),
)

pub cmp_traces : (pp qq : Cmp) → SamePairs (CTr pp) (CTr qq) → (rs : List Record) → InTraces (cmp pp) rs ↔ InTraces (cmp qq) rs
cmp_traces pp qq h rs = (one pp qq h.0, one qq pp h.1)
  where
    one : (pp qq : Cmp) → Within (CTr pp) (CTr qq) → InTraces (cmp pp) rs → InTraces (cmp qq) rs
    one pp qq f c = let k = f (tr c.0 c.1) c.5 in (c.0, c.1, c.2, c.3, c.4, k.0, (k.1 (tr c.2 c.3)).0 c.6)

-- A flow free of joint events has one that closes done or failed -----------------------------------------------------------------

firm_standard : (s : List ℕ) (w : Closing) → w ≢ withdrawn → ClosesFirm (standard s w)
firm_standard [] done f = by_done
firm_standard [] withdrawn f = absurd (f refl)
firm_standard [] failed f = by_failed
firm_standard (a ∷ s) w f = later (firm_standard s w f)

firm_compensable : (s : List ℕ) (w : Closing) (t : List ℕ) (v : Closing) → v ≢ withdrawn → ClosesFirm (compensable s w t v)
firm_compensable [] w t v f = later (firm_standard t v f)
firm_compensable (a ∷ s) w t v f = later (firm_compensable s w t v f)

pub has_firm_run : (p : Std) → Free p → (rs : List Record) × Complete (std p) rs × ClosesFirm rs
has_firm_run p o = let z = some p o in at z.0 z.1 z.2
  where
    at : (z : Trace) → Tr p z → Firm z → (rs : List Record) × Complete (std p) rs × ClosesFirm rs
    at (tr s w) h f = (standard s w, (s, w, refl, (runs_are_traces p s w).1 h), firm_standard s w f)

pub has_firm_crun : (pp : Cmp) → CFree pp → (rs : List Record) × Complete (cmp pp) rs × ClosesFirm rs
has_firm_crun pp o = let z = csome pp o in let k = z.3 in at z.0 z.1 k.0 k.1 k.2
  where
    at : (x : Trace) (h : (CTr pp).way x) (y : Trace) → (CTr pp).undo x h y → Firm y → (rs : List Record) × Complete (cmp pp) rs × ClosesFirm rs
    at (tr s w) h (tr t v) k f = (compensable s w t v, (s, w, t, v, refl, (cruns_are_traces pp s w t v).1 (h, k)), firm_compensable s w t v f)

-- a state free of joint events is not stuck: some records complete it
pub closes_somehow : (s : State) → FreeState s → (rest : List Record) × Complete s rest
closes_somehow over o = ([], refl)
closes_somehow (std p) o = let c = has_firm_run p o in (c.0, c.1)
closes_somehow (cmp pp) o = let c = has_firm_crun pp o in (c.0, c.1)
