-- What is known of records that are not refused: how many they are and that each is an event or a closing (`fine_records`); and that they
-- have the closings that the table's flow takes (`records_fit`), or as a beginning no closing too many (`records_begin`). So a search can go
-- through them, whatever their extent (`records_within`). Assumes nothing.
use Rattle.std.specs.Prelude.{ℕ, suc, ◌<◌, ◌-◌, ◌≡◌, Bool, not, ◌||◌, cond, eqb, length, get_or, Ok}
use Rattle.std.proofs.Math.Path.{refl}
use Rattle.std.proofs.Common.{sym, ap, ◌∙◌, subst, arith}
use Rattle.std.proofs.Math.Bool.{true, false}
use mathlib.Core.List.{List, [], ◌∷◌}
use Rattle.std.proofs.Math.Dec.{T}
use borrow.Author.Tests.{not-false}
use Rattle.calculus.specs.Term.{Closing, done, withdrawn, failed, Std, Cmp}
use Rattle.calculus.specs.Records.{Record, event, close, State, std, cmp, Closed, last, ClosedTwice, Fits}
use Rattle.calculus.specs.Ahead.{Open, OpenTwice, Begins}
use Rattle.calculus.specs.Within.{Within}
use Rattle.calculus.proofs.WithinLaws.{fits_within, begins_within}
use Rattle.flow.specs.declared.Extent.{Extent}
use Rattle.flow.specs.declared.Extent.TheVariants.{Whole, Beginning}
use Rattle.flow.specs.Kinds.{node, is_standard}
use Rattle.flow.specs.Records.{done_number, withdrawn_number, failed_number, is_closing_number, record_of, records}
use Rattle.flow.specs.Refusals.{root, no_record, closed, closings_wanted, too_many_closings, closings_allowed, wrong_closings, value_grounds, values_order, closing_order}
use Rattle.flow.specs.Checks.{or_else_check, records_length_check, values_check, closings_check, records_check}
use Rattle.flow.specs.Earliest.{None, Nowhere, end, not_lone, not_sweep}
use Rattle.flow.specs.Tests.{is_false}
use Rattle.flow.specs.Closings.{event_many, closing_many, closing_over}
use Rattle.flow.specs.FirstRefusal.{fine_nowhere, both_fine, records_parts, few_records}
use Rattle.flow.specs.Drawn.{flow_by}
use Rattle.flow.specs.FineTable.{FineTable}
use Rattle.flow.specs.Legends.{Legend}
use Rattle.flow.specs.OneFlow.{flow_standard, flow_compensable}
pub use Rattle.flow.specs.Fine.{FineRecords}

-- a closing's number is a closing, any other an event
closing_record : (r : ℕ) → is_closing_number r ≡ true → (w : Closing) × (record_of r ≡ close w)
unfolding record_of is_closing_number
closing_record r e = by (eqb r done_number) (eqb r withdrawn_number) (eqb r failed_number) e
  where
    by : (a b c : Bool) → (a || (b || c)) ≡ true
        → (w : Closing) × (cond a (close done) (cond b (close withdrawn) (cond c (close failed) (event r))) ≡ close w)
    by true b c e = (done, refl)
    by false true c e = (withdrawn, refl)
    by false false true e = (failed, refl)
    by false false false e = absurd (subst T (sym e) tt)

event_record : (r : ℕ) → is_closing_number r ≡ false → record_of r ≡ event r
unfolding record_of is_closing_number
event_record r e = by (eqb r done_number) (eqb r withdrawn_number) (eqb r failed_number) e
  where
    by : (a b c : Bool) → (a || (b || c)) ≡ false
        → cond a (close done) (cond b (close withdrawn) (cond c (close failed) (event r))) ≡ event r
    by true b c e = absurd (subst (λ (x : Bool). T (not x)) (sym e) tt)
    by false true c e = absurd (subst (λ (x : Bool). T (not x)) (sym e) tt)
    by false false true e = absurd (subst (λ (x : Bool). T (not x)) (sym e) tt)
    by false false false e = refl

closed_nil : (rs : List ℕ) → closed rs 0 ≡ true → rs ≡ []
unfolding closed
closed_nil [] e = refl
closed_nil (r ∷ rs) e = absurd (subst T (sym e) tt)

-- events up to a closing, after which n closings are left
module _ (n : ℕ) (C : List Record → Type 0) (more : (a : ℕ) (rs : List Record) → C rs → C (event a ∷ rs)) (at_closing : (w : Closing) (rs : List ℕ) → closed rs n ≡ true → C (close w ∷ records rs)) where
  closed_up : (rs : List ℕ) → closed rs (suc n) ≡ true → C (records rs)
  unfolding closed
  closed_up [] e = absurd (subst T (sym e) tt)
  closed_up (r ∷ rs) e = by (is_closing_number r) refl (closed_up rs)
    where
      by : (b : Bool) → is_closing_number r ≡ b → (closed rs (suc n) ≡ true → C (records rs)) → C (record_of r ∷ records rs)
      by true h rec = let w = closing_record r h in rw w.1 (at_closing w.0 rs (ap (λ (b : Bool). closed rs (cond b n (suc n))) (sym h) ∙ e))
      by false h rec = rw (event_record r h) (more r (records rs) (rec (ap (λ (b : Bool). closed rs (cond b n (suc n))) (sym h) ∙ e)))

-- one closing, last
closed_once : (rs : List ℕ) → closed rs 1 ≡ true → Closed (records rs)
closed_once = closed_up 0 Closed (λ a rs c. Closed.more c) (λ w rs e. rw (closed_nil rs e) last)

-- a closing, and one last
closed_twice : (rs : List ℕ) → closed rs 2 ≡ true → ClosedTwice (records rs)
closed_twice = closed_up 1 ClosedTwice (λ a rs c. ClosedTwice.more c) (λ w rs e. ClosedTwice.turn (closed_once rs e))

-- events up to a closing, if there is one, in a beginning that may have n
module _ (n : ℕ) (C : List Record → Type 0) (none : C []) (more : (a : ℕ) (rs : List Record) → C rs → C (event a ∷ rs))
    (at_closing : (w : Closing) (r : ℕ) (rs : List ℕ) → is_closing_number r ≡ true → too_many_closings (r ∷ rs) n ≡ false → C (close w ∷ records rs)) where
  open_up : (rs : List ℕ) → too_many_closings rs n ≡ false → C (records rs)
  open_up [] e = none
  open_up (r ∷ rs) e = by (is_closing_number r) refl (open_up rs)
    where
      by : (b : Bool) → is_closing_number r ≡ b → (too_many_closings rs n ≡ false → C (records rs)) → C (record_of r ∷ records rs)
      by true h rec = let w = closing_record r h in rw w.1 (at_closing w.0 r rs h e)
      by false h rec = rw (event_record r h) (more r (records rs) (rec (sym (event_many r rs n h) ∙ e)))

-- no closing
open_once : (rs : List ℕ) → too_many_closings rs 0 ≡ false → Open (records rs)
open_once = open_up 0 Open Open.none (λ a rs c. Open.more c) (λ w r rs h e. absurd (subst T (sym (closing_over r rs h).0 ∙ e) tt))

-- one at the most
open_twice : (rs : List ℕ) → too_many_closings rs 1 ≡ false → OpenTwice (records rs)
open_twice = open_up 1 OpenTwice OpenTwice.none (λ a rs c. OpenTwice.more c) (λ w r rs h e. OpenTwice.turn (open_once rs (sym (closing_many r rs 1 (omega arith) h) ∙ e)))

---- Records that pass ----

module _ (extent : Extent) (ns rs : List ℕ) where
  pub fine_records : records_check extent ns rs ≡ Ok tt → FineRecords extent ns rs
  unfolding value_grounds values_check closings_check
  fine_records e =
      let a = both_fine (records_length_check extent rs) (or_else_check (values_check rs) (closings_check extent ns rs)) (sym (records_parts extent ns rs) ∙ e) in
      let b = both_fine (values_check rs) (closings_check extent ns rs) a.1 in
      record {
        few = few_records extent rs a.0;
        each = λ i h. value i (at_each (fine_nowhere (values_order rs) b.0) i h);
        closings = right (fine_nowhere (closing_order extent ns rs) b.1);
      }
    where
      value : (i : ℕ) → None (value_grounds rs i) → no_record (get_or rs i 0) ≡ false
      value i (None.more t n) = is_false (no_record (get_or rs i 0)) t

      at_each : Nowhere (values_order rs) → (i : ℕ) → i < length rs → None (value_grounds rs i)
      at_each (not_sweep v end) = v

      right : Nowhere (closing_order extent ns rs) → wrong_closings extent ns rs ≡ false
      right (not_lone c end) = is_false (wrong_closings extent ns rs) c

-- what holds of the table's flow, by the sort of its root
module _ (legend : Legend) (ns : List ℕ) (fine : FineTable ns) (R : State → Type 0) where
  by_root : ((p : Std) → is_standard (node ns (root ns)) ≡ true → R (std p)) → ((pp : Cmp) → is_standard (node ns (root ns)) ≡ false → R (cmp pp)) → R (flow_by legend ns)
  by_root when_standard when_compensable = by (is_standard (node ns (root ns))) refl
    where
      by : (b : Bool) → is_standard (node ns (root ns)) ≡ b → R (flow_by legend ns)
      by true h = let p = flow_standard legend ns fine h in subst R (sym p.1) (when_standard p.0 h)
      by false h = let p = flow_compensable legend ns fine h in subst R (sym p.1) (when_compensable p.0 h)

module _ (ns rs : List ℕ) (legend : Legend) (fine : FineTable ns) where
  -- 13 legend the closings that the root needs
  pub records_fit : records_check Whole ns rs ≡ Ok tt → Fits (flow_by legend ns) (records rs)
  unfolding closings_wanted wrong_closings
  records_fit f =
      let c : closed rs (closings_wanted ns) ≡ true = not-false (closed rs (closings_wanted ns)) (fine_records Whole ns rs f).closings in
      by_root legend ns fine (λ (s : State). Fits s (records rs))
      (λ p h. closed_once rs (ap (λ (b : Bool). closed rs (cond b 1 2)) (sym h) ∙ c))
      (λ pp h. closed_twice rs (ap (λ (b : Bool). closed rs (cond b 1 2)) (sym h) ∙ c))

  -- and in a beginning no closing too many
  pub records_begin : records_check Beginning ns rs ≡ Ok tt → Begins (flow_by legend ns) (records rs)
  unfolding closings_wanted closings_allowed wrong_closings
  records_begin f =
      let c : too_many_closings rs (closings_allowed ns) ≡ false = (fine_records Beginning ns rs f).closings in
      by_root legend ns fine (λ (s : State). Begins s (records rs))
      (λ p h. open_once rs (ap (λ (b : Bool). too_many_closings rs (cond b 1 2 - 1)) (sym h) ∙ c))
      (λ pp h. open_twice rs (ap (λ (b : Bool). too_many_closings rs (cond b 1 2 - 1)) (sym h) ∙ c))

-- a search can go through records that pass
pub records_within : (extent : Extent) (ns rs : List ℕ) (legend : Legend) → FineTable ns → records_check extent ns rs ≡ Ok tt → Within (flow_by legend ns) (records rs)
records_within Whole ns rs legend fine f = fits_within (flow_by legend ns) (records rs) (records_fit ns rs legend fine f)
records_within Beginning ns rs legend fine f = begins_within (flow_by legend ns) (records rs) (records_begin ns rs legend fine f)
