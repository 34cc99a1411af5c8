-- The refusals of a file's numbers, 4 to 9, with 22, 12, 13, 19 and 20, exactly when: their order is one like any other (ExactlyWhen),
-- and the reader reports just these of a file of the format. What 19 and 20 say in plain words is in PlainRows. Assumes nothing.
use Rattle.std.specs.Prelude.{ℕ, ◌≤◌, ◌↔◌, ◌≡◌, refl, Result, Ok, Err, ⊤}
use Rattle.std.proofs.Common.{inr, ap, sym, ◌∙◌, arith}
use Rattle.flow.specs.declared.Refusal.{Refusal}
use Rattle.flow.specs.Earliest.{Earliest}
use Rattle.format.specs.Format.{File, encode}
use Rattle.format.specs.Plan.{run}
use Rattle.format.specs.Sections.{layout}
use Rattle.format.specs.Limits.{WithinLimits}
use Rattle.format.specs.Contents.{file_order}
use Rattle.format.specs.ContentChecks.{grounds_of, content_check}
use Rattle.format.specs.Told.{refusal_of}
use Rattle.reader.specs.Report.{reported, refused_report}
use Rattle.reader.specs.Reading.{Outcome, checked, reading}
use Rattle.reader.specs.ReaderLaws.{reading_laid, laid_checked, read_not_refused}
use Rattle.promises.specs.ExactlyWhen.{earliest_exactly}
use Rattle.promises.specs.FileStands.{stands_all}
use Rattle.promises.specs.FileExact.{layout_reads}
use Rattle.promises.specs.Reader.{report_refused}

-- each is given at a place exactly when its condition holds there and nothing before it does
pub contents_exactly : (f : File) (r : Refusal) → (content_check f ≡ Err r) ↔ Earliest r (file_order f)
unfolding grounds_of
contents_exactly f r = earliest_exactly (file_order f) r

-- of a file of the format within the limits the reader reports exactly these
pub contents_refused_when : (f : File) (nr rr k p : ℕ) → WithinLimits f → 192 ≤ nr → 256 ≤ rr
    → (reported (reading (encode f) nr rr).answer ≡ refused_report k p) ↔ Earliest (refusal_of k p) (file_order f)
unfolding checked reported
contents_refused_when f nr rr k p w h l = (
  (λ e. by (content_check f) refl (ap (λ (o : Outcome). o.answer) (sym is) ∙ report_refused (encode f) nr rr k p e)),
  λ x. ap (λ (o : Outcome). reported o.answer) (is ∙ ap (checked f) ((contents_exactly f (refusal_of k p)).1 x)),
)
  where
    is : reading (encode f) nr rr ≡ checked f (content_check f)
    is = reading_laid (encode f) nr rr h l ∙ laid_checked (encode f) (run (encode f) 0 layout) (layout_reads (encode f) f w (stands_all (encode f)) (inr (omega arith)))

    by : (c : Result ⊤ Refusal) → content_check f ≡ c → (checked f c).answer ≡ Err (refusal_of k p) → Earliest (refusal_of k p) (file_order f)
    by (Ok tt) q a = read_not_refused a
    by (Err r) q a =
        let d : r ≡ refusal_of k p = cc in
        (contents_exactly f (refusal_of k p)).0 (q ∙ ap Err d)
