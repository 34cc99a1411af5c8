-- A flow file through the program `next`, over the text that is printed of its bytes (`file_text`): a file that the reader refuses gets the line of
-- its refusal, whatever number of records is asked for (`next_file_refused`); of any other the text is that of what `next_named` answers to
-- the file's names, sets, nodes and first records (`next_file_read`). Theorems only. Assumes nothing.
use Rattle.std.specs.Prelude.{ℕ, ◌≡◌, Result}
use mathlib.Core.List.{List}
use Rattle.std.proofs.Common.{◌∙◌}
use Rattle.std.proofs.Math.Path.{ap, ap₂}
use Rattle.flow.specs.declared.Refusal.{Refusal}
use Rattle.flow.specs.Drawn.{flow_by}
use Rattle.format.specs.Format.{Entry, names_section, File}
use Rattle.format.specs.Limits.{Bytes}
use Rattle.format.specs.Matching.{with_names}
use Rattle.format.specs.ListLaws.{entries_in_is}
use Rattle.format.specs.Items.{refusal_of}
use Rattle.reader.specs.declared.Counts.{Counts}
use Rattle.reader.specs.Reading.{Outcome, reading}
use Rattle.reader.specs.Faults.{Refuses}
use Rattle.judge.specs.declared.Answer.TheVariants as answer
use Rattle.ahead.specs.Told.{following}
use Rattle.line.specs.Line.{line_of}
use Rattle.program.specs.Program.{line_for}
use Rattle.program.specs.Listing.{beginning, answer_text}
use Rattle.program.specs.NextFile.{next_answer, tables_text, text_by, file_text}
use Rattle.promises.specs.RoundTrip.{names_handed, sets_handed}
use Rattle.promises.specs.NamedDemands.{alone_is}
use Rattle.promises.specs.Reader.{Readable, readable_read, report_refused}
use Rattle.promises.specs.ReaderRefusals.{refused_when}

module _ (s : List ℕ) (k : ℕ) where
  module _ (f : File) (readable : Readable s 192 256 f) where
    abbrev section : List ℕ
    section = names_section f.names

    abbrev rs : List ℕ
    rs = beginning k f.records

    handed : file_text s k ≡ tables_text section f.sets f.nodes rs
    unfolding file_text text_by
    handed =
        ap (λ (o : Outcome). text_by s k o.answer o.nodes o.records) (readable_read s 192 256 f readable)
        ∙ ap₂ (λ (part sets : List ℕ). tables_text part sets f.nodes rs) (names_handed s readable) (sets_handed s readable)

    -- the text of what may follow, by the entries and the flow that they draw
    pub next_file_read : file_text s k ≡ answer_text f.names (following (flow_by (with_names f.names f.sets) f.nodes) rs) (next_answer section f.sets f.nodes rs)
    unfolding tables_text
    next_file_read =
        handed
        ∙ ap (λ (es : List Entry). answer_text es (following (flow_by (with_names es f.sets) f.nodes) rs) (next_answer section f.sets f.nodes rs))
        (entries_in_is section (alone_is f.names readable.within.names))

  -- "a refused file gets the program's refusal line"
  pub next_file_refused : Bytes s → (number place : ℕ) → Refuses s 192 256 number place → file_text s k ≡ line_of (line_for (answer.Refused (refusal_of number place)))
  unfolding file_text text_by
  next_file_refused bytes number place x =
      ap (λ (a : Result Counts Refusal). text_by s k a (reading s 192 256).nodes (reading s 192 256).records)
      (report_refused s 192 256 number place ((refused_when s bytes 192 256 number place).1 x))
