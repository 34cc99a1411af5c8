-- What the functions on the way to `read` answer: where the numbers of a file stand, and what `lay_out` answers; and what is known of a
-- layout, of a reading and of a file that is read. Definitions only: LayoutLaws and ReaderLaws prove them. Assumes nothing.
use Rattle.std.specs.Prelude.{ℕ, ◌+◌, ◌*◌, ◌≤◌, ◌<◌, Result, Ok, Err, List, ◌≡◌, length, drop}
use Rattle.flow.specs.declared.Refusal.{Refusal}
use Rattle.format.specs.Format.{File}
use Rattle.format.specs.Plan.{got, bad, run}
use Rattle.format.specs.Sections.{names, section, joint_sets, node_count, record_count, layout}
use Rattle.format.specs.Items.{refusal_of}
use Rattle.reader.specs.declared.Offsets.{Offsets}
use Rattle.format.specs.ContentChecks.{content_check}
use Rattle.reader.specs.declared.Counts.{Counts}
use Rattle.reader.specs.Reading.{Outcome, refused_outcome, read_outcome, counts_of, reading}

-- the numbers of so many nodes and records stand at their offsets
pub record Inside (s : List ℕ) (o : Offsets) : Type 0 where
  pub some_nodes : 1 ≤ o.counts.nodes
  pub few_nodes : o.counts.nodes ≤ 64
  pub few_records : o.counts.records ≤ 256
  pub nodes_inside : o.nodes + 2 * (3 * o.counts.nodes) ≤ length s
  pub records_inside : o.records + 2 * o.counts.records ≤ length s

-- the four runs that make a layout
pub record LayoutRuns (s : List ℕ) (f : File) (end : ℕ) : Type 0 where
  pub from : ℕ
  pub mid : ℕ
  pub last : ℕ
  pub names_run : run s 0 names ≡ got f.names from
  pub nodes_run : run s from (section node_count 3) ≡ got f.nodes mid
  pub records_run : run s mid (section record_count 1) ≡ got f.records last
  pub sets_run : run s last joint_sets ≡ got f.sets end

-- the sections of f are read one after the other, the numbers of two of them behind their counts, to the end of the file
pub record Placed (s : List ℕ) (f : File) (o : Offsets) : Type 0 where
  pub runs : LayoutRuns s f o.end
  pub counts_are : o.counts ≡ counts_of f
  pub nodes_are_at : o.nodes ≡ runs.from + 2
  pub records_are_at : o.records ≡ runs.mid + 2
  pub ends : o.end ≡ length s

-- the offsets of the sections, or the refusal up to 21
pub data Lays (s : List ℕ) : Result Offsets Refusal → Type 0 where
  lays_bad : {r : Refusal} → run s 0 layout ≡ bad r.number r.place → Lays s (Err r)
  lays_long : {f : File} {end : ℕ} → run s 0 layout ≡ got f end → end < length s → Lays s (Err (refusal_of 21 end))
  lays_at : {o : Offsets} (f : File) → Placed s f o → Lays s (Ok o)

---- What is known of a reading ----

-- what a reading comes to, by what is found on the way
pub data Way (s : List ℕ) (nr rr : ℕ) : Outcome → Type 0 where
  few_nodes : nr < 192 → Way s nr rr (refused_outcome (refusal_of 14 0))
  few_records : rr < 256 → Way s nr rr (refused_outcome (refusal_of 14 0))
  stopped : 192 ≤ nr → 256 ≤ rr → {n p : ℕ} → run s 0 layout ≡ bad n p → Way s nr rr (refused_outcome (refusal_of n p))
  longer : (f : File) (end : ℕ) → 192 ≤ nr → 256 ≤ rr → run s 0 layout ≡ got f end → end < length s → Way s nr rr (refused_outcome (refusal_of 21 end))
  faulty : (f : File) (end : ℕ) → 192 ≤ nr → 256 ≤ rr → run s 0 layout ≡ got f end → length s ≤ end → {r : Refusal} → content_check f ≡ Err r → Way s nr rr (refused_outcome r)
  whole : (f : File) (end : ℕ) → 192 ≤ nr → 256 ≤ rr → run s 0 layout ≡ got f end → length s ≤ end → content_check f ≡ Ok tt → Way s nr rr (read_outcome f)

-- a file that is read: its outcome, that its nodes are whole, and where its sets are
pub record ReadFile (s : List ℕ) (nr rr : ℕ) (c : Counts) : Type 0 where
  pub file : File
  pub is : reading s nr rr ≡ read_outcome file
  pub counted : c ≡ counts_of file
  pub whole_nodes : length file.nodes ≡ 3 * c.nodes
  pub some_nodes : 1 ≤ c.nodes
  pub whole_sets : length file.sets ≡ 32 * c.sets
  pub sets_inside : c.sets_at ≤ length s
  pub sets_are : drop c.sets_at s ≡ file.sets
