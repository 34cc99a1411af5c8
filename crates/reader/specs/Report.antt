-- What an answer of the reader tells: 01's number, place and counts for each case, with the place of the sets (02, Four). Every promise is
-- stated of it. Definitions only. Assumes nothing.
use Rattle.std.specs.Prelude.{ℕ, ◌-◌, ◌/◌, Result, Ok, Err, length}
use Rattle.flow.specs.declared.Refusal.{Refusal}
use Rattle.flow.specs.Legends.{set_count}
use Rattle.format.specs.Format.{File, encode}
use Rattle.reader.specs.declared.Counts.{Counts}

-- the refusal number or 0, and its place; "the counts of names, nodes and records"; of the sets "their offset and count"
pub record Report : Type 0 where
  pub number : ℕ
  pub place : ℕ
  pub names : ℕ
  pub nodes : ℕ
  pub records : ℕ
  pub sets_at : ℕ
  pub sets : ℕ

abbrev pub read_report : Counts → Report
read_report c =
    record { number = 0; place = 0; names = c.names; nodes = c.nodes; records = c.records; sets_at = c.sets_at; sets = c.sets }

abbrev pub refused_report : ℕ → ℕ → Report
refused_report k p = record { number = k; place = p; names = 0; nodes = 0; records = 0; sets_at = 0; sets = 0 }

unfoldable pub reported : Result Counts Refusal → Report
reported (Ok c) = read_report c
reported (Err r) = refused_report r.number r.place

-- the sets are the last bytes of a file; without sets this is its length
abbrev pub sets_offset : File → ℕ
sets_offset f = length (encode f) - length f.sets

-- "If read, the answer gives the counts of names, nodes and records"; 02, Four: "The reader gives their offset and count"
abbrev pub counts_of : File → Counts
counts_of f =
    record {
      names = length f.names;
      nodes = length f.nodes / 3;
      records = length f.records;
      sets_at = sets_offset f;
      sets = set_count f.sets;
    }
