-- The round trip. 02, One: "What it writes the reader reads back as the same three lists, and writing what was read gives the same
-- bytes"; with Four the sets too. For every input, by the contracts of `write`, `read` and `scan_names`; and the files that are written are
-- exactly those that are read. What it is stated with is in Returned. Assumes nothing.
use Rattle.std.specs.Prelude.{ℕ, ◌*◌, ◌≤◌, ◌↔◌, ◌≡◌, refl, length, Result}
use mathlib.Core.List.{List, [], ◌∷◌, ◌++◌, append_assoc}
use Rattle.std.proofs.Math.Path.{ap, sym, subst}
use Rattle.std.proofs.Common.{◌∙◌, arith, length-append, take_at, drop_at}
use Rattle.std.proofs.Math.ListN.{take, drop}
use Rattle.flow.specs.declared.Refusal.{Refusal}
use Rattle.flow.specs.Legends.{set_count}
use Rattle.format.specs.Format.{number_bytes, names_section, numbers_section, sets_section, File, encode}
use Rattle.format.specs.Limits.{Bytes, Stands}
use Rattle.format.specs.Told.{ItemTold, item_told, item_found, at_front}
use Rattle.reader.specs.declared.Counts.{Counts}
use Rattle.reader.specs.Report.{Report, reported, read_report, counts_of, sets_offset}
use Rattle.reader.specs.Faults.{Readable}
use Rattle.reader.specs.Reading.{Outcome, read_outcome, reading, ReadAs}
use Rattle.flow.specs.declared.Refusal.{Refusal}
use Rattle.writer.specs.declared.Size.{Size}
use Rattle.writer.specs.Told.{writing_told, writing_written}
use Rattle.writer.specs.Writes.{file_of_lists, Writable}
use Rattle.writer.specs.Writing.{writing, bytes_first, WrittenAs}
use Rattle.program.specs.FileParts.{names_of, scanned as scanned_as, sets_of}
use Rattle.promises.specs.FileExact.{without_sets, encode_sets, names_read}
use Rattle.promises.specs.Returned.{ReadBack, WrittenFor}
use Rattle.promises.specs.FileStands.{stands_left, stands_take, stands_bytes}
use Rattle.promises.specs.Reader.{readable_read, scanned, names_scanned}
use Rattle.promises.specs.Reads.{read_counts, read_fills}
use Rattle.promises.specs.ListRefusals.{whole_stands}
use Rattle.promises.specs.Writer.{good_sets_bytes, writable_some, write_tells, write_fills, write_writes}

---- What stands first ----

-- numbers that stand first are what is taken from there
front_taken : (xs table : List ℕ) {n : ℕ} {after : List ℕ} → after ≡ at_front xs table → n ≡ length xs → take n after ≡ xs
front_taken xs table {n} e h = ap (take n) e ∙ take_at xs (drop (length xs) table) n (sym h)

-- what stands in a section of sets before them
before_sets : (sets : List ℕ) → (xs : List ℕ) × (sets_section sets ≡ xs ++ sets)
unfolding sets_section
before_sets [] = ([], refl)
before_sets (b ∷ bs) = (number_bytes (set_count (b ∷ bs)), refl)

-- a file's first bytes are its names section, and its last are the sets
module _ {t : List ℕ} (f : File) (e : t ≡ encode f) where
  pub names_first : Stands t 0 (names_section f.names)
  unfolding encode
  names_first = stands_left t 0 (names_section f.names) (numbers_section 3 f.nodes ++ (numbers_section 1 f.records ++ sets_section f.sets)) (whole_stands e)

  pub names_taken : take (length (names_section f.names)) t ≡ names_section f.names
  names_taken = stands_take t 0 (names_section f.names) names_first

  pub sets_dropped : drop (sets_offset f) t ≡ f.sets
  sets_dropped =
      let b = before_sets f.sets in
      let xs = encode (without_sets f) ++ b.0 in
      let d : encode f ≡ xs ++ f.sets =
      encode_sets f ∙ ap (λ (ys : List ℕ). encode (without_sets f) ++ ys) b.1 ∙ sym (append_assoc (encode (without_sets f)) b.0 f.sets) in
      ap (drop (sets_offset f)) (e ∙ d) ∙ drop_at xs f.sets (sets_offset f) (omega (arith, ap length d, length-append xs f.sets))

-- a file that is read hands on its own names section
pub names_handed : (t : List ℕ) {f : File} → Readable t 192 256 f → names_of t ≡ names_section f.names
unfolding names_of scanned_as
names_handed t {f} r = ap (scanned_as t) (names_read t r.within.names (names_first f r.encoded)) ∙ names_taken f r.encoded

-- and its own sets
pub sets_handed : (t : List ℕ) {f : File} → Readable t 192 256 f → sets_of (counts_of f) t ≡ f.sets
sets_handed t {f} r = sets_dropped f r.encoded

---- Written, then read ----

-- the file of lists that are writable is readable
writable_readable : {s ns rs sets t : List ℕ} {room nr rr : ℕ} {f : File} → Writable s ns rs sets room f → t ≡ encode f → 192 ≤ nr → 256 ≤ rr → Readable t nr rr f
writable_readable w e h l = record { node_room = h; record_room = l; encoded = e; within = w.within; fine = w.fine }

module _ {s ns rs sets file file' : List ℕ} {w : Result Size Refusal} (bytes : Bytes s) (sets_bytes : Bytes sets) (written : WrittenAs s ns rs sets file file' w)
    (n : ℕ) (some : 1 ≤ n) (told : writing_told w ≡ writing_written n) where
  -- the file whose length is told stands first
  written_file : (f : File) × Writable s ns rs sets (length file) f × (take n file' ≡ encode f)
  written_file =
      let x = (write_writes written bytes sets_bytes n some).0 told in
      (x.0, x.1, front_taken (encode x.0) file (write_fills written x.1) x.2)

  -- "What it writes the reader reads back as the same three lists", and the same sets
  pub written_read : {nodes records nodes' records' : List ℕ} {a : Result Counts Refusal} → 192 ≤ length nodes → 256 ≤ length records
      → ReadAs (take n file') nodes records nodes' records' a → ReadBack s ns rs sets (take n file') nodes records nodes' records' a
  unfolding reported
  written_read {nodes} {records} h l ensured =
      let t = take n file' in
      let f = written_file.0 in
      let v = written_file.1 in
      let e : reading t (length nodes) (length records) ≡ read_outcome f =
      readable_read t (length nodes) (length records) f (writable_readable v written_file.2 h l) in
      let told_read = ap reported (ensured.answer ∙ ap (λ (o : Outcome). o.answer) e) in
      record {
        entries = f.names;
        names_lent = v.names_lent;
        names_back = subst (λ (xs : List ℕ). take (length xs) t ≡ xs) (sym v.names_lent) (names_taken f written_file.2);
        nodes_back =
            ensured.nodes_after ∙ ap (λ (o : Outcome). at_front o.nodes nodes) e
            ∙ ap (λ (xs : List ℕ). at_front xs nodes) (sym v.nodes_lent);
        records_back =
            ensured.records_after ∙ ap (λ (o : Outcome). at_front o.records records) e
            ∙ ap (λ (xs : List ℕ). at_front xs records) (sym v.records_lent);
        sets_back = ap (λ (k : Report). drop k.sets_at t) told_read ∙ sets_dropped f written_file.2 ∙ sym v.sets_lent;
        counted =
            told_read
            ∙ (λ i. read_report (counts_of (file_of_lists f.names (sym v.nodes_lent i) (sym v.records_lent i) (sym v.sets_lent i))));
      }

---- Read, then written ----

-- the parts of a readable file, with room for it, are writable
pub readable_writable : {t s ns rs sets : List ℕ} {nr rr room : ℕ} {f : File} → Readable t nr rr f → length t ≤ room
    → s ≡ names_section f.names → ns ≡ f.nodes → rs ≡ f.records → sets ≡ f.sets → Writable s ns rs sets room f
readable_writable r h a b c d =
    record {
      names_lent = a;
      nodes_lent = b;
      records_lent = c;
      sets_lent = d;
      within = r.within;
      fine = r.fine;
      room_enough = omega (arith, ap length r.encoded);
    }

-- and written as the file
pub parts_written : {t s ns rs sets file file' : List ℕ} {f : File} {w : Result Size Refusal} → t ≡ encode f → Writable s ns rs sets (length file) f
    → WrittenAs s ns rs sets file file' w → (writing_told w ≡ writing_written (length t)) × (file' ≡ at_front t file)
parts_written {file} e v written = (
  write_tells written v ∙ ap (λ (xs : List ℕ). writing_written (length xs)) (sym e),
  write_fills written v ∙ ap (λ (xs : List ℕ). at_front xs file) (sym e),
)

-- "writing what was read gives the same bytes": from the file's first bytes, up to where a scan ends, the numbers that were read, and the
-- file's last bytes, from where the reader says that the sets are
pub read_written : {t nodes records nodes' records' file file' : List ℕ} {a : Result Counts Refusal} {c : Counts} {k at : ℕ} {w : Result Size Refusal} → Bytes t
    → ReadAs t nodes records nodes' records' a → reported a ≡ read_report c → 1 ≤ c.nodes → item_told (scanned t) ≡ item_found k at
    → WrittenAs (take at t) (take (3 * c.nodes) nodes') (take c.records records') (drop c.sets_at t) file file' w → length t ≤ length file
    → (writing_told w ≡ writing_written (length t)) × (file' ≡ at_front t file)
read_written {t} {nodes} {records} {c} {at} bytes ensured told some scan written room =
    let x = (read_counts bytes ensured c some).0 told in
    let f = x.0 in
    let r = x.1 in
    let counted = x.2 in
    let tables = read_fills bytes ensured f r in
    let ends : at ≡ length (names_section f.names) =
    ap (λ (i : ItemTold). i.next) (sym scan ∙ names_scanned t r.within.names (names_first f r.encoded)) in
    let nodes_many : 3 * c.nodes ≡ length f.nodes = omega (arith, ap (λ (c' : Counts). c'.nodes) counted, r.within.nodes.whole) in
    let records_many : c.records ≡ length f.records = ap (λ (c' : Counts). c'.records) counted in
    parts_written r.encoded
    (readable_writable r room (ap (λ (n : ℕ). take n t) ends ∙ names_taken f r.encoded) (front_taken f.nodes nodes tables.0 nodes_many)
    (front_taken f.records records tables.1 records_many)
    (ap (λ (c' : Counts). drop c'.sets_at t) counted ∙ sets_dropped f r.encoded))
    written

---- The same files ----

-- the files that are written for some lists are exactly those that are read
pub written_exactly_read : (t : List ℕ) → Bytes t → WrittenFor t ↔ ((f : File) × Readable t 192 256 f)
written_exactly_read t bytes = (λ x. there x, λ x. back x.0 x.1)
  where
    there : WrittenFor t → (f : File) × Readable t 192 256 f
    there x =
        let y = written_file x.bytes x.sets_bytes x.written (length t) x.some x.told in
        (y.0, writable_readable y.1 (sym x.stands ∙ y.2) (omega arith) (omega arith))

    -- written from its parts, where a file as long is lent
    back : (f : File) → Readable t 192 256 f → WrittenFor t
    back f r =
        let s = names_section f.names in
        let v : Writable s f.nodes f.records f.sets (length t) f = readable_writable r (omega arith) refl refl refl refl in
        let after = at_front (bytes_first s f.nodes f.records f.sets (length t)) t in
        let answer = writing s f.nodes f.records f.sets (length t) in
        let w : WrittenAs s f.nodes f.records f.sets t after answer = record { answer = refl; file_after = refl } in
        let same = parts_written r.encoded v w in
        record {
          s = s;
          ns = f.nodes;
          rs = f.records;
          sets = f.sets;
          file = t;
          file' = after;
          answer = answer;
          bytes = stands_bytes t bytes 0 s (names_first f r.encoded);
          sets_bytes = good_sets_bytes r.within.sets;
          written = w;
          some = omega (arith, ap length r.encoded, writable_some s f.nodes f.records f.sets (length t) v);
          told = same.0;
          stands = front_taken t t same.1 refl;
        }
