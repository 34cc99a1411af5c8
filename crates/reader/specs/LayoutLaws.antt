-- What the plan of the four sections comes to, by the runs of the sections, and what is known of a file whose sections are gone
-- through to the end. Assumes nothing.
use Rattle.std.specs.Prelude.{ℕ, ◌+◌, ◌*◌, ◌-◌, ◌/◌, ◌≤◌, ◌<◌, Result, Ok, Err, List, ◌++◌, ◌≡◌, refl, length}
use Rattle.std.specs.Result.{IsErrAnd}
use Rattle.std.proofs.Common.{ap, ap₂, sym, ◌∙◌, subst}
use native.Mathlib.Omega.{arith}
use Rattle.std.proofs.Math.ListN.{length-append}
use Rattle.flow.specs.declared.Refusal.{Refusal}
use Rattle.flow.specs.Legends.{set_count}
use Rattle.flow.specs.FirstRefusal.{refusal_handed}
use Rattle.format.specs.Format.{Entry, names_section, numbers_section, sets_section, File, encode}
use Rattle.format.specs.Plan.{Plan, done, ◌>>=◌, Ran, got, bad, run}
use Rattle.format.specs.Sections.{names, section, joint_sets, node_count, record_count, layout}
use Rattle.format.specs.Items.{refusal_of, numbers_at}
use Rattle.format.specs.Plans.{bind_bad, bind_got}
use Rattle.format.specs.ItemLaws.{got_value, got_next, got_not_bad}
use Rattle.format.specs.RunLaws.{SetsThere, sets_there, sets_end}
use Rattle.format.specs.SectionLaws.{SectionThere, section_there, section_end, names_there, names_end}
use Rattle.reader.specs.declared.Counts.{Counts}
use Rattle.reader.specs.declared.Offsets.{Offsets}
use Rattle.reader.specs.Report.{sets_offset}
use Rattle.reader.specs.Laying.{Inside, Placed, Lays, lays_bad, lays_long, lays_at}
pub use Rattle.reader.specs.Laying.{LayoutRuns}

---- The sections ----

unfoldable pub file_of : List Entry → List ℕ → List ℕ → List ℕ → Plan File
file_of es ns rs sets = done (record { names = es; nodes = ns; records = rs; sets = sets })

unfoldable pub after_records : List Entry → List ℕ → List ℕ → Plan File
unfolding file_of
after_records es ns rs = joint_sets >>= file_of es ns rs

unfoldable pub after_nodes : List Entry → List ℕ → Plan File
unfolding after_records
after_nodes es ns = section record_count 1 >>= after_records es ns

unfoldable pub after_names : List Entry → Plan File
unfolding after_nodes
after_names es = section node_count 3 >>= after_nodes es

module _ (s : List ℕ) where
  pub layout_names_bad : {k p : ℕ} → run s 0 names ≡ bad k p → run s 0 layout ≡ bad k p
  unfolding layout file_of after_records after_nodes after_names
  layout_names_bad e = bind_bad s 0 names after_names e

  module _ {es : List Entry} {at : ℕ} (a : run s 0 names ≡ got es at) where
    names_on : run s 0 layout ≡ run s at (after_names es)
    unfolding layout file_of after_records after_nodes after_names
    names_on = bind_got s 0 names after_names a

    pub layout_nodes_bad : {k p : ℕ} → run s at (section node_count 3) ≡ bad k p → run s 0 layout ≡ bad k p
    unfolding after_names
    layout_nodes_bad e = names_on ∙ bind_bad s at (section node_count 3) (after_nodes es) e

    module _ {ns : List ℕ} {mid : ℕ} (b : run s at (section node_count 3) ≡ got ns mid) where
      nodes_on : run s 0 layout ≡ run s mid (after_nodes es ns)
      unfolding after_names
      nodes_on = names_on ∙ bind_got s at (section node_count 3) (after_nodes es) b

      pub layout_records_bad : {k p : ℕ} → run s mid (section record_count 1) ≡ bad k p → run s 0 layout ≡ bad k p
      unfolding after_nodes
      layout_records_bad e = nodes_on ∙ bind_bad s mid (section record_count 1) (after_records es ns) e

      module _ {rs : List ℕ} {last : ℕ} (c : run s mid (section record_count 1) ≡ got rs last) where
        records_on : run s 0 layout ≡ run s last (after_records es ns rs)
        unfolding after_nodes
        records_on = nodes_on ∙ bind_got s mid (section record_count 1) (after_records es ns) c

        pub layout_sets_bad : {k p : ℕ} → run s last joint_sets ≡ bad k p → run s 0 layout ≡ bad k p
        unfolding after_records
        layout_sets_bad e = records_on ∙ bind_bad s last joint_sets (file_of es ns rs) e

        pub layout_got : {sets : List ℕ} {end : ℕ} → run s last joint_sets ≡ got sets end
            → run s 0 layout ≡ got (record { names = es; nodes = ns; records = rs; sets = sets }) end
        unfolding after_records file_of run
        layout_got e = records_on ∙ bind_got s last joint_sets (file_of es ns rs) e

module _ (s : List ℕ) {f : File} {end : ℕ} (e : run s 0 layout ≡ got f end) where
  pub layout_runs : LayoutRuns s f end
  layout_runs = by_names (run s 0 names) refl
    where
      by_sets : {es : List Entry} {from mid last : ℕ} {ns rs : List ℕ} → run s 0 names ≡ got es from → run s from (section node_count 3) ≡ got ns mid
          → run s mid (section record_count 1) ≡ got rs last → (x : Ran (List ℕ)) → run s last joint_sets ≡ x → LayoutRuns s f end
      by_sets {es} {from} {mid} {last} {ns} {rs} a b c (got sets m) h =
          let g : got f end ≡ got (record { names = es; nodes = ns; records = rs; sets = sets }) m = sym e ∙ layout_got s a b c h in
          let q = got_value g in
          record {
            from = from;
            mid = mid;
            last = last;
            names_run = a ∙ ap (λ (f' : File). got f'.names from) (sym q);
            nodes_run = b ∙ ap (λ (f' : File). got f'.nodes mid) (sym q);
            records_run = c ∙ ap (λ (f' : File). got f'.records last) (sym q);
            sets_run = h ∙ ap₂ (λ (f' : File) (n : ℕ). got f'.sets n) (sym q) (sym (got_next g));
          }
      by_sets a b c (bad k p) h = got_not_bad e (layout_sets_bad s a b c h)

      by_records : {es : List Entry} {from mid : ℕ} {ns : List ℕ} → run s 0 names ≡ got es from → run s from (section node_count 3) ≡ got ns mid
          → (x : Ran (List ℕ)) → run s mid (section record_count 1) ≡ x → LayoutRuns s f end
      by_records a b (got rs last) c = by_sets a b c (run s last joint_sets) refl
      by_records a b (bad k p) c = got_not_bad e (layout_records_bad s a b c)

      by_nodes : {es : List Entry} {from : ℕ} → run s 0 names ≡ got es from → (x : Ran (List ℕ)) → run s from (section node_count 3) ≡ x → LayoutRuns s f end
      by_nodes a (got ns mid) b = by_records a b (run s mid (section record_count 1)) refl
      by_nodes a (bad k p) b = got_not_bad e (layout_nodes_bad s a b)

      by_names : (x : Ran (List Entry)) → run s 0 names ≡ x → LayoutRuns s f end
      by_names (got es from) a = by_nodes a (run s from (section node_count 3)) refl
      by_names (bad k p) a = got_not_bad e (layout_names_bad s a)

---- Where the sections stand ----

module _ (s : List ℕ) {f : File} {end : ℕ} (r : LayoutRuns s f end) where
  pub runs_layout : run s 0 layout ≡ got f end
  runs_layout = layout_got s r.names_run r.nodes_run r.records_run r.sets_run

  pub nodes_there : SectionThere s r.from node_count 3 f.nodes r.mid
  nodes_there = section_there s r.from node_count 3 r.nodes_run

  pub records_there : SectionThere s r.mid record_count 1 f.records r.last
  records_there = section_there s r.mid record_count 1 r.records_run

  pub lent_there : SetsThere s r.last f.sets end
  lent_there = sets_there s r.last records_there.inside r.sets_run

  -- the sections are short
  pub runs_near : (r.from ≤ 20994) × (r.mid ≤ 21380) × (end ≤ 22408)
  runs_near =
      let a = names_there s r.names_run in
      let b = nodes_there in
      let c = records_there in
      let d = lent_there in
      let from : r.from ≤ 20994 = omega (arith, a.near, a.few) in
      let mid : r.mid ≤ 21380 = omega (arith, b.ends, b.high) in
      (from, mid, omega (arith, c.ends, c.high, d.near))

  -- it ends where the file's bytes do
  pub runs_end : end ≡ length (encode f)
  unfolding encode
  runs_end =
      let es = names_section f.names in
      let ns = numbers_section 3 f.nodes in
      let rs = numbers_section 1 f.records in
      let xs = sets_section f.sets in
      omega (
        arith,
        length-append es (ns ++ (rs ++ xs)),
        length-append ns (rs ++ xs),
        length-append rs xs,
        names_end s r.names_run,
        section_end s r.from node_count 3 r.nodes_run,
        section_end s r.mid record_count 1 r.records_run,
        sets_end s r.last r.sets_run,
      )

module _ (s : List ℕ) {f : File} {o : Offsets} (p : Placed s f o) where
  pub placed_run : run s 0 layout ≡ got f (length s)
  placed_run = runs_layout s p.runs ∙ ap (got f) p.ends

  counted_nodes : o.counts.nodes ≡ (nodes_there s p.runs).n
  counted_nodes = ap (λ (c : Counts). c.nodes) p.counts_are ∙ omega (arith, (nodes_there s p.runs).sized)

  counted_records : o.counts.records ≡ 1 * (records_there s p.runs).n
  counted_records = ap (λ (c : Counts). c.records) p.counts_are ∙ (records_there s p.runs).sized

  pub placed_nodes : f.nodes ≡ numbers_at s (3 * o.counts.nodes) o.nodes
  placed_nodes = (nodes_there s p.runs).is ∙ ap₂ (λ (n at : ℕ). numbers_at s (3 * n) at) (sym counted_nodes) (sym p.nodes_are_at)

  pub placed_records : f.records ≡ numbers_at s o.counts.records o.records
  placed_records = (records_there s p.runs).is ∙ ap₂ (λ (n at : ℕ). numbers_at s n at) (sym counted_records) (sym p.records_are_at)

  pub placed_inside : Inside s o
  placed_inside =
      let a = nodes_there s p.runs in
      let b = records_there s p.runs in
      record {
        some_nodes = omega (arith, a.low, counted_nodes);
        few_nodes = omega (arith, a.high, counted_nodes);
        few_records = omega (arith, b.high, counted_records);
        nodes_inside = omega (arith, a.ends, a.inside, counted_nodes, p.nodes_are_at);
        records_inside = omega (arith, b.ends, b.inside, counted_records, p.records_are_at);
      }

---- What `lay_out` answers ----

abbrev pub found_runs : (s : List ℕ) {es : List Entry} {ns rs sets : List ℕ} {from mid last end : ℕ} → run s 0 names ≡ got es from
    → run s from (section node_count 3) ≡ got ns mid → run s mid (section record_count 1) ≡ got rs last → run s last joint_sets ≡ got sets end
    → LayoutRuns s (record { names = es; nodes = ns; records = rs; sets = sets }) end
found_runs s {from} {mid} {last} a b c d = record { from = from; mid = mid; last = last; names_run = a; nodes_run = b; records_run = c; sets_run = d }

-- a refusal that is handed on
pub lays_refusal : (s : List ℕ) {l : Result Offsets Refusal} {r : Refusal} → IsErrAnd l (λ q. q ≡ r) → run s 0 layout ≡ bad r.number r.place → Lays s l
lays_refusal s {l} h e = subst (Lays s) (sym (refusal_handed l h)) (lays_bad e)

module _ (s : List ℕ) {f : File} {end : ℕ} (runs : LayoutRuns s f end) where
  pub lays_too_long : {r : Refusal} → r ≡ refusal_of 21 end → end < length s → Lays s (Err r)
  lays_too_long e h = rw e (lays_long (runs_layout s runs) h)

  pub lays_whole : {n k r m w : ℕ} → n ≡ length f.names → k ≡ length f.nodes → r ≡ length f.records → m ≡ set_count f.sets → w ≡ m → length s ≤ end
      → Lays s (Ok (record {
        counts = record { names = n; nodes = k / 3; records = r; sets_at = end - 32 * w; sets = m };
        nodes = runs.from + 2;
        records = runs.mid + 2;
        end = end;
      }))
  lays_whole {n} {k} {r} {m} {w} d e g h q l =
      let t = lent_there s runs in
      let from : end - 32 * w ≡ sets_offset f = omega (arith, h, q, t.sized, runs_end s runs) in
      lays_at f (record {
        runs = runs;
        counts_are = λ i. record { names = d i; nodes = e i / 3; records = g i; sets_at = from i; sets = h i };
        nodes_are_at = refl;
        records_are_at = refl;
        ends = omega (arith, t.inside);
      })
