-- What is refused of a names section that is lent by itself, with lists that an order of rounds looks at: exactly the ways of
-- NamedRefuses (`named_exactly`), and nothing exactly if the section is a good one, with nothing behind it, and no ground of the order
-- holds (`named_fine`). Said once, of any order; then of the sets, nodes and records that are lent with it. Assumes nothing.
use Rattle.std.specs.Prelude.{ℕ, ◌≤◌, ◌<◌, ◌⊎◌, ◌↔◌, ◌≡◌, refl, length, Result, Ok, Err, ⊤}
use mathlib.Core.List.{List, [], ◌∷◌, ◌++◌}
use Rattle.std.proofs.Common.{inl, inr, sym, ◌∙◌, arith}
use Rattle.std.proofs.Math.Path.{ap, subst}
use Rattle.flow.specs.declared.Refusal.{Refusal}
use Rattle.flow.specs.declared.Extent.{Extent}
use Rattle.flow.specs.Refusals.{Round, lone, sweep}
use Rattle.flow.specs.Earliest.{Earliest, past_lone, past_sweep, Nowhere, end, not_lone, not_sweep}
use Rattle.format.specs.Format.{Entry, names_section}
use Rattle.format.specs.Plan.{Ran, got, bad, run}
use Rattle.format.specs.Sections.{names}
use Rattle.format.specs.Limits.{GoodNames, Bytes, Stands}
use Rattle.format.specs.Contents.{lists_order}
use Rattle.format.specs.Told.{refusal_of}
use Rattle.format.specs.NameFaults.{NamesFault, NamedRefuses, in_section, after_section, in_order}
use Rattle.format.specs.ListChecks.{section_alone, by_entries, named_check, lists_check}
use Rattle.format.specs.ItemLaws.{le_or_lt}
use Rattle.format.specs.ListLaws.{alone_bad, alone_longer, alone_got}
use Rattle.promises.specs.ExactlyWhen.{earliest_exactly, nowhere_exactly}
use Rattle.promises.specs.FileStands.{stands_all}
use Rattle.promises.specs.FileExact.{names_read, names_stand}
use Rattle.promises.specs.Reader.{stands_whole}
use Rattle.promises.specs.ReaderRefusals.{names_refused, names_fault}

-- nothing is both fine and refused
pub fine_not_refused : {r : Refusal} {C : Type 0} → ◌≡◌ {A = Result ⊤ Refusal} (Ok tt) (Err r) → C
fine_not_refused e = let z : ◌≡◌ {A = ℕ} 0 1 = cc in absurd (omega arith)

pub same_refusal : {q r : Refusal} → ◌≡◌ {A = Result ⊤ Refusal} (Err q) (Err r) → q ≡ r
same_refusal e = cc

---- One order after another ----

-- nothing is refused of two orders exactly if nothing is of either
pub nowhere_both : {a b : List Round} → Nowhere a → Nowhere b → Nowhere (a ++ b)
nowhere_both end n = n
nowhere_both (not_lone t m) n = not_lone t (nowhere_both m n)
nowhere_both (not_sweep t m) n = not_sweep t (nowhere_both m n)

pub nowhere_parts : (a b : List Round) → Nowhere (a ++ b) → Nowhere a × Nowhere b
nowhere_parts [] b n = (end, n)
nowhere_parts (lone g ∷ a) b (not_lone t n) = let m = nowhere_parts a b n in (not_lone t m.0, m.1)
nowhere_parts (sweep k f ∷ a) b (not_sweep t n) = let m = nowhere_parts a b n in (not_sweep t m.0, m.1)

-- the earliest of the second is the earliest of both, if nothing is refused of the first
pub earliest_after : {r : Refusal} {a b : List Round} → Nowhere a → Earliest r b → Earliest r (a ++ b)
earliest_after end x = x
earliest_after (not_lone t m) x = past_lone t (earliest_after m x)
earliest_after (not_sweep t m) x = past_sweep t (earliest_after m x)

---- A names section by itself ----

-- the bytes that a file is stand at its start
pub whole_stands : {s xs : List ℕ} → s ≡ xs → Stands s 0 xs
whole_stands {s} e = subst (λ (xs : List ℕ). Stands s 0 xs) e (stands_all s)

module _ (s : List ℕ) where
  -- a good section with nothing behind it is found whole
  pub section_found : {es : List Entry} → GoodNames es → s ≡ names_section es → section_alone s ≡ got es (length (names_section es))
  section_found {es} g e = alone_got s (names_read s g (whole_stands e)) (omega (arith, ap length e))

  -- what becomes of a section, by what it is
  pub data Alone : Ran (List Entry) → Type 0 where
    at_fault : {k p : ℕ} → NamesFault s k p → Alone (bad k p)
    longer : (es : List Entry) → GoodNames es → Stands s 0 (names_section es) → length (names_section es) < length s
        → Alone (bad 21 (length (names_section es)))
    whole : (es : List Entry) → GoodNames es → s ≡ names_section es → Alone (got es (length (names_section es)))

  pub alone : Bytes s → Alone (section_alone s)
  alone b = by (run s 0 names) refl
    where
      by_end : (es : List Entry) (at : ℕ) → run s 0 names ≡ got es at → (length s ≤ at) ⊎ (at < length s) → Alone (section_alone s)
      by_end es at q (inl h) =
          let t = names_stand s b q in
          let d : s ≡ names_section es = stands_whole s (names_section es) t.stands (omega (arith, t.ends)) in
          subst Alone (sym (section_found t.good d)) (whole es t.good d)
      by_end es at q (inr h) =
          let t = names_stand s b q in
          subst Alone (sym (alone_longer s q h ∙ ap (bad 21) t.ends)) (longer es t.good t.stands (omega (arith, t.ends)))

      by : (x : Ran (List Entry)) → run s 0 names ≡ x → Alone (section_alone s)
      by (got es at) q = by_end es at q (le_or_lt (length s) at)
      by (bad n p) q = subst Alone (sym (alone_bad s q)) (at_fault (names_fault s b q))

---- Any order ----

module _ (s : List ℕ) (order : List Entry → List Round) where
  -- each way of a refusal is answered so
  pub named_refused : {k p : ℕ} → NamedRefuses s order k p → named_check s order ≡ Err (refusal_of k p)
  unfolding named_check by_entries
  named_refused (in_section f) = ap (by_entries order) (alone_bad s (names_refused s f))
  named_refused (after_section es g h l) = ap (by_entries order) (alone_longer s (names_read s g h) l)
  named_refused (in_order {k} {p} es g e h) = ap (by_entries order) (section_found s g e) ∙ (earliest_exactly (order es) (refusal_of k p)).1 h

  -- a good section with nothing to refuse in the order is answered so
  pub named_passes : (es : List Entry) → GoodNames es → s ≡ names_section es → Nowhere (order es) → named_check s order ≡ Ok tt
  unfolding named_check by_entries
  named_passes es g e n = ap (by_entries order) (section_found s g e) ∙ (nowhere_exactly (order es)).1 n

  module _ (bytes : Bytes s) where
    -- a refusal is given exactly when one of its ways holds
    pub named_exactly : (k p : ℕ) → (named_check s order ≡ Err (refusal_of k p)) ↔ NamedRefuses s order k p
    unfolding named_check by_entries
    named_exactly k p = (λ e. by (alone s bytes) e, named_refused)
      where
        is : {j q : ℕ} → ◌≡◌ {A = Result ⊤ Refusal} (Err (refusal_of j q)) (Err (refusal_of k p)) → NamedRefuses s order j q → NamedRefuses s order k p
        is e x = subst (λ (r : Refusal). NamedRefuses s order r.number r.place) (same_refusal e) x

        by : {x : Ran (List Entry)} → Alone s x → by_entries order x ≡ Err (refusal_of k p) → NamedRefuses s order k p
        by (at_fault f) e = is e (in_section f)
        by (longer es g h l) e = is e (after_section es g h l)
        by (whole es g d) e = in_order es g d ((earliest_exactly (order es) (refusal_of k p)).0 e)

    -- and nothing is refused exactly of a good section with nothing to refuse in the order
    pub named_fine : (named_check s order ≡ Ok tt) ↔ ((es : List Entry) × GoodNames es × (s ≡ names_section es) × Nowhere (order es))
    unfolding named_check by_entries
    named_fine = (λ e. by (alone s bytes) e, λ x. named_passes x.0 x.1 x.2 x.3)
      where
        by : {x : Ran (List Entry)} → Alone s x → by_entries order x ≡ Ok tt → (es : List Entry) × GoodNames es × (s ≡ names_section es) × Nowhere (order es)
        by (at_fault f) e = fine_not_refused (sym e)
        by (longer es g h l) e = fine_not_refused (sym e)
        by (whole es g d) e = (es, g, d, (nowhere_exactly (order es)).0 e)

  -- no two refusals hold of the same: the number and the place are told by what is lent
  pub named_once : {k p j q : ℕ} → NamedRefuses s order k p → NamedRefuses s order j q → (k ≡ j) × (p ≡ q)
  named_once {k} {p} {j} {q} x y =
      let d : refusal_of k p ≡ refusal_of j q = same_refusal (sym (named_refused x) ∙ named_refused y) in
      (ap (λ (r : Refusal). r.number) d, ap (λ (r : Refusal). r.place) d)

-- an order that is the same for the entries of the section refuses the same
pub named_order : {s : List ℕ} {order other : List Entry → List Round} {k p : ℕ} → ((es : List Entry) → s ≡ names_section es → order es ≡ other es)
    → NamedRefuses s order k p → NamedRefuses s other k p
named_order same (in_section f) = in_section f
named_order same (after_section es g h l) = after_section es g h l
named_order same (in_order {k} {p} es g e h) = in_order es g e (subst (Earliest (refusal_of k p)) (same es e) h)

---- Sets, nodes and records ----

module _ (extent : Extent) (s sets ns rs : List ℕ) (bytes : Bytes s) where
  -- 15 to 18, 21, 1 to 3, 10, 11, 23, 4 to 9, with 22, 12, 13, 19, 20
  pub lists_exactly : (k p : ℕ) → (lists_check extent s sets ns rs ≡ Err (refusal_of k p)) ↔ NamedRefuses s (λ es. lists_order extent (length es) sets ns rs) k p
  unfolding lists_check
  lists_exactly = named_exactly s (λ es. lists_order extent (length es) sets ns rs) bytes

  pub lists_fine : (lists_check extent s sets ns rs ≡ Ok tt) ↔ ((es : List Entry) × GoodNames es × (s ≡ names_section es) × Nowhere (lists_order extent (length es) sets ns rs))
  unfolding lists_check
  lists_fine = named_fine s (λ es. lists_order extent (length es) sets ns rs) bytes
