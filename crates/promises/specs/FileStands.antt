-- Bytes that stand at an offset: split and joined, and read as items, numbers, names and entries. Each piece of the format is read
-- back as what it encodes, and what is read is a piece of the format. Assumes nothing.
use Prim.Native.Nat.{ℕ, suc, ◌+◌, ◌/◌, ◌%◌, ◌≤◌, ◌<◌}
use mathlib.Core.List.{List, [], ◌∷◌, ◌++◌, append_assoc, append-nil}
use Rattle.std.specs.Prelude.{◌⊎◌, ◌≡◌, refl}
use Rattle.std.proofs.Common.{inl, inr, ◌∙◌, subst, add-zero, add-one, length-drop, take-append-drop, take_at, drop_at, drop-drop, get_or-drop, length-take-le}
use Rattle.std.proofs.Math.Path.{ap, ap₂, sym}
use native.Mathlib.Omega.{arith}
use Rattle.std.proofs.Math.ListN.{length, get_or, take, drop, length-append, get_or-append, get_or-eq_default}
use Rattle.std.proofs.Math.Seq.{drop-cons, drop-length}
use Rattle.format.specs.declared.Range.{Range}
use Rattle.format.specs.Format.{number_bytes, Entry, name_bytes, entry_bytes}
use Rattle.format.specs.Plan.{got, run}
use Rattle.format.specs.Sections.{number, step_length, machine_length, name, entry}
use Rattle.format.specs.Limits.{InRange, GoodEntry, Bytes, Stands}
use Rattle.format.specs.Items.{number_at, name_at, name_end}
use Rattle.format.specs.ItemLaws.{le_or_lt, number_got, NumberThere, name_got, NameThere, name_there, name_length, entry_got, entry_runs}

---- Split and joined ----

module _ (s : List ℕ) where
  pub stands_nil : {at : ℕ} → at ≤ length s → Stands s at []
  stands_nil {at} h = let e : at ≡ at + 0 = omega arith in record { begins = ap (λ (n : ℕ). drop n s) e; inside = omega arith }

  pub stands_all : Stands s 0 s
  stands_all =
      let e : length s ≡ 0 + length s = omega arith in
      record { begins = sym (append-nil s) ∙ ap (λ (xs : List ℕ). s ++ xs) (sym (drop-length s) ∙ ap (λ (n : ℕ). drop n s) e); inside = omega arith }

  pub stands_left : (at : ℕ) (xs ys : List ℕ) → Stands s at (xs ++ ys) → Stands s at xs
  stands_left at xs ys h =
      let l = length-append xs ys in
      let rest : drop (at + length xs) s ≡ ys ++ drop (at + length (xs ++ ys)) s =
      sym (drop-drop (length xs) at s) ∙ ap (drop (length xs)) (h.begins ∙ append_assoc xs ys _) ∙ drop_at xs _ (length xs) refl in
      record { begins = h.begins ∙ append_assoc xs ys _ ∙ ap (λ (zs : List ℕ). xs ++ zs) (sym rest); inside = omega (arith, h.inside) }

  pub stands_right : (at : ℕ) (xs ys : List ℕ) → Stands s at (xs ++ ys) → Stands s (at + length xs) ys
  stands_right at xs ys h =
      let l : at + length (xs ++ ys) ≡ (at + length xs) + length ys = omega (arith, length-append xs ys) in
      record {
        begins =
            sym (drop-drop (length xs) at s) ∙ ap (drop (length xs)) (h.begins ∙ append_assoc xs ys _) ∙ drop_at xs _ (length xs) refl
            ∙ ap (λ (n : ℕ). ys ++ drop n s) l;
        inside = omega (arith, h.inside);
      }

  pub stands_join : (at : ℕ) (xs ys : List ℕ) {next : ℕ} → next ≡ at + length xs → Stands s at xs → Stands s next ys → Stands s at (xs ++ ys)
  stands_join at xs ys {next} e h k =
      let l : next + length ys ≡ at + length (xs ++ ys) = omega (arith, length-append xs ys) in
      record {
        begins =
            h.begins ∙ ap (λ (n : ℕ). xs ++ drop n s) (sym e) ∙ ap (λ (zs : List ℕ). xs ++ zs) (k.begins ∙ ap (λ (n : ℕ). ys ++ drop n s) l)
            ∙ sym (append_assoc xs ys _);
        inside = omega (arith, k.inside, length-append xs ys);
      }

  pub stands_move : {at to : ℕ} (xs : List ℕ) → at ≡ to → Stands s at xs → Stands s to xs
  stands_move xs e h = subst (λ (n : ℕ). Stands s n xs) e h

  -- the bytes themselves
  pub stands_take : (at : ℕ) (xs : List ℕ) → Stands s at xs → take (length xs) (drop at s) ≡ xs
  stands_take at xs h = ap (take (length xs)) h.begins ∙ take_at xs _ (length xs) refl

  -- so many bytes that are there
  pub taken_stands : (at k : ℕ) → at + k ≤ length s → Stands s at (take k (drop at s))
  taken_stands at k h =
      let l : length (take k (drop at s)) ≡ k = length-take-le k (drop at s) (rw length-drop (omega arith)) in
      record {
        begins =
            sym (take-append-drop k (drop at s))
            ∙ ap (λ (ys : List ℕ). take k (drop at s) ++ ys) (drop-drop k at s ∙ ap (λ (n : ℕ). drop (at + n) s) (sym l));
        inside = omega arith;
      }

  -- they are bytes, as those of the file are
  pub stands_bytes : Bytes s → (at : ℕ) (xs : List ℕ) → Stands s at xs → Bytes xs
  stands_bytes b at xs h i = by (le_or_lt (length xs) i)
    where
      by : (length xs ≤ i) ⊎ (i < length xs) → get_or xs i 0 < 256
      by (inl l) = omega (arith, get_or-eq_default xs 0 l)
      by (inr l) =
          let e : get_or xs i 0 ≡ get_or s (at + i) 0 =
          sym (get_or-append xs _ 0 i l) ∙ ap (λ (ys : List ℕ). get_or ys i 0) (sym h.begins) ∙ get_or-drop at s i 0 in
          omega (arith, b (at + i))

  pub stands_head : (at x : ℕ) (xs : List ℕ) → Stands s at (x ∷ xs) → get_or s at 0 ≡ x
  stands_head at x xs h =
      ap (λ (n : ℕ). get_or s n 0) (sym (add-zero at)) ∙ sym (get_or-drop at s 0 0) ∙ ap (λ (ys : List ℕ). get_or ys 0 0) h.begins

  pub stands_tail : (at x : ℕ) (xs : List ℕ) → Stands s at (x ∷ xs) → Stands s (at + 1) xs
  stands_tail at x xs h = stands_right at (x ∷ []) xs h

  ---- Numbers ----

  pub number_reads : (at v : ℕ) → Stands s at (number_bytes v) → run s at number ≡ got v (at + 2)
  unfolding number_bytes
  number_reads at v h =
      let a = stands_head at (v % 256) (v / 256 ∷ []) h in
      let b = stands_head (at + 1) (v / 256) [] (stands_tail at (v % 256) (v / 256 ∷ []) h) in
      let e : number_at s at ≡ v = omega (arith, a, b) in
      number_got s at h.inside ∙ ap (λ (n : ℕ). got n (at + 2)) e

  pub number_stands : Bytes s → (at v next : ℕ) → NumberThere s at v next → Stands s at (number_bytes v)
  unfolding number_bytes
  number_stands b at v next t =
      let lo : v % 256 ≡ get_or s at 0 = omega (arith, t.is, b at, b (at + 1)) in
      let hi : v / 256 ≡ get_or s (at + 1) 0 = omega (arith, t.is, b at, b (at + 1)) in
      let e : suc (at + 1) ≡ at + 2 = omega arith in
      let two : drop at s ≡ get_or s at 0 ∷ (get_or s (at + 1) 0 ∷ drop (at + 2) s) =
      drop-cons s at 0 (omega (arith, t.inside))
      ∙ ap (λ (n : ℕ). get_or s at 0 ∷ drop n s) (sym (add-one at))
      ∙ ap (λ (xs : List ℕ). get_or s at 0 ∷ xs) (drop-cons s (at + 1) 0 (omega (arith, t.inside)) ∙ ap (λ (n : ℕ). get_or s (at + 1) 0 ∷ drop n s) e) in
      record { begins = two ∙ ap₂ (λ (x y : ℕ). x ∷ (y ∷ drop (at + 2) s)) (sym lo) (sym hi); inside = t.inside }

  ---- Names and entries ----

  pub name_reads : (at : ℕ) (g : Range) (n : List ℕ) → InRange g (length n) → Stands s at (name_bytes n) → run s at (name g) ≡ got n (at + length (name_bytes n))
  unfolding name_bytes
  name_reads at g n r h =
      let e : get_or s at 0 ≡ length n = stands_head at (length n) n h in
      let b : name_at s at ≡ n = ap (λ (k : ℕ). take k (drop (at + 1) s)) e ∙ stands_take (at + 1) n (stands_tail at (length n) n h) in
      name_got s at g (omega (arith, r.low)) (omega (arith, r.high)) (omega (arith, h.inside))
      ∙ ap₂ got b (omega arith)

  -- a name that was read: its length, and where it stands
  pub name_sized : (at : ℕ) (g : Range) {n : List ℕ} {next : ℕ} → NameThere s at g n next → length n ≡ get_or s at 0
  name_sized at g t = ap length t.bytes ∙ name_length s at t.inside

  pub name_in_range : (at : ℕ) (g : Range) {n : List ℕ} {next : ℕ} → NameThere s at g n next → InRange g (length n)
  name_in_range at g t = let l = name_sized at g t in record { low = omega (arith, t.low); high = omega (arith, t.high) }

  pub name_stands : (at : ℕ) (g : Range) {n : List ℕ} {next : ℕ} → NameThere s at g n next → Stands s at (name_bytes n)
  unfolding name_bytes
  name_stands at g {n} {next} t =
      let l : length n ≡ get_or s at 0 = name_sized at g t in
      let e : name_end s at ≡ at + length (length n ∷ n) = omega arith in
      let tail : drop (at + 1) s ≡ n ++ drop (name_end s at) s =
      sym (take-append-drop (get_or s at 0) (drop (at + 1) s)) ∙ ap₂ ◌++◌ (sym t.bytes) (drop-drop (get_or s at 0) (at + 1) s) in
      record {
        begins =
            drop-cons s at 0 (omega (arith, t.inside)) ∙ ap (λ (k : ℕ). get_or s at 0 ∷ drop k s) (sym (add-one at))
            ∙ ap₂ (λ (x : ℕ) (xs : List ℕ). x ∷ xs) (sym l) (tail ∙ ap (λ (k : ℕ). n ++ drop k s) e);
        inside = omega (arith, t.inside);
      }

  -- and its end is that of its bytes
  pub name_ends : (at : ℕ) (g : Range) {n : List ℕ} {next : ℕ} → NameThere s at g n next → next ≡ at + length (name_bytes n)
  unfolding name_bytes
  name_ends at g t = let l = name_sized at g t in omega (arith, t.ends)

  pub entry_reads : (at : ℕ) (e : Entry) → GoodEntry e → Stands s at (entry_bytes e) → run s at entry ≡ got e (at + length (entry_bytes e))
  unfolding entry_bytes
  entry_reads at e g h =
      let a = name_reads at step_length e.step g.step_good (stands_left at (name_bytes e.step) (name_bytes e.machine) h) in
      let b = name_reads (at + length (name_bytes e.step)) machine_length e.machine g.machine_good
      (stands_right at (name_bytes e.step) (name_bytes e.machine) h) in
      entry_got s at a b ∙ ap (got e) (omega (arith, length-append (name_bytes e.step) (name_bytes e.machine)))

  -- what an entry that was read is in the format
  pub record EntryStands (at : ℕ) (e : Entry) (next : ℕ) : Type 0 where
    pub good : GoodEntry e
    pub stands : Stands s at (entry_bytes e)
    pub ends : next ≡ at + length (entry_bytes e)

  pub entry_stands : (at : ℕ) {e : Entry} {next : ℕ} → run s at entry ≡ got e next → EntryStands at e next
  unfolding entry_bytes
  entry_stands at {e} {next} h =
      let r = entry_runs s at h in
      let u = name_there s at step_length r.step_run in
      let v = name_there s r.mid machine_length r.machine_run in
      let m = name_ends at step_length u in
      record {
        good = record { step_good = name_in_range at step_length u; machine_good = name_in_range r.mid machine_length v };
        stands = stands_join at (name_bytes e.step) (name_bytes e.machine) m (name_stands at step_length u) (name_stands r.mid machine_length v);
        ends = omega (arith, m, name_ends r.mid machine_length v, length-append (name_bytes e.step) (name_bytes e.machine));
      }
