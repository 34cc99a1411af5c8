-- What runs of items of a size come to, a section of them behind its count, and the sets, by the bytes that stand in the file.
-- Assumes nothing.
use Prim.Native.Nat.{ℕ, zero, suc, ◌+◌, ◌*◌, ◌-◌, ◌/◌, ◌≤◌, ◌<◌}
use mathlib.Core.List.{List, [], ◌++◌}
use Rattle.std.specs.Prelude.{Result, Ok, ◌⊎◌, ◌≡◌, refl, drop}
use Rattle.std.proofs.Common.{inl, inr, ◌∙◌, mul-suc, mul-le-mul_left, mul-le-mul_right, add-one, arith, length-drop, drop-drop, length-take-le, take-add}
use Rattle.std.proofs.Math.Path.{ap, ap₂, sym}
use Rattle.std.proofs.Math.Nat.{mul-zero, mul-div_cancel_left}
use Rattle.std.proofs.Math.ListN.{length, take}
use Rattle.flow.specs.declared.Refusal.{Refusal}
use Rattle.flow.specs.Legends.{set_bytes}
use Rattle.format.specs.declared.Got.{Got}
use Rattle.format.specs.declared.Range.{Range}
use Rattle.format.specs.Format.{sets_section}
use Rattle.format.specs.Plan.{Plan, done, ◌>>=◌, Ran, got, bad, run}
use Rattle.format.specs.Plans.{bind_bad, bind_got, item_there, item_cut, ends_here, ends_later}
use Rattle.format.specs.Sections.{number, ranged, sets_count, items, count_by, item_section, joint_sets}
use Rattle.format.specs.Lengths.{sets_length}
use Rattle.format.specs.Items.{found_at, as_item}
use Rattle.format.specs.ItemLaws.{le_or_lt, got_value, got_next, item_got, number_there, ranged_there, got_not_bad}
pub use Rattle.format.specs.There.{ItemsThere, Cut, ItemSectionThere, SetsThere}

---- Runs of items ----

-- one item more
more_items : (size k : ℕ) → size * suc k ≡ size + size * k
more_items size k = mul-suc size k ∙ omega arith

pub item_more : (size i : ℕ) → size * (i + 1) ≡ size * i + size
item_more size i = ap (λ (n : ℕ). size * n) (add-one i) ∙ mul-suc size i

-- each of so many items ends where the last one does, or before
pub item_before : (size : ℕ) {i k : ℕ} → i < k → size * i + size ≤ size * k
item_before size {i} h = omega (arith, mul-suc size i, mul-le-mul_left size h)

module _ (s : List ℕ) (size : ℕ) where
  rest_of : ℕ → List ℕ → Plan (List ℕ)
  rest_of k b = items size k >>= (λ bs. done (b ++ bs))

  items_next : (k at : ℕ) → at + size ≤ length s → run s at (items size (suc k)) ≡ run s (at + size) (rest_of k (take size (drop at s)))
  unfolding items rest_of
  items_next k at h = item_there s at size (rest_of k) h

  pub items_got : (k at : ℕ) → at + size * k ≤ length s → run s at (items size k) ≡ got (take (size * k) (drop at s)) (at + size * k)
  unfolding items rest_of run
  items_got zero at h =
      let z : size * 0 ≡ 0 = mul-zero size in
      ap₂ (λ (n m : ℕ). got (take n (drop at s)) m) (sym z) (omega arith)
  items_got (suc k) at h =
      let m = more_items size k in
      let here : take size (drop at s) ++ take (size * k) (drop (at + size) s) ≡ take (size * suc k) (drop at s) =
      ap (λ (bs : List ℕ). take size (drop at s) ++ take (size * k) bs) (sym (drop-drop size at s))
      ∙ sym (take-add size (size * k) (drop at s)) ∙ ap (λ (n : ℕ). take n (drop at s)) (sym m) in
      items_next k at (omega arith)
      ∙ bind_got s (at + size) (items size k) _ (items_got k (at + size) (omega arith))
      ∙ ap₂ got here (omega arith)

  -- the first items stand whole, and the next one does not
  pub items_stop : (i k at : ℕ) → i < k → at + size * i ≤ length s → length s < at + size * i + size → run s at (items size k) ≡ bad 15 (at + size * i)
  unfolding items rest_of
  items_stop i zero at h l c = absurd (omega arith)
  items_stop zero (suc k) at h l c =
      let z : size * 0 ≡ 0 = mul-zero size in
      item_cut s at size (rest_of k) (omega arith) ∙ ap (bad 15) (omega arith)
  items_stop (suc i) (suc k) at h l c =
      let m = more_items size i in
      items_next k at (omega arith)
      ∙ bind_bad s (at + size) (items size k) _ (items_stop i k (at + size) (omega arith) (omega arith) (omega arith))
      ∙ ap (bad 15) (omega arith)

  -- as many items as there is room for stand whole
  pub items_cut : (k at : ℕ) → at ≤ length s → length s < at + size * k → Cut s size k at
  items_cut zero at l c = let z : size * 0 ≡ 0 = mul-zero size in absurd (omega arith)
  items_cut (suc k) at l c = by (λ l' c'. items_cut k (at + size) l' c') (le_or_lt (at + size) (length s))
    where
      by : (at + size ≤ length s → length s < (at + size) + size * k → Cut s size k (at + size)) → (at + size ≤ length s) ⊎ (length s < at + size) → Cut s size (suc k) at
      by rec (inl h) =
          let r = rec h (omega (arith, more_items size k)) in
          let m = more_items size r.number in
          record { number = suc r.number; before = omega (arith, r.before); inside = omega (arith, r.inside); cut = omega (arith, r.cut) }
      by rec (inr h) =
          let z : size * 0 ≡ 0 = mul-zero size in
          record { number = 0; before = omega arith; inside = omega arith; cut = omega arith }

  pub items_there : (k at : ℕ) {bs : List ℕ} {next : ℕ} → at ≤ length s → run s at (items size k) ≡ got bs next → ItemsThere s size k at bs next
  items_there k at {bs} {next} l e = by (le_or_lt (at + size * k) (length s))
    where
      by : (at + size * k ≤ length s) ⊎ (length s < at + size * k) → ItemsThere s size k at bs next
      by (inl h) = let g = sym e ∙ items_got k at h in record { is = got_value g; ends = got_next g; inside = rw (got_next g) h }
      by (inr h) = let c = items_cut k at l h in got_not_bad e (items_stop c.number k at c.before c.inside c.cut)

  -- they are as many as are wanted
  pub items_item : (k at : ℕ) → 1 ≤ size → at + size * k ≤ length s → Ok (found_at k (at + size * k)) ≡ as_item (count_by size) (run s at (items size k))
  items_item k at some h =
      let sized : length (take (size * k) (drop at s)) ≡ size * k = length-take-le (size * k) (drop at s) (rw length-drop (omega arith)) in
      let many : count_by size (take (size * k) (drop at s)) ≡ k = ap (λ (n : ℕ). n / size) sized ∙ mul-div_cancel_left k some in
      item_got (count_by size) _ (sym many) refl (items_got k at h)

---- A section of items ----

-- of fewer nodes, records or sets there are fewer bytes
pub fewer_items : (size each : ℕ) {n most : ℕ} → n ≤ most → size * (each * most) ≤ 512 → size * (each * n) ≤ 512
fewer_items size each h l = omega (arith, mul-le-mul_left size (mul-le-mul_left each h))

-- and no more items than bytes
pub few_items : (size each : ℕ) {n most : ℕ} → 1 ≤ size → n ≤ most → size * (each * most) ≤ 512 → each * n ≤ 512
few_items size each {n} some h l = omega (arith, fewer_items size each h l, mul-le-mul_right (each * n) some)

module _ (s : List ℕ) (at : ℕ) (g : Range) (size each : ℕ) where
  counted_items : ℕ → Plan (List ℕ)
  counted_items n = items size (each * n)

  pub items_count_bad : {n p : ℕ} → run s at (ranged g number) ≡ bad n p → run s at (item_section g size each) ≡ bad n p
  unfolding item_section counted_items
  items_count_bad e = bind_bad s at (ranged g number) counted_items e

  pub items_from : {v next : ℕ} → run s at (ranged g number) ≡ got v next → run s at (item_section g size each) ≡ run s next (items size (each * v))
  unfolding item_section counted_items
  items_from e = bind_got s at (ranged g number) counted_items e

  -- the answer of the items is that of the section
  pub items_answer : {i : Result Got Refusal} {v next : ℕ} → run s at (ranged g number) ≡ got v next → i ≡ as_item (count_by size) (run s next (items size (each * v)))
      → i ≡ as_item (count_by size) (run s at (item_section g size each))
  items_answer e h = h ∙ ap (as_item (count_by size)) (sym (items_from e))

  pub item_section_there : {bs : List ℕ} {next : ℕ} → run s at (item_section g size each) ≡ got bs next → ItemSectionThere s at g size each bs next
  item_section_there {bs} {next} e = by (run s at (ranged g number)) refl
    where
      by : (x : Ran ℕ) → run s at (ranged g number) ≡ x → ItemSectionThere s at g size each bs next
      by (got v m) a =
          let t = ranged_there s at g number a in
          let u = number_there s at t.read in
          let c = items_there s size (each * v) m (omega (arith, u.ends, u.inside)) (sym (items_from a) ∙ e) in
          let is : bs ≡ take (size * (each * v)) (drop (at + 2) s) = c.is ∙ ap (λ (n : ℕ). take (size * (each * v)) (drop n s)) u.ends in
          let room : size * (each * v) ≤ length (drop (at + 2) s) = rw length-drop (omega (arith, c.ends, c.inside, u.ends)) in
          record {
            n = v;
            counted = u.is;
            low = t.low;
            high = t.high;
            is = is;
            sized = ap length is ∙ length-take-le (size * (each * v)) (drop (at + 2) s) room;
            ends = c.ends ∙ ap (λ (k : ℕ). k + size * (each * v)) u.ends;
            inside = c.inside;
          }
      by (bad k p) a = got_not_bad e (items_count_bad a)

---- Sets ----

module _ (s : List ℕ) (at : ℕ) where
  pub sets_none : length s ≤ at → run s at joint_sets ≡ got [] at
  unfolding joint_sets run
  sets_none h = ends_here s at (done []) (item_section sets_count set_bytes 1) h

  pub sets_some : at < length s → run s at joint_sets ≡ run s at (item_section sets_count set_bytes 1)
  unfolding joint_sets
  sets_some h = ends_later s at (done []) (item_section sets_count set_bytes 1) h

  pub sets_there : {sets : List ℕ} {next : ℕ} → at ≤ length s → run s at joint_sets ≡ got sets next → SetsThere s at sets next
  sets_there {sets} {next} l e = by (le_or_lt (length s) at)
    where
      by : (length s ≤ at) ⊎ (at < length s) → SetsThere s at sets next
      by (inl h) =
          let g = sym e ∙ sets_none h in
          record { n = 0; few = omega arith; is = got_value g; sized = ap length (got_value g); from = omega (arith, got_next g); near = omega (arith, got_next g); inside = omega (arith, got_next g) }
      by (inr h) =
          let t = item_section_there s at sets_count set_bytes 1 (sym (sets_some h) ∙ e) in
          let size : 32 * (1 * t.n) ≡ 32 * t.n = omega arith in
          let start : at + 2 ≡ next - 32 * t.n = omega (arith, t.ends) in
          record {
            n = t.n;
            few = t.high;
            is = t.is ∙ ap₂ (λ (k m : ℕ). take k (drop m s)) size start;
            sized = t.sized ∙ size;
            from = omega (arith, t.ends);
            near = omega (arith, t.ends, t.high);
            inside = t.inside;
          }

  pub sets_end : {sets : List ℕ} {next : ℕ} → run s at joint_sets ≡ got sets next → next ≡ at + length (sets_section sets)
  unfolding sets_section
  sets_end {sets} {next} e = by (le_or_lt (length s) at)
    where
      by : (length s ≤ at) ⊎ (at < length s) → next ≡ at + length (sets_section sets)
      by (inl h) =
          let g = sym e ∙ sets_none h in
          let z : length (sets_section sets) ≡ 0 = ap (λ (xs : List ℕ). length (sets_section xs)) (got_value g) in
          omega (arith, got_next g)
      by (inr h) =
          let t = item_section_there s at sets_count set_bytes 1 (sym (sets_some h) ∙ e) in
          omega (arith, t.ends, t.sized, sets_length sets (omega (arith, t.sized, t.low)))
