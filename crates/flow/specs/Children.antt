-- What the conditions 6 to 8 say of each child where they do not hold, and how marks of taken children and the sorts of the nodes passed grow. Assumes nothing.
use Rattle.std.specs.Prelude.{ℕ, suc, ◌+◌, ◌<◌, ◌≡◌, true, ◌&&◌, ◌||◌, List, T, set, replicate, Ok, IfSome}
use Rattle.std.proofs.Math.Path.{refl, ap, ap₂}
use Rattle.std.proofs.Common.{sym, ◌∙◌, subst, ⊎_elim, arith, eq-or-lt_of_le, add-one, length-set, get_or-set_same, get_or-set_other}
use Rattle.std.proofs.Math.Bool.{Bool, false, not, xor, or-true, or-false, or_assoc}
use Rattle.std.specs.Bool.{then_some}
use Rattle.std.proofs.Math.Dec.{eqb, leb}
use Rattle.std.proofs.Math.ListN.{length, get_or}
use Rattle.std.proofs.lemmas.List.{get_or-replicate}
use borrow.Author.Tests.{leb-false, eqb-true, eqb-false}
use Rattle.flow.specs.Tests.{is_true, is_false, neither_one, neither_two, then_false, then_same}
use Rattle.flow.specs.Kinds.{node, form, is_standard, one_of, two_of}
use Rattle.flow.specs.Refusals.{has_one, has_two, not_lower, wrong_sort, child_taken, taken, is_child, count, unknown_kind, wrong_field, node_grounds, nobodys_child, child_grounds}
use Rattle.flow.specs.Checks.{refused, first}
use Rattle.flow.specs.FirstRefusal.{None, more, single_held, single_passed}
use Rattle.flow.specs.Forms.{children, of_child, field_fault, low_fault, sort_fault, taken_fault, with_child, with_children, Within, Marks, Sorts}
pub use Rattle.flow.specs.Fine.{FineNode}

module _ (ns : List ℕ) (i : ℕ) where
  pub lower_one : not_lower ns i ≡ false → T (has_one ns i) → one_of ns i < i
  unfolding not_lower
  lower_one e t = leb-false i (one_of ns i) (then_false (has_one ns i) (leb i (one_of ns i)) (neither_one _ (has_two ns i && leb i (two_of ns i)) e) t)

  pub lower_two : not_lower ns i ≡ false → T (has_two ns i) → two_of ns i < i
  unfolding not_lower
  lower_two e t = leb-false i (two_of ns i) (then_false (has_two ns i) (leb i (two_of ns i)) (neither_two (has_one ns i && leb i (one_of ns i)) _ e) t)

-- a test of a child that a field names or not
tested : (b : Bool) (x : ℕ) (test : ℕ → Bool) → of_child (then_some b x) test ≡ (b && test x)
tested true x test = refl
tested false x test = refl

below : (b : Bool) (x : ℕ) → (T b → x < 64) → IfSome (then_some b x) (λ c. c < 64)
below true x h = h tt
below false x h = tt

module _ (ns : List ℕ) (i : ℕ) where
  -- 5 and 6, read off the fields and the children
  pub field_by_fields : field_fault (form (node ns i)) (one_of ns i) (two_of ns i) ≡ wrong_field ns i
  unfolding wrong_field
  field_by_fields = refl

  pub low_by_fields : low_fault i (children ns i) ≡ not_lower ns i
  unfolding not_lower
  low_by_fields = ap₂ (λ (a b : Bool). a || b) (tested (has_one ns i) (one_of ns i) (leb i)) (tested (has_two ns i) (two_of ns i) (leb i))

  -- lower children are among the nodes
  pub within_by_lower : i < 64 → not_lower ns i ≡ false → Within (children ns i)
  within_by_lower small low = record {
    one = below (has_one ns i) (one_of ns i) (λ t. omega (arith, lower_one ns i low t));
    two = below (has_two ns i) (two_of ns i) (λ t. omega (arith, lower_two ns i low t));
  }

-- a mark is set, or was there
mark_at : (m : List Bool) (h : Bool) (x c : ℕ) → (T h → x < length m) → get_or (with_child m (then_some h x)) c false ≡ (get_or m c false || (h && eqb x c))
mark_at m true x c small = by (eqb x c) refl
  where
    by : (t : Bool) → eqb x c ≡ t → get_or (set m x true) c false ≡ (get_or m c false || t)
    by true e = ap (λ (k : ℕ). get_or (set m x true) k false) (sym (eqb-true x c e)) ∙ get_or-set_same m x true false (small tt) ∙ sym (or-true (get_or m c false))
    by false e = get_or-set_other m x c true false (λ q. eqb-false x c e (sym q)) ∙ sym (or-false (get_or m c false))
mark_at m false x c small = sym (or-false (get_or m c false))

mark_length : (m : List Bool) (h : Bool) (x : ℕ) → length (with_child m (then_some h x)) ≡ length m
mark_length m true x = length-set m x true
mark_length m false x = refl

-- the same child twice, where a second one comes with a first
twice : (a b : Bool) (x y : ℕ) → (T b → T a) → of_child (then_some b y) (λ c. of_child (then_some a x) (λ d. eqb d c)) ≡ (b && eqb x y)
twice true true x y h = refl
twice false true x y h = absurd (h tt)
twice true false x y h = refl
twice false false x y h = refl

two_with_one : (ns : List ℕ) (i : ℕ) → T (has_two ns i) → T (has_one ns i)
two_with_one ns i t = subst (λ (n : ℕ). T (not (eqb n 0))) (sym (eqb-true (form (node ns i)).kids 2 (is_true _ t))) tt

module _ (ns : List ℕ) (i : ℕ) (m : List Bool) (marks : Marks ns i m) (small : i < 64) (low : not_lower ns i ≡ false) where
  -- the marks, with those of node i's children
  pub marks_more : Marks ns (i + 1) (with_children m (children ns i))
  unfolding taken is_child
  marks_more =
      let m₁ = with_child m (then_some (has_one ns i) (one_of ns i)) in
      let l₁ : length m₁ ≡ 64 = mark_length m (has_one ns i) (one_of ns i) ∙ marks.size in
      let at : (c : ℕ) → c < 64 → get_or (with_children m (children ns i)) c false ≡ taken ns (suc i) c
      = λ c h.
      mark_at m₁ (has_two ns i) (two_of ns i) c (λ t. omega (arith, lower_two ns i low t))
      ∙ ap (λ (b : Bool). b || (has_two ns i && eqb (two_of ns i) c))
      (mark_at m (has_one ns i) (one_of ns i) c (λ t. omega (arith, lower_one ns i low t, marks.size))
      ∙ ap (λ (b : Bool). b || (has_one ns i && eqb (one_of ns i) c)) (marks.each c h))
      ∙ or_assoc (taken ns i c) _ _ in
      record { size = mark_length m₁ (has_two ns i) (two_of ns i) ∙ l₁; each = λ c h. at c h ∙ ap (λ (k : ℕ). taken ns k c) (sym (add-one i)) }

  -- 8, read off the marks
  pub taken_by_marks : taken_fault m (children ns i) ≡ child_taken ns i
  unfolding child_taken
  taken_by_marks =
      let one = then_same (has_one ns i) _ _ (λ t. marks.each (one_of ns i) (omega (arith, lower_one ns i low t))) in
      let two = then_same (has_two ns i) _ _ (λ t. marks.each (two_of ns i) (omega (arith, lower_two ns i low t))) in
      (λ z. (tested (has_one ns i) (one_of ns i) (λ c. get_or m c false) ∙ one) z
      || ((tested (has_two ns i) (two_of ns i) (λ c. get_or m c false) ∙ two) z
      || twice (has_one ns i) (has_two ns i) (one_of ns i) (two_of ns i) (two_with_one ns i) z))

module _ (ns : List ℕ) (i : ℕ) (m : List Bool) (sorts : Sorts ns i m) where
  -- the sorts, with that of node i
  pub sorts_more : i < 64 → (b : Bool) → b ≡ is_standard (node ns i) → Sorts ns (i + 1) (set m i b)
  sorts_more small b e = record { size = length-set m i b ∙ sorts.size; each = at }
    where
      at : (c : ℕ) → c < i + 1 → get_or (set m i b) c false ≡ is_standard (node ns c)
      at c h = ⊎_elim
          (λ (q : c ≡ i). ap (λ (k : ℕ). get_or (set m i b) k false) q ∙ get_or-set_same m i b false (omega (arith, sorts.size)) ∙ e ∙ ap (λ (k : ℕ). is_standard (node ns k)) (sym q))
          (λ (l : c < i). get_or-set_other m i c b false (λ q. omega arith) ∙ sorts.each c l)
          (eq-or-lt_of_le (omega arith))

  -- 7, read off the sorts
  pub sort_by_sorts : not_lower ns i ≡ false → sort_fault m (children ns i) (form (node ns i)).inner ≡ wrong_sort ns i
  unfolding wrong_sort
  sort_by_sorts low =
      let wrong : Bool → Bool = λ b. xor b (form (node ns i)).inner in
      let one = then_same (has_one ns i) _ _ (λ t. ap wrong (sorts.each (one_of ns i) (lower_one ns i low t))) in
      let two = then_same (has_two ns i) _ _ (λ t. ap wrong (sorts.each (two_of ns i) (lower_two ns i low t))) in
      ap₂ (λ (a b : Bool). a || b) (tested (has_one ns i) (one_of ns i) (λ c. wrong (get_or m c false)) ∙ one) (tested (has_two ns i) (two_of ns i) (λ c. wrong (get_or m c false)) ∙ two)

-- 9, read off the marks of all nodes
module _ (ns : List ℕ) (m : List Bool) (marks : Marks ns (count ns) m) (i : ℕ) (small : i < 64) where
  nobody_is : nobodys_child ns i ≡ not (get_or m i false)
  unfolding nobodys_child
  nobody_is = ap not (sym (marks.each i small))

  pub nobody_held : get_or m i false ≡ false → first (child_grounds ns i) ≡ refused 9 i
  unfolding child_grounds
  nobody_held e = single_held 9 i (nobodys_child ns i) (nobody_is ∙ ap not e)

  pub nobody_passed : get_or m i false ≡ true → first (child_grounds ns i) ≡ Ok tt
  unfolding child_grounds
  nobody_passed e = single_passed 9 i (nobodys_child ns i) (nobody_is ∙ ap not e)

pub marks_none : (ns : List ℕ) → Marks ns 0 (replicate 64 false)
unfolding taken
marks_none ns = record { size = refl; each = λ c h. get_or-replicate 64 c false false h }

pub sorts_none : (ns : List ℕ) → Sorts ns 0 (replicate 64 false)
sorts_none ns = record { size = refl; each = λ c h. absurd (omega arith) }

pub fine_node : (many : ℕ) (ns : List ℕ) (i : ℕ) → None (node_grounds many ns i) → FineNode ns i
unfolding node_grounds
fine_node many ns i (more a (more s (more b (more c (more d (more e n)))))) = record {
  known = is_false (unknown_kind ns i) a;
  fields = is_false (wrong_field ns i) b;
  lower = is_false (not_lower ns i) c;
  sorts = is_false (wrong_sort ns i) d;
  free = is_false (child_taken ns i) e;
}
