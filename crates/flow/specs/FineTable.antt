-- What is known of a table that is not refused: how many nodes it has, that children are lower and of the right sort, that each
-- node but the last is a child exactly once; so the table is a tree. Assumes nothing.
use Prim.Native.Nat.{ℕ, zero, suc, ◌+◌, ◌-◌, ◌%◌, ◌<◌, ◌≤◌}
use Rattle.std.specs.Prelude.{◌≡◌, not, ◌&&◌, ◌||◌, List, ◌≢◌, ltb, length, Ok}
use Rattle.std.proofs.Math.Path.{refl, ap}
use Rattle.std.proofs.Common.{sym, ◌∙◌, subst, eqb→eq}
use Rattle.std.proofs.Math.Bool.{Bool, true, false, xor}
use native.Mathlib.Omega.{arith}
use Rattle.std.proofs.Math.Dec.{T, eqb, eqb_refl}
use Rattle.std.proofs.Math.ListN.{get_or-eq_default}
use borrow.Author.Tests.{eqb-true, eqb-false, ltb-true, ltb-false, not-false}
use Rattle.calculus.proofs.Members.{or_in_left, or_in_right, and_in, and_left, and_right}
use Rattle.flow.specs.Shapes.{Kid, kid1, kid2}
use Rattle.flow.specs.Trees.{Tree}
use Rattle.flow.specs.declared.Node.{Node}
use Rattle.flow.specs.declared.Node.TheVariants.{Unknown}
use Rattle.flow.specs.Kinds.{node_of, form, node, one_of, two_of, shape, is_standard}
use Rattle.flow.specs.Legends.{set_count}
use Rattle.flow.specs.Refusals.{count, has_one, has_two, no_nodes, not_whole, too_many_nodes, wrong_sort, child_taken, nobodys_child, is_child, taken, node_grounds, child_grounds, table_order}
use Rattle.flow.specs.Checks.{each, grounds, table_check}
use Rattle.flow.specs.Tests.{is_false, not_both, neither_one, neither_two, then_false, same_of_xor}
use Rattle.flow.specs.FirstRefusal.{None, more, fine_exactly, none_append, none_each}
use Rattle.flow.specs.Children.{fine_node, lower_one, lower_two}
pub use Rattle.flow.specs.Fine.{FineTable}

module _ (ns : List ℕ) where
  pub fine_child : (i : ℕ) → None (child_grounds ns i) → nobodys_child ns i ≡ false
  unfolding child_grounds
  fine_child i (more t n) = is_false (nobodys_child ns i) t

  -- of 22 and 23 nothing has to be known
  parts_fine : (sets : List ℕ) → None (grounds (table_order sets ns)) → FineTable ns
  unfolding no_nodes not_whole too_many_nodes
  parts_fine sets (more a (more b (more c (more d n)))) =
      let m = none_append (each (node_grounds (set_count sets) ns) 0 (count ns)) (each (child_grounds ns) 0 (count ns - 1)) n in
      let na = eqb-false (length ns) 0 (is_false (no_nodes ns) a) in
      let nb = eqb-true (length ns % 3) 0 (not-false (eqb (length ns % 3) 0) (is_false (not_whole ns) b)) in
      let nc = ltb-false 64 (count ns) (is_false (too_many_nodes ns) c) in
      record {
        some = omega (arith, na, nb);
        few = nc;
        whole = omega (arith, nb);
        node = λ i h. fine_node (set_count sets) ns i (none_each (node_grounds (set_count sets) ns) 0 (count ns) i m.0 (omega arith) (omega arith));
        child = λ i h. fine_child i (none_each (child_grounds ns) 0 (count ns - 1) i m.1 (omega arith) (omega arith));
      }

  pub fine_table : (sets : List ℕ) → table_check sets ns ≡ Ok tt → FineTable ns
  unfolding table_check
  fine_table sets e = parts_fine sets ((fine_exactly (grounds (table_order sets ns))).0 e)

---- Children ----

module _ (ns : List ℕ) where
  kid_child : (j c : ℕ) → Kid (shape ns) j c → T (is_child ns j c)
  unfolding is_child
  kid_child j c (kid1 t e) =
      or_in_left (has_one ns j && eqb (one_of ns j) c) (has_two ns j && eqb (two_of ns j) c)
      (and_in (has_one ns j) (eqb (one_of ns j) c) t (subst (λ (x : ℕ). T (eqb (one_of ns j) x)) (sym e) (eqb_refl (one_of ns j))))
  kid_child j c (kid2 t e) =
      or_in_right (has_one ns j && eqb (one_of ns j) c) (has_two ns j && eqb (two_of ns j) c)
      (and_in (has_two ns j) (eqb (two_of ns j) c) t (subst (λ (x : ℕ). T (eqb (two_of ns j) x)) (sym e) (eqb_refl (two_of ns j))))

  -- a child of a node below n is taken
  pub kid_taken : (n j c : ℕ) → j < n → Kid (shape ns) j c → T (taken ns n c)
  unfolding taken
  kid_taken zero j c h k = absurd (omega arith)
  kid_taken (suc n) j c h k = by (eqb j n) refl (λ l. kid_taken n j c l k)
    where
      by : (b : Bool) → eqb j n ≡ b → (j < n → T (taken ns n c)) → T (taken ns n c || is_child ns n c)
      by true e rec = or_in_right (taken ns n c) (is_child ns n c) (subst (λ (x : ℕ). T (is_child ns x c)) (eqb-true j n e) (kid_child j c k))
      by false e rec = or_in_left (taken ns n c) (is_child ns n c) (rec (omega (arith, eqb-false j n e)))

  child_kid : (j c : ℕ) → T (is_child ns j c) → Kid (shape ns) j c
  unfolding is_child
  child_kid j c t = by (has_one ns j) refl (eqb (one_of ns j) c) refl t
    where
      two : T (has_two ns j && eqb (two_of ns j) c) → Kid (shape ns) j c
      two t = kid2 (and_left (has_two ns j) (eqb (two_of ns j) c) t) (sym (eqb→eq (two_of ns j) c (and_right (has_two ns j) (eqb (two_of ns j) c) t)))

      by : (a : Bool) → has_one ns j ≡ a → (b : Bool) → eqb (one_of ns j) c ≡ b → T ((a && b) || (has_two ns j && eqb (two_of ns j) c)) → Kid (shape ns) j c
      by true p true q t = kid1 (subst T (sym p) tt) (sym (eqb-true (one_of ns j) c q))
      by true p false q t = two t
      by false p b q t = two t

  -- a taken node has a parent
  pub taken_kid : (n c : ℕ) → T (taken ns n c) → (j : ℕ) × (j < n) × Kid (shape ns) j c
  unfolding taken
  taken_kid zero c t = absurd t
  taken_kid (suc n) c t = by (taken ns n c) refl (taken_kid n c) t
    where
      by : (b : Bool) → taken ns n c ≡ b → (T (taken ns n c) → (j : ℕ) × (j < n) × Kid (shape ns) j c) → T (b || is_child ns n c) → (j : ℕ) × (j < suc n) × Kid (shape ns) j c
      by true e rec t = let r = rec (subst T (sym e) tt) in (r.0, omega (arith, r.1), r.2)
      by false e rec t = (n, omega arith, child_kid n c t)

---- The tree ----

module _ (ns : List ℕ) (fine : FineTable ns) where
  -- behind the last node there is nothing
  beyond : (i : ℕ) → count ns ≤ i → node ns i ≡ Unknown
  beyond i h = ap (λ (k : ℕ). node_of k (one_of ns i) (two_of ns i)) (get_or-eq_default ns 0 (omega (arith, fine.whole)))

  two_means_one : (i : ℕ) → T (has_two ns i) → T (has_one ns i)
  two_means_one i t = subst (λ (n : ℕ). T (not (eqb n 0))) (sym (eqb→eq (form (node ns i)).kids 2 t)) tt

  -- a node is one of the table's if something holds of it that does not hold of an unknown one
  pub node_within : (P : Node → Type 0) → (P Unknown → ⊥) → (i : ℕ) → P (node ns i) → i < count ns
  node_within P none i h = by (ltb i (count ns)) refl
    where
      by : (b : Bool) → ltb i (count ns) ≡ b → i < count ns
      by true e = ltb-true i (count ns) e
      by false e = absurd (none (subst P (beyond i (ltb-false i (count ns) e)) h))

  -- so a node with a child
  parent_within : (i : ℕ) → T (has_one ns i) → i < count ns
  parent_within = node_within (λ (n : Node). T (not (eqb (form n).kids 0))) (λ t. t)

  -- 6
  pub kid_lower : (i c : ℕ) → Kid (shape ns) i c → c < i
  kid_lower i c (kid1 t e) = omega (arith, e, lower_one ns i (fine.node i (parent_within i t)).lower t)
  kid_lower i c (kid2 t e) = omega (arith, e, lower_two ns i (fine.node i (parent_within i (two_means_one i t))).lower t)

  -- 7
  pub sort_one : (i : ℕ) → T (has_one ns i) → is_standard (node ns (one_of ns i)) ≡ (form (node ns i)).inner
  unfolding wrong_sort
  sort_one i t =
      let w : ℕ → Bool = λ c. xor (is_standard (node ns c)) (form (node ns i)).inner in
      same_of_xor _ _ (then_false (has_one ns i) (w (one_of ns i)) (neither_one _ (has_two ns i && w (two_of ns i)) (fine.node i (parent_within i t)).sorts) t)

  pub sort_two : (i : ℕ) → T (has_two ns i) → is_standard (node ns (two_of ns i)) ≡ (form (node ns i)).inner
  unfolding wrong_sort
  sort_two i t =
      let w : ℕ → Bool = λ c. xor (is_standard (node ns c)) (form (node ns i)).inner in
      same_of_xor _ _ (then_false (has_two ns i) (w (two_of ns i)) (neither_two (has_one ns i && w (one_of ns i)) _ (fine.node i (parent_within i (two_means_one i t))).sorts) t)

  pub kid_sort : (i c : ℕ) → Kid (shape ns) i c → is_standard (node ns c) ≡ (form (node ns i)).inner
  kid_sort i c (kid1 t e) = ap (λ (x : ℕ). is_standard (node ns x)) e ∙ sort_one i t
  kid_sort i c (kid2 t e) = ap (λ (x : ℕ). is_standard (node ns x)) e ∙ sort_two i t

  -- 8: not taken before
  kid_free : (i c : ℕ) → Kid (shape ns) i c → taken ns i c ≡ false
  unfolding child_taken
  kid_free i c (kid1 t e) =
      let f = (fine.node i (parent_within i t)).free in
      ap (taken ns i) e ∙ then_false (has_one ns i) (taken ns i (one_of ns i)) (neither_one _ ((has_two ns i && taken ns i (two_of ns i)) || (has_two ns i && eqb (one_of ns i) (two_of ns i))) f) t
  kid_free i c (kid2 t e) =
      let f = (fine.node i (parent_within i (two_means_one i t))).free in
      let g = neither_two (has_one ns i && taken ns i (one_of ns i)) ((has_two ns i && taken ns i (two_of ns i)) || (has_two ns i && eqb (one_of ns i) (two_of ns i))) f in
      ap (taken ns i) e ∙ then_false (has_two ns i) (taken ns i (two_of ns i)) (neither_one _ (has_two ns i && eqb (one_of ns i) (two_of ns i)) g) t

  not_again : (i j c : ℕ) → i < j → Kid (shape ns) i c → Kid (shape ns) j c → ⊥
  not_again i j c h k l = not_both (kid_free j c l) (kid_taken ns j i c h k)

  kid_once : (i j c : ℕ) → Kid (shape ns) i c → Kid (shape ns) j c → i ≡ j
  kid_once i j c k l = by (ltb i j) refl (ltb j i) refl
    where
      by : (a : Bool) → ltb i j ≡ a → (b : Bool) → ltb j i ≡ b → i ≡ j
      by true p b q = absurd (not_again i j c (ltb-true i j p) k l)
      by false p true q = absurd (not_again j i c (ltb-true j i q) l k)
      by false p false q = omega (arith, ltb-false i j p, ltb-false j i q)

  -- 8: not twice
  kids_apart : (i : ℕ) → T (has_one ns i) → T (has_two ns i) → one_of ns i ≢ two_of ns i
  unfolding child_taken
  kids_apart i t u =
      let f = (fine.node i (parent_within i t)).free in
      let g = neither_two (has_one ns i && taken ns i (one_of ns i)) ((has_two ns i && taken ns i (two_of ns i)) || (has_two ns i && eqb (one_of ns i) (two_of ns i))) f in
      eqb-false (one_of ns i) (two_of ns i) (then_false (has_two ns i) (eqb (one_of ns i) (two_of ns i)) (neither_two (has_two ns i && taken ns i (two_of ns i)) _ g) u)

  -- a table that is not refused is a tree
  pub fine_tree : Tree (shape ns)
  fine_tree = record { lower = kid_lower; once = kid_once; apart = kids_apart }

  -- 9: "each node but the last is a child"
  pub fine_parent : (c : ℕ) → c + 1 < count ns → (i : ℕ) × (i < count ns) × Kid (shape ns) i c
  unfolding nobodys_child
  fine_parent c h = taken_kid ns (count ns) c (subst T (sym (not-false (taken ns (count ns) c) (fine.child c h))) tt)
