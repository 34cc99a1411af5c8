-- A table that is not refused means exactly one flow, by whatever legend, standard or compensable as its last node's kind
-- is. Assumes nothing.
use Rattle.std.specs.Prelude.{ℕ, zero, suc, ◌<◌, ◌≡◌, Bool, true, false, List}
use Rattle.std.proofs.Math.Path.{refl, ap}
use Rattle.std.proofs.Common.{sym, ◌∙◌, subst, arith}
use Rattle.std.proofs.Math.Dec.{T}
use Rattle.std.proofs.lemmas.Bool.{not-false}
use Rattle.calculus.specs.Term.{Std, Cmp, blk}
use Rattle.calculus.specs.Records.{State, over, std, cmp}
use Rattle.flow.specs.Shapes.{Kid}
use Rattle.flow.specs.Trees.{Tree, below}
use Rattle.flow.specs.Nodes.{below_is, descend_is}
use Rattle.flow.specs.declared.Node.{Node}
use Rattle.flow.specs.declared.Node.TheVariants.{Event, Basic, Standard, Handler, Block, Pair, Compensable, Paired, Unknown}
use Rattle.flow.specs.Kinds.{form, node, shape, is_standard}
use Rattle.flow.specs.NodeChildren.{one_kid, two_kids}
use Rattle.flow.specs.Refusals.{count, root, unknown_kind}
use Rattle.flow.specs.Legends.{Legend}
use Rattle.flow.specs.Draws.{Draws, at_event, at_basic, at_standard, at_handler, at_block, at_pair, at_compensable, at_paired}
use Rattle.flow.specs.Drawn.{made, drawn, flow_by}
use Rattle.flow.specs.FineTable.{FineTable, fine_tree, kid_lower, kid_sort}
pub use Rattle.flow.specs.Fine.{Drawing, standard_part, compensable_part}

---- What is drawn is what the function says ----

module _ (legend : Legend) (ns : List ℕ) (tree : Tree (shape ns)) where
  -- by what its children draw
  drawn_at : (i : ℕ) {n : Node} → node ns i ≡ n → drawn legend ns i ≡ made legend n (below over i (drawn legend ns))
  unfolding drawn
  drawn_at i e = descend_is over (λ j at. made legend (node ns j) at) i ∙ ap (λ z. made legend z (below over i (drawn legend ns))) e

  child_draws : {i c : ℕ} {s : State} → Kid (shape ns) i c → drawn legend ns c ≡ s → below over i (drawn legend ns) c ≡ s
  child_draws {i} {c} k d = below_is over i (drawn legend ns) c (tree.lower i c k) ∙ d

  drawn_is : {i : ℕ} {s : State} → Draws legend ns i s → drawn legend ns i ≡ s
  unfolding made
  drawn_is (at_event {i} e) = drawn_at i e
  drawn_is (at_basic {i} e) = drawn_at i e
  drawn_is (at_standard {i} {o} {t} e d d') = let k = two_kids ns i e t refl in drawn_at i e ∙ rw (child_draws k.0 (drawn_is d), child_draws k.1 (drawn_is d')) refl
  drawn_is (at_handler {i} {t} e d d') = let k = two_kids ns i e t refl in drawn_at i e ∙ rw (child_draws k.0 (drawn_is d), child_draws k.1 (drawn_is d')) refl
  drawn_is (at_block {i} {c} e d) = drawn_at i e ∙ rw (child_draws (one_kid ns i e c refl) (drawn_is d)) refl
  drawn_is (at_pair {i} {t} e d d') = let k = two_kids ns i e t refl in drawn_at i e ∙ rw (child_draws k.0 (drawn_is d), child_draws k.1 (drawn_is d')) refl
  drawn_is (at_compensable {i} {o} {t} e d d') = let k = two_kids ns i e t refl in drawn_at i e ∙ rw (child_draws k.0 (drawn_is d), child_draws k.1 (drawn_is d')) refl
  drawn_is (at_paired {i} e) = drawn_at i e

---- Every node of a table that is not refused draws a part ----

module _ (legend : Legend) (ns : List ℕ) (fine : FineTable ns) where
  module _ (i : ℕ) (within : i < count ns) (rec : (c : ℕ) → c < i → Drawing legend ns c (is_standard (node ns c))) where
    -- what a child draws is of the sort that the node asks for
    kid_part : (n : Node) → node ns i ≡ n → (c : ℕ) → Kid (shape ns) i c → Drawing legend ns c (form n).inner
    kid_part n e c k = subst (Drawing legend ns c) (kid_sort ns fine i c k ∙ ap (λ z. (form z).inner) e) (rec c (kid_lower ns fine i c k))

    both_std : {b : Bool} (c d : ℕ) → ((p q : Std) → Draws legend ns c (std p) → Draws legend ns d (std q) → Drawing legend ns i b) → Drawing legend ns c true → Drawing legend ns d true → Drawing legend ns i b
    both_std c d make (standard_part p x) (standard_part q y) = make p q x y

    both_cmp : {b : Bool} (c d : ℕ) → ((pp qq : Cmp) → Draws legend ns c (cmp pp) → Draws legend ns d (cmp qq) → Drawing legend ns i b) → Drawing legend ns c false → Drawing legend ns d false → Drawing legend ns i b
    both_cmp c d make (compensable_part pp x) (compensable_part qq y) = make pp qq x y

    the_block : {c : ℕ} → node ns i ≡ Block c → Drawing legend ns c false → Drawing legend ns i true
    the_block e (compensable_part pp d) = standard_part (blk pp) (at_block e d)

    node_part : (n : Node) → node ns i ≡ n → Drawing legend ns i (is_standard n)
    unfolding unknown_kind
    node_part (Event x) e = standard_part _ (at_event e)
    node_part (Basic b) e = standard_part _ (at_basic e)
    node_part (Standard o t) e = let k = two_kids ns i e t refl in both_std t.first t.second (λ p q x y. standard_part _ (at_standard e x y)) (kid_part (Standard o t) e t.first k.0) (kid_part (Standard o t) e t.second k.1)
    node_part (Handler t) e = let k = two_kids ns i e t refl in both_std t.first t.second (λ p q x y. standard_part _ (at_handler e x y)) (kid_part (Handler t) e t.first k.0) (kid_part (Handler t) e t.second k.1)
    node_part (Block c) e = the_block e (kid_part (Block c) e c (one_kid ns i e c refl))
    node_part (Pair t) e = let k = two_kids ns i e t refl in both_std t.first t.second (λ p q x y. compensable_part _ (at_pair e x y)) (kid_part (Pair t) e t.first k.0) (kid_part (Pair t) e t.second k.1)
    node_part (Compensable o t) e = let k = two_kids ns i e t refl in both_cmp t.first t.second (λ pp qq x y. compensable_part _ (at_compensable e x y)) (kid_part (Compensable o t) e t.first k.0) (kid_part (Compensable o t) e t.second k.1)
    node_part (Paired b) e = compensable_part _ (at_paired e)
    node_part Unknown e =
        absurd (subst (λ (n : Node). T (form n).known) e (subst T (sym (not-false (form (node ns i)).known (fine.node i within).known)) tt))

  parts_below : (n i : ℕ) → i < n → i < count ns → Drawing legend ns i (is_standard (node ns i))
  parts_below zero i h w = absurd (omega arith)
  parts_below (suc n) i h w = node_part i w (λ c l. parts_below n c (omega arith) (omega arith)) (node ns i) refl

  pub part_of : (i : ℕ) → i < count ns → Drawing legend ns i (is_standard (node ns i))
  part_of i w = parts_below (suc i) i (omega arith) w

---- "A table that is not refused means exactly one term" ----

module _ (legend : Legend) (ns : List ℕ) (fine : FineTable ns) where
  part_drawn : {b : Bool} (i : ℕ) → Drawing legend ns i b → Draws legend ns i (drawn legend ns i)
  part_drawn i (standard_part p d) = subst (Draws legend ns i) (sym (drawn_is legend ns (fine_tree ns fine) d)) d
  part_drawn i (compensable_part pp d) = subst (Draws legend ns i) (sym (drawn_is legend ns (fine_tree ns fine) d)) d

  -- of any node
  pub node_drawn : (i : ℕ) → i < count ns → Draws legend ns i (drawn legend ns i)
  node_drawn i w = part_drawn i (part_of legend ns fine i w)

  pub node_only : (i : ℕ) (s : State) → Draws legend ns i s → s ≡ drawn legend ns i
  node_only i s d = sym (drawn_is legend ns (fine_tree ns fine) d)

  -- of its sort
  pub node_standard : (i : ℕ) → i < count ns → is_standard (node ns i) ≡ true → (p : Std) × (drawn legend ns i ≡ std p)
  node_standard i w e = by (subst (Drawing legend ns i) e (part_of legend ns fine i w))
    where
      by : Drawing legend ns i true → (p : Std) × (drawn legend ns i ≡ std p)
      by (standard_part p d) = (p, drawn_is legend ns (fine_tree ns fine) d)

  pub node_compensable : (i : ℕ) → i < count ns → is_standard (node ns i) ≡ false → (pp : Cmp) × (drawn legend ns i ≡ cmp pp)
  node_compensable i w e = by (subst (Drawing legend ns i) e (part_of legend ns fine i w))
    where
      by : Drawing legend ns i false → (pp : Cmp) × (drawn legend ns i ≡ cmp pp)
      by (compensable_part pp d) = (pp, drawn_is legend ns (fine_tree ns fine) d)

  root_within : root ns < count ns
  root_within = omega (arith, fine.some)

  -- of the root
  pub flow_standard : is_standard (node ns (root ns)) ≡ true → (p : Std) × (flow_by legend ns ≡ std p)
  unfolding flow_by
  flow_standard e = node_standard (root ns) root_within e

  pub flow_compensable : is_standard (node ns (root ns)) ≡ false → (pp : Cmp) × (flow_by legend ns ≡ cmp pp)
  unfolding flow_by
  flow_compensable e = node_compensable (root ns) root_within e

pub flow_drawn : (legend : Legend) (ns : List ℕ) → FineTable ns → Draws legend ns (root ns) (flow_by legend ns)
unfolding flow_by
flow_drawn legend ns fine = node_drawn legend ns fine (root ns) (root_within legend ns fine)

pub flow_only : (legend : Legend) (ns : List ℕ) → FineTable ns → (s : State) → Draws legend ns (root ns) s → s ≡ flow_by legend ns
unfolding flow_by
flow_only legend ns fine s d = node_only legend ns fine (root ns) s d
