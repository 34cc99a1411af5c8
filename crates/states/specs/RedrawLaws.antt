-- What is under a node: itself, and what is under its children. So whether a node is under another can be decided, and a part that is
-- redrawn has one content of the bytes (`redrawn_once`); and it is redrawn by redrawing its children. Assumes nothing.
use Rattle.std.specs.Prelude.{ℕ, zero, suc, ◌<◌, ◌≡◌, refl, Bool, true, false, List, ◌⊎◌, ◌≢◌, T, eqb, set}
use Rattle.std.proofs.Common.{sym, ◌∙◌, ap, subst, inl, inr, arith, eq-eqb, ne_eqb, eqb-true}
use Rattle.std.proofs.lemmas.Bool.{eqb-false}
use Rattle.flow.specs.declared.Form.{Form}
use Rattle.flow.specs.Kinds.{form, node, one_of, two_of, shape}
use Rattle.flow.specs.Shapes.{Shape, Kid, kid1, kid2}
use Rattle.flow.specs.Trees.{Under, self, up, Tree}
use Rattle.flow.specs.Nodes.{under_kid, disjoint}
use Rattle.states.specs.Standings.{as_drawn}
use Rattle.states.specs.State.{modes}
use Rattle.states.specs.Clauses.{Spot, Sets, Kept, Redrawn}
use Rattle.states.specs.ChildLaws.{set_sets, lower_spot, same_room, kept_set, kept_kid, own_kept}

-- What is under a node ---------------------------------------------------------------------------------------------------------

module _ (s : Shape) where
  -- the node itself, or what is under a child
  data Parts (i j : ℕ) : Type 0 where
    own : j ≡ i → Parts i j
    one : T (s.has1 i) → Under s (s.one i) j → Parts i j
    other : T (s.has2 i) → Under s (s.two i) j → Parts i j

  parts : {i j : ℕ} → Under s i j → Parts i j
  parts (self e) = own e
  parts {i} (up {p} {j} k u) = more (parts u)
    where
      below : Kid s i j → Parts i j
      below (kid1 h e) = one h (self e)
      below (kid2 h e) = other h (self e)

      more : Parts i p → Parts i j
      more (own e) = below (subst (λ z. Kid s z j) e k)
      more (one h v) = one h (up k v)
      more (other h v) = other h (up k v)

  abbrev Decided : Type 0 → Type 0
  Decided x = x ⊎ (x → ⊥)

  both : (b : Bool) {x : Type 0} → (T b → Decided x) → Decided (T b × x)
  both false d = inr (λ x. absurd x.0)
  both true {x} d = by (d tt)
    where
      by : Decided x → Decided (Unit {0} × x)
      by (inl y) = inl (tt, y)
      by (inr n) = inr (λ y. n y.1)

  pub decide : Tree s → (n i j : ℕ) → i < n → Decided (Under s i j)
  decide tree zero i j h = absurd (omega arith)
  decide tree (suc n) i j h =
      by (same (eqb j i) refl)
      (both (s.has1 i) (λ t. decide tree n (s.one i) j (omega (arith, h, tree.lower i (s.one i) (kid1 t refl)))))
      (both (s.has2 i) (λ t. decide tree n (s.two i) j (omega (arith, h, tree.lower i (s.two i) (kid2 t refl)))))
    where
      same : (b : Bool) → eqb j i ≡ b → Decided (j ≡ i)
      same true e = inl (eqb-true j i e)
      same false e = inr (eqb-false j i e)

      by : Decided (j ≡ i) → Decided (T (s.has1 i) × Under s (s.one i) j) → Decided (T (s.has2 i) × Under s (s.two i) j) → Decided (Under s i j)
      by (inl e) x y = inl (self e)
      by (inr n) (inl x) y = inl (under_kid s (kid1 x.0 refl) x.1)
      by (inr n) (inr x) (inl y) = inl (under_kid s (kid2 y.0 refl) y.1)
      by (inr n) (inr x) (inr y) = inr (λ u. none (parts u))
        where
          none : Parts i j → ⊥
          none (own e) = n e
          none (one t u) = x (t, u)
          none (other t u) = y (t, u)

-- One content --------------------------------------------------------------------------------------------------------------------

module _ {ns : List ℕ} (tree : Tree (shape ns)) {i : ℕ} {t t₁ t₂ : List ℕ} where
  pub redrawn_once : Redrawn ns i t t₁ → Redrawn ns i t t₂ → (j : ℕ) → modes t₁ j ≡ modes t₂ j
  redrawn_once x y j = by (decide (shape ns) tree (suc i) i j (omega arith))
    where
      by : Under (shape ns) i j ⊎ (Under (shape ns) i j → ⊥) → modes t₁ j ≡ modes t₂ j
      by (inl u) = x.under j u ∙ sym (y.under j u)
      by (inr n) = x.kept j n ∙ sym (y.kept j n)

-- A node, and then its children -------------------------------------------------------------------------------------------------

module _ {ns t : List ℕ} {i : ℕ} (spot : Spot ns t i) {f : Form} (e : f ≡ form (node ns i)) {t₁ : List ℕ} (w : t₁ ≡ set t i as_drawn) where
  tree : Tree (shape ns)
  tree = spot.node.sound.tree

  sets : Sets t i as_drawn t₁
  sets = set_sets spot.room w

  module _ (none : f.kids ≡ 0) where
    no_one : T ((shape ns).has1 i) → ⊥
    no_one h = rw (eq-eqb (form (node ns i)).kids 0 (ap (λ x. x.kids) (sym e) ∙ none)) at h

    no_two : T ((shape ns).has2 i) → ⊥
    no_two h = rw (ap (λ x. x.kids) (sym e) ∙ none) at h

    pub redrawn_leaf : Redrawn ns i t t₁
    redrawn_leaf = record { under = λ j u. by j (parts (shape ns) u); kept = kept_set ns sets; long = sets.long }
      where
        by : (j : ℕ) → Parts (shape ns) i j → modes t₁ j ≡ as_drawn
        by j (own d) = rw d sets.here
        by j (one h u) = absurd (no_one h)
        by j (other h u) = absurd (no_two h)

  module _ (some : f.kids ≢ 0) where
    has_one : T ((shape ns).has1 i)
    has_one = rw (ne_eqb (form (node ns i)).kids 0 (λ z. some (ap (λ x. x.kids) e ∙ z))) tt

    pub one_lower : one_of ns i < i
    one_lower = tree.lower i (one_of ns i) (kid1 has_one refl)

    pub one_spot : Spot ns t₁ (one_of ns i)
    one_spot = lower_spot (same_room spot sets.long) one_lower

    module _ {t₂ : List ℕ} (x : Redrawn ns (one_of ns i) t₁ t₂) where
      one_own : modes t₂ i ≡ as_drawn
      one_own = own_kept ns tree (kid1 has_one refl) x.kept ∙ sets.here

      one_kept : Kept ns i (modes t) (modes t₂)
      one_kept j n = kept_kid ns tree (kid1 has_one refl) x.kept j n ∙ kept_set ns sets j n

      pub redrawn_one : f.kids ≢ 2 → Redrawn ns i t t₂
      redrawn_one only = record { under = λ j u. by j (parts (shape ns) u); kept = one_kept; long = x.long ∙ sets.long }
        where
          by : (j : ℕ) → Parts (shape ns) i j → modes t₂ j ≡ as_drawn
          by j (own d) = rw d one_own
          by j (one h u) = x.under j u
          by j (other h u) = absurd (rw (ne_eqb (form (node ns i)).kids 2 (λ z. only (ap (λ x. x.kids) e ∙ z))) at h)

      module _ (two : f.kids ≡ 2) where
        has_two : T ((shape ns).has2 i)
        has_two = rw (ap (λ x. x.kids) (sym e) ∙ two) tt

        pub two_lower : two_of ns i < i
        two_lower = tree.lower i (two_of ns i) (kid2 has_two refl)

        pub two_spot : Spot ns t₂ (two_of ns i)
        two_spot = lower_spot (same_room spot (x.long ∙ sets.long)) two_lower

        pub redrawn_two : {t₃ : List ℕ} → Redrawn ns (two_of ns i) t₂ t₃ → Redrawn ns i t t₃
        redrawn_two {t₃} y = record {
          under = λ j u. by j (parts (shape ns) u);
          kept = λ j n. kept_kid ns tree (kid2 has_two refl) y.kept j n ∙ one_kept j n;
          long = y.long ∙ x.long ∙ sets.long;
        }
          where
            by : (j : ℕ) → Parts (shape ns) i j → modes t₃ j ≡ as_drawn
            by j (own d) = rw d (own_kept ns tree (kid2 has_two refl) y.kept ∙ one_own)
            by j (one h u) = y.kept j (disjoint (shape ns) tree h has_two u) ∙ x.under j u
            by j (other h u) = y.under j u
