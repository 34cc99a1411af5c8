-- That the parts under two children are disjoint, and on what it depends what is read off a table by going down. Which tables are trees
-- is in FineTable. Assumes nothing.
use Prim.Native.Nat.{ℕ, zero, suc, ◌<◌, ◌≤◌}
use Rattle.std.specs.Prelude.{◌≡◌, Bool, true, false, cond, ◌⊎◌, ◌≢◌, T, ltb}
use Rattle.std.proofs.Math.Path.{refl}
use Rattle.std.proofs.Common.{sym, ◌∙◌, subst, inl, inr, arith, ltb→lt, lt→ltb}
use Rattle.flow.specs.Shapes.{Shape, Kid, kid1, kid2}
use Rattle.flow.specs.Trees.{Under, self, up, Tree, below, go, descend, Local}

module _ (s : Shape) where
  pub under_kid : {i c j : ℕ} → Kid s i c → Under s c j → Under s i j
  under_kid {i} k (self e) = up (subst (Kid s i) (sym e) k) (self refl)
  under_kid k (up k' u) = up k' (under_kid k u)

  pub under_trans : {i j k : ℕ} → Under s i j → Under s j k → Under s i k
  under_trans {i} u (self e) = subst (λ z. Under s i z) (sym e) u
  under_trans u (up h v) = up h (under_trans u v)

  module _ (tree : Tree s) where
    pub under_le : {i j : ℕ} → Under s i j → j ≤ i
    under_le (self e) = omega arith
    under_le (up {p} {j} k u) = omega (arith, under_le u, tree.lower p j k)

    -- two nodes above j: one is above the other
    linear : {c d j : ℕ} → Under s c j → Under s d j → Under s c d ⊎ Under s d c
    linear {d} (self e) u = inr (subst (Under s d) e u)
    linear {c} (up k u) (self e) = inl (subst (Under s c) e (up k u))
    linear {d} (up {p} {j} k u) (up {p = q} k' u') = linear u (subst (Under s d) (tree.once q p j k' k) u')

    beside_free : {i c d : ℕ} → Kid s i c → Kid s i d → c ≢ d → Under s c d → ⊥
    beside_free k k' n (self e) = n (sym e)
    beside_free {i} {c} {d} k k' n (up {p} h u) =
        let e : p ≡ i = tree.once p i d h k' in
        omega (arith, under_le u, tree.lower i c k, e)

    -- nothing is under both children of a node
    pub disjoint : {i j : ℕ} → T (s.has1 i) → T (s.has2 i) → Under s (s.one i) j → Under s (s.two i) j → ⊥
    disjoint {i} a b u v = by (linear u v)
      where
        by : Under s (s.one i) (s.two i) ⊎ Under s (s.two i) (s.one i) → ⊥
        by (inl x) = beside_free (kid1 a refl) (kid2 b refl) (tree.apart i a b) x
        by (inr x) = beside_free (kid2 b refl) (kid1 a refl) (λ e. tree.apart i a b (sym e)) x

    -- the node itself is not under its child
    pub not_under : {i c : ℕ} → Kid s i c → Under s c i → ⊥
    not_under {i} {c} k u = omega (arith, under_le u, tree.lower i c k)

-- What is read off by going down
module _ {A : Type 0} (bad : A) where
  below_by : (i : ℕ) (g h : ℕ → A) (c : ℕ) → (c < i → g c ≡ h c) → below bad i g c ≡ below bad i h c
  below_by i g h c e = by (ltb c i) (λ t. e (ltb→lt c i t))
    where
      by : (x : Bool) → (T x → g c ≡ h c) → cond x (g c) bad ≡ cond x (h c) bad
      by true e = e tt
      by false e = refl

  pub below_is : (i : ℕ) (g : ℕ → A) (c : ℕ) → c < i → below bad i g c ≡ g c
  below_is i g c h = by (ltb c i) (lt→ltb c i h)
    where
      by : (x : Bool) → T x → cond x (g c) bad ≡ g c
      by true t = refl
      by false t = absurd t

  fuel : (f : ℕ → (ℕ → A) → A) (k l i : ℕ) → i < k → i < l → go bad f k i ≡ go bad f l i
  unfolding go
  fuel f zero l i h h' = absurd (omega arith)
  fuel f (suc k) zero i h h' = absurd (omega arith)
  fuel f (suc k) (suc l) i h h' = λ z. f i (λ c. below_by i (go bad f k) (go bad f l) c (λ g. fuel f k l c (omega arith) (omega arith)) z)

  -- one node
  pub descend_is : (f : ℕ → (ℕ → A) → A) (i : ℕ) → descend bad f i ≡ f i (below bad i (descend bad f))
  unfolding descend go
  descend_is f i = λ z. f i (λ c. below_by i (go bad f i) (descend bad f) c (λ g. fuel f i (suc c) c g (omega arith)) z)

  module _ (s : Shape) where
    pub descend_node : Tree s → (f : ℕ → (ℕ → A) → A) (i : ℕ) → Local bad s f i → descend bad f i ≡ f i (descend bad f)
    descend_node tree f i local = descend_is f i ∙ local (below bad i (descend bad f)) (descend bad f) (λ c k. below_is i (descend bad f) c (tree.lower i c k))

    -- it depends only on what is under the node
    go_frame : (f g : ℕ → (ℕ → A) → A) → ((j : ℕ) → Local bad s g j) → (k i : ℕ) → ((j : ℕ) → Under s i j → f j ≡ g j) → go bad f k i ≡ go bad g k i
    unfolding go
    go_frame f g local zero i e = refl
    go_frame f g local (suc k) i e =
        (λ z. e i (self refl) z (below bad i (go bad f k)))
        ∙ local i (below bad i (go bad f k)) (below bad i (go bad g k)) (λ c kid. below_by i (go bad f k) (go bad g k) c (λ h. go_frame f g local k c (λ j u. e j (under_kid s kid u))))

    pub descend_frame : (f g : ℕ → (ℕ → A) → A) → ((j : ℕ) → Local bad s g j) → (i : ℕ) → ((j : ℕ) → Under s i j → f j ≡ g j) → descend bad f i ≡ descend bad g i
    unfolding descend
    descend_frame f g local i e = go_frame f g local (suc i) i e
