-- The children that a node carries are those of its numbers: children in the tree of the table, apart from each other. Assumes nothing.
use Rattle.std.specs.Prelude.{ℕ, ◌*◌, ◌≡◌, refl, not, List, T, eqb, get_or}
use Rattle.std.proofs.Common.{sym, ap, subst}
use Rattle.flow.specs.declared.Two.{Two}
use Rattle.flow.specs.declared.Node.{Node}
use Rattle.flow.specs.declared.Node.TheVariants.{Event, Basic, Standard, Handler, Block, Pair, Compensable, Paired, Unknown}
use Rattle.flow.specs.Kinds.{two, node_of, form, node, one_of, two_of, shape}
use Rattle.flow.specs.EachKind.{beyond_by, each_kind}
use Rattle.flow.specs.Shapes.{Kid, kid1, kid2}
use Rattle.flow.specs.Trees.{Under, Tree}
use Rattle.flow.specs.Nodes.{disjoint}

-- two children, of a node that has two
abbrev pub Has : Node → Two → Type 0
Has (Event e) t = ⊥
Has (Basic b) t = ⊥
Has (Standard o u) t = u ≡ t
Has (Handler u) t = u ≡ t
Has (Block c) t = ⊥
Has (Pair u) t = u ≡ t
Has (Compensable o u) t = u ≡ t
Has (Paired b) t = ⊥
Has Unknown t = ⊥

-- one child, of a block
abbrev pub HasOne : Node → ℕ → Type 0
HasOne (Event e) c = ⊥
HasOne (Basic b) c = ⊥
HasOne (Standard o t) c = ⊥
HasOne (Handler t) c = ⊥
HasOne (Block d) c = d ≡ c
HasOne (Pair t) c = ⊥
HasOne (Compensable o t) c = ⊥
HasOne (Paired b) c = ⊥
HasOne Unknown c = ⊥

module _ (x y : ℕ) where
  abbrev Carries : ℕ → Type 0
  Carries k = (t : Two) → Has (node_of k x y) t → t ≡ two x y

  carries : (k : ℕ) → Carries k
  carries =
      let no : (t : Two) → ⊥ → t ≡ two x y = λ t h. absurd h in
      let so : (t : Two) → two x y ≡ t → t ≡ two x y = λ t h. sym h in
      each_kind Carries no no no no no so so so so no so so so so no no no (λ k l. beyond_by (λ n. (t : Two) → Has n t → t ≡ two x y) k x y l (λ s. so) (λ s. so) no)

  abbrev CarriesOne : ℕ → Type 0
  CarriesOne k = (c : ℕ) → HasOne (node_of k x y) c → c ≡ x

  carries_one : (k : ℕ) → CarriesOne k
  carries_one =
      let no : (c : ℕ) → ⊥ → c ≡ x = λ c h. absurd h in
      each_kind CarriesOne no no no no no no no no no (λ c h. sym h) no no no no no no no (λ k l. beyond_by (λ n. (c : ℕ) → HasOne n c → c ≡ x) k x y l (λ s. no) (λ s. no) no)

has_count : (n : Node) (t : Two) → Has n t → (form n).kids ≡ 2
has_count (Event e) t h = absurd h
has_count (Basic b) t h = absurd h
has_count (Standard o u) t h = refl
has_count (Handler u) t h = refl
has_count (Block c) t h = absurd h
has_count (Pair u) t h = refl
has_count (Compensable o u) t h = refl
has_count (Paired b) t h = absurd h
has_count Unknown t h = absurd h

module _ (ns : List ℕ) (i : ℕ) {n : Node} (e : node ns i ≡ n) where
  module _ (t : Two) (h : Has n t) where
    has : Has (node ns i) t
    has = subst (λ z. Has z t) (sym e) h

    is_two : t ≡ two (one_of ns i) (two_of ns i)
    is_two = carries (one_of ns i) (two_of ns i) (get_or ns (3 * i) 0) t has

    first_there : T (not (eqb (form (node ns i)).kids 0))
    first_there = rw (has_count (node ns i) t has) tt

    second_there : T (eqb (form (node ns i)).kids 2)
    second_there = rw (has_count (node ns i) t has) tt

    pub two_kids : Kid (shape ns) i t.first × Kid (shape ns) i t.second
    two_kids = (kid1 first_there (ap (λ z. z.first) is_two), kid2 second_there (ap (λ z. z.second) is_two))

    -- nothing is under both
    pub kids_disjoint : Tree (shape ns) → (j : ℕ) → Under (shape ns) t.first j → Under (shape ns) t.second j → ⊥
    kids_disjoint tree j u v =
        disjoint (shape ns) tree first_there second_there
        (subst (λ z. Under (shape ns) z.first j) is_two u) (subst (λ z. Under (shape ns) z.second j) is_two v)

  pub one_kid : (c : ℕ) → HasOne n c → Kid (shape ns) i c
  one_kid c h =
      let g : HasOne (node ns i) c = subst (λ z. HasOne z c) (sym e) h in
      kid1 (there (node ns i) c g) (carries_one (one_of ns i) (two_of ns i) (get_or ns (3 * i) 0) c g)
    where
      there : (m : Node) (c : ℕ) → HasOne m c → T (not (eqb (form m).kids 0))
      there (Event e) c h = absurd h
      there (Basic b) c h = absurd h
      there (Standard o t) c h = tt
      there (Handler t) c h = tt
      there (Block d) c h = tt
      there (Pair t) c h = tt
      there (Compensable o t) c h = tt
      there (Paired b) c h = absurd h
      there Unknown c h = absurd h
