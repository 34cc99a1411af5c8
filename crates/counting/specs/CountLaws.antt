-- What the counting pass has at the end of each of its ways: a node is counted, by what it stands as or how it runs, from what its
-- live parts were counted to be. Assumes nothing.
use Rattle.std.specs.Prelude.{ℕ, ◌≤◌, ◌≡◌, refl, Bool, ◌&&◌, cond, List}
use Rattle.std.proofs.Math.Path.{sym, ap}
use Rattle.std.proofs.Common.{◌∙◌, subst, subst₂, arith}
use Rattle.std.proofs.Math.Bool.{true, false}
use Rattle.std.proofs.Math.Dec.{T}
use Rattle.calculus.proofs.Members.{and_in}
use Rattle.flow.specs.declared.Simple.{Simple}
use Rattle.flow.specs.declared.Operator.{Operator}
use Rattle.flow.specs.declared.Two.{Two}
use Rattle.flow.specs.Kinds.{node, shape}
use Rattle.flow.specs.Trees.{self, up}
use Rattle.flow.specs.Nodes.{under_le}
use Rattle.flow.specs.Cues.{takes_cue, cued_leaf}
use Rattle.tallies.specs.declared.View.{View}
use Rattle.tallies.specs.declared.Word.{Word}
use Rattle.tallies.specs.Formulas.{skip_v, ev_v, hnd_v, blk_v, pair_w, held_w}
use Rattle.tallies.specs.Counts.{view, word}
use Rattle.tallies.proofs.CountsLaws.{view_ev, view_hnd, view_blk, word_pair, word_held}
use Rattle.states.specs.declared.Sense.{Sense}
use Rattle.states.specs.declared.Sense.TheVariants.{Drawn, Undoing}
use Rattle.states.specs.declared.Role.{Role}
use Rattle.states.specs.declared.Role.TheVariants.{Plain, Running}
use Rattle.states.specs.declared.Sub.{Sub}
use Rattle.states.specs.declared.Standing.{Standing}
use Rattle.states.specs.declared.Standing.TheVariants as standing
use Rattle.states.specs.declared.Course.{Course}
use Rattle.states.specs.declared.Course.TheVariants as course
use Rattle.states.specs.Standings.{stand, course_of}
use Rattle.states.specs.State.{modes, std_of, run_of, part}
use Rattle.states.specs.Rows.{Written, Notes, notes, entries}
use Rattle.states.specs.Stored.{std_right, run_right, over}
use Rattle.states.specs.StateLaws.{std_part, run_part, std_stored, run_stored}
use Rattle.states.specs.NotedLaws.{noted_stored}
use Rattle.states.specs.Roles.{Sight, ok}
use Rattle.states.specs.Clauses.{Spot, Sets, Scene, scene, part_at, stored_at, noted_at, Counted}
use Rattle.states.specs.LiveParts.{Twins, Rests, CRests, Lower, CLower}
use Rattle.states.specs.Rests.{stand_rests, course_rests, stand_lower, course_lower}
use Rattle.counting.specs.Wholes.{simple_v, operator_v, simple_w, operator_w}
use Rattle.counting.specs.WholeLaws.{view_basic, view_both, word_basic, word_both}
use Rattle.counting.specs.StandIns.{StandIn}
use Rattle.counting.specs.Noting.{leaves, held_of, tree, none_noted, one_noted, two_noted, held_leaves}
use Rattle.counting.specs.RowWrites.{plain_writes, run_writes}

-- what the code has noted: v is answered, y was given
abbrev StdNoted : Notes → ℕ → View → List ℕ → View → Type 0
StdNoted c i y c' v = (v ≡ y) × Sets c.steps i y.moves c'

abbrev RunNoted : Notes → ℕ → Word → List ℕ → List ℕ → Word → Type 0
RunNoted c i y c' d' v = (v ≡ y) × (Sets c.steps i y.moves c' × Written c.rows i y d')

-- nothing was counted before
pub begun : {s : Scene} {r : Role} {i : ℕ} {c c₀ d d₀ : List ℕ} {c' : Notes} {v : Sight r} → c ≡ c₀ → d ≡ d₀ → Counted s r i (notes c d) c' v → Counted s r i (notes c₀ d₀) c' v
begun {s} {r} {i} {c' = c'} {v} e f x = subst₂ (λ c d. Counted s r i (notes c d) c' v) e f x

-- where it is right if some condition holds
when_in : (o y : Bool) → T y → T (cond o y true)
when_in true y h = h
when_in false y h = tt

module _ {ns t : List ℕ} {i : ℕ} (spot : Spot ns t i) (a : ℕ) where
  abbrev s₀ : Scene
  s₀ = scene ns t a

  under_noted : (c : Notes) (x : ℕ) (r : Role) → T (ok r (noted_at s₀ c x)) → T (ok r (stored_at s₀ c x))
  under_noted c x r h = noted_stored ns a (modes t) (entries c) x r h

  -- As a standard part ------------------------------------------------------------------------------------------------------

  -- node j in sense v is live in place of i in sense z
  module _ {z : Sense} {v : Sense} {j : ℕ} (g : StandIn s₀ z i v j) where
    module _ {x : Standing} (e : stand v (node ns j) (modes t j) ≡ x) where
      is_part : (part_at s₀ i).std z ≡ std_of x v (part ns (modes t))
      is_part = g.term ∙ std_part ns (tree s₀ spot) (modes t) j v ∙ ap (λ y. std_of y v (part ns (modes t))) e

      is_right : (c : Notes) → (stored_at s₀ c i).std z ≡ std_right x v (noted_at s₀ c) (stored_at s₀ c)
      is_right c = g.right c ∙ std_stored ns (tree s₀ spot) a (modes t) (entries c) j v ∙ ap (λ y. std_right y v (noted_at s₀ c) (stored_at s₀ c)) e

      rests : Rests ns j x
      rests = subst (Rests ns j) e (stand_rests ns j (tree s₀ spot) v (modes t j))

    abbrev right_both : Notes → Two → Bool
    right_both c x = (noted_at s₀ c x.first).std v && (noted_at s₀ c x.second).std v

    pub event_counted : {n : ℕ} → stand v (node ns j) (modes t j) ≡ standing.Event n → {c : Notes} {c' : List ℕ} {y w : View} → y ≡ ev_v (takes_cue a n) → StdNoted c i y c' w → Counted s₀ (Plain z) i c (notes c' c.rows) w
    unfolding std_of std_right
    event_counted {n} e {c} {c'} {y} {w} ey d =
        none_noted s₀ spot (Plain z) true tt (d.0 ∙ ey ∙ sym (ap (view a) (is_part e) ∙ view_ev a (cued_leaf n))) (is_right e (notes c' c.rows)) (plain_writes d)

    pub basic_counted : {b : Simple} → stand v (node ns j) (modes t j) ≡ standing.Basic b → {c : Notes} {c' : List ℕ} {y w : View} → y ≡ simple_v b → StdNoted c i y c' w → Counted s₀ (Plain z) i c (notes c' c.rows) w
    unfolding std_of std_right
    basic_counted {b} e {c} {c'} {y} {w} ey d =
        none_noted s₀ spot (Plain z) true tt (d.0 ∙ ey ∙ sym (ap (view a) (is_part e) ∙ view_basic a b)) (is_right e (notes c' c.rows)) (plain_writes d)

    -- two live parts, whose views make that of the whole by f
    two_counted : {x : Standing} (e : stand v (node ns j) (modes t j) ≡ x) {x₂ : Two} → Twins ns j x₂ → (f : View → View → View)
        → view a (std_of x v (part ns (modes t))) ≡ f (view a ((part_at s₀ x₂.first).std v)) (view a ((part_at s₀ x₂.second).std v))
        → ((c : Notes) → std_right x v (noted_at s₀ c) (stored_at s₀ c) ≡ right_both c x₂) → {c c₁ c₂ : Notes} {c₃ : List ℕ} {p q y w : View}
        → Counted s₀ (Plain v) x₂.first c c₁ p → Counted s₀ (Plain v) x₂.second c₁ c₂ q → y ≡ f p q → StdNoted c₂ i y c₃ w → Counted s₀ (Plain z) i c (notes c₃ c₂.rows) w
    two_counted e {x₂} twins f law both {c₂ = c₂} {c₃} {y = y} {w} h k ey d =
        let n = notes c₃ c₂.rows in
        two_noted s₀ spot (Plain z) g.under (ok (Plain v)) (ok (Plain v)) twins (leaves h) (leaves k) (right_both n x₂) (λ l l'. and_in ((noted_at s₀ n x₂.first).std v) ((noted_at s₀ n x₂.second).std v) l l')
        (d.0 ∙ ey ∙ (λ r. f (h.seen r) (k.seen r)) ∙ sym (ap (view a) (is_part e) ∙ law)) (is_right e n ∙ both n) (plain_writes d)

    pub both_counted : {o : Operator} {x : Two} → stand v (node ns j) (modes t j) ≡ standing.Both o x → {c c₁ c₂ : Notes} {c₃ : List ℕ} {p q y w : View}
        → Counted s₀ (Plain v) x.first c c₁ p → Counted s₀ (Plain v) x.second c₁ c₂ q → y ≡ operator_v a o p q → StdNoted c₂ i y c₃ w → Counted s₀ (Plain z) i c (notes c₃ c₂.rows) w
    unfolding std_of std_right
    both_counted {o} e = two_counted e (rests e) (operator_v a o) (view_both a o _ _) (λ c. refl)

    pub handler_counted : {x : Two} → stand v (node ns j) (modes t j) ≡ standing.Handler x → {c c₁ c₂ : Notes} {c₃ : List ℕ} {p q y w : View}
        → Counted s₀ (Plain v) x.first c c₁ p → Counted s₀ (Plain v) x.second c₁ c₂ q → y ≡ hnd_v p q → StdNoted c₂ i y c₃ w → Counted s₀ (Plain z) i c (notes c₃ c₂.rows) w
    unfolding std_of std_right
    handler_counted e = two_counted e (rests e) hnd_v (view_hnd a _ _) (λ c. refl)

    pub block_counted : {x : ℕ} → stand v (node ns j) (modes t j) ≡ standing.Block x → {c c₁ : Notes} {c₂ : List ℕ} {p : Word} {y w : View}
        → Counted s₀ Running x c c₁ p → y ≡ blk_v p → StdNoted c₁ i y c₂ w → Counted s₀ (Plain z) i c (notes c₂ c₁.rows) w
    unfolding std_of std_right
    block_counted {x} e {c₁ = c₁} {c₂} {y = y} {w} f ey d =
        let n = notes c₂ c₁.rows in
        one_noted s₀ spot (Plain z) g.under (ok Running) (rests e) (leaves f) (noted_at s₀ n x).run (λ k. k)
        (d.0 ∙ ey ∙ ap blk_v f.seen ∙ sym (ap (view a) (is_part e) ∙ view_blk a _)) (is_right e n) (plain_writes d)

    -- one is live in place of j, and so of i
    pub stands_for : {x : Sub} → stand v (node ns j) (modes t j) ≡ standing.As x → StandIn s₀ z i x.sense x.node
    unfolding std_of std_right
    stands_for e = record { under = up (rests e) g.under; term = is_part e; right = is_right e }

    -- what is live is lower
    pub std_below : {r x : Standing} → r ≡ stand v (node ns j) (modes t j) → r ≡ x → Lower j x
    std_below e d = subst (Lower j) (sym e ∙ d) (stand_lower ns j (tree s₀ spot) v (modes t j))

    pub stand_in_low : j ≤ i
    stand_in_low = under_le (shape ns) (tree s₀ spot) g.under

    pub still_spot : Spot ns t j
    still_spot = record {
      node = record { sound = spot.node.sound; inside = omega (arith, spot.node.inside, stand_in_low) };
      room = omega (arith, spot.room, stand_in_low);
    }

  pub stand_in_self : {z : Sense} → StandIn s₀ z i z i
  stand_in_self = record { under = self refl; term = refl; right = λ c. refl }

  pub run_below : {r x : Course} → r ≡ course_of (node ns i) (modes t i) → r ≡ x → CLower i x
  run_below e d = subst (CLower i) (sym e ∙ d) (course_lower ns i (tree s₀ spot) (modes t i))

  -- As a part that runs -----------------------------------------------------------------------------------------------------

  module _ {x : Course} (e : course_of (node ns i) (modes t i) ≡ x) where
    is_run : (part_at s₀ i).run ≡ run_of x (part ns (modes t))
    is_run = run_part ns (tree s₀ spot) (modes t) i ∙ ap (λ y. run_of y (part ns (modes t))) e

    is_run_right : (c : Notes) → (stored_at s₀ c i).run ≡ run_right x (over ns a (modes t)) (noted_at s₀ c) (stored_at s₀ c)
    is_run_right c = run_stored ns (tree s₀ spot) a (modes t) (entries c) i ∙ ap (λ y. run_right y (over ns a (modes t)) (noted_at s₀ c) (stored_at s₀ c)) e

    run_rests : CRests ns i x
    run_rests = subst (CRests ns i) e (course_rests ns i (tree s₀ spot) (modes t i))

  pub paired_counted : {b : Simple} → course_of (node ns i) (modes t i) ≡ course.Basic b → {c : Notes} {c' d' : List ℕ} {u v : Word} → u ≡ simple_w b → RunNoted c i u c' d' v → Counted s₀ Running i c (notes c' d') v
  unfolding run_of run_right
  paired_counted {b} e {c' = c'} {d'} eu w =
      none_noted s₀ spot Running true tt (w.0 ∙ eu ∙ sym (ap (word a) (is_run e) ∙ word_basic a b)) (is_run_right e (notes c' d')) (run_writes w)

  module _ {x : Two} (e : course_of (node ns i) (modes t i) ≡ course.Pair x) where
    pair_sees : word a (part_at s₀ i).run ≡ pair_w (view a ((part ns (modes t) x.first).std Drawn)) (view a ((part ns (modes t) x.second).std Drawn))
    unfolding run_of
    pair_sees = ap (word a) (is_run e) ∙ word_pair a _ _

    -- of a pair's second part, where it is looked at
    abbrev second_right : Notes → Bool
    second_right c = cond (over ns a (modes t) x.first) ((noted_at s₀ c x.second).std Drawn) true

    pair_right : (c : Notes) → T ((noted_at s₀ c x.first).std Drawn) → T (second_right c) → T ((stored_at s₀ c x.first).std Drawn && second_right c)
    pair_right c h k = and_in ((stored_at s₀ c x.first).std Drawn) (second_right c) (under_noted c x.first (Plain Drawn) h) k

    pub pair_counted : {c c₁ c₂ : Notes} {c₃ d₃ : List ℕ} {p q : View} {u v : Word} → Counted s₀ (Plain Drawn) x.first c c₁ p → Counted s₀ (Plain Drawn) x.second c₁ c₂ q
        → u ≡ pair_w p q → RunNoted c₂ i u c₃ d₃ v → Counted s₀ Running i c (notes c₃ d₃) v
    unfolding run_right
    pair_counted {c₃ = c₃} {d₃} f g eu w =
        let n = notes c₃ d₃ in
        two_noted s₀ spot Running (self refl) (ok (Plain Drawn)) (ok (Plain Drawn)) (run_rests e) (leaves f) (leaves g) ((stored_at s₀ n x.first).std Drawn && second_right n)
        (λ h h'. pair_right n h (when_in (over ns a (modes t) x.first) ((noted_at s₀ n x.second).std Drawn) h'))
        (w.0 ∙ eu ∙ (λ y. pair_w (f.seen y) (g.seen y)) ∙ sym pair_sees) (is_run_right e n) (run_writes w)

    -- the first part cannot end done, and the second makes no difference
    pub pair_stops : {c c₁ : Notes} {c₂ d₂ : List ℕ} {p q : View} {u v : Word} → Counted s₀ (Plain Drawn) x.first c c₁ p → p.done ≡ false → q ≡ skip_v
        → u ≡ pair_w p q → RunNoted c₁ i u c₂ d₂ v → Counted s₀ Running i c (notes c₂ d₂) v
    unfolding run_right pair_w view
    pair_stops {c₂ = c₂} {d₂} {p} {q} f d eq eu w =
        let n = notes c₂ d₂ in
        let q' = view a ((part ns (modes t) x.second).std Drawn) in
        let same : pair_w p q ≡ pair_w p q' = simp d in
        let never : over ns a (modes t) x.first ≡ false = sym (ap (λ (y : View). y.done) f.seen) ∙ d in
        one_noted s₀ spot Running (self refl) (ok (Plain Drawn)) (run_rests e).one (leaves f) ((stored_at s₀ n x.first).std Drawn && second_right n)
        (λ h. pair_right n h (subst (λ o. T (cond o ((noted_at s₀ n x.second).std Drawn) true)) (sym never) tt))
        (w.0 ∙ eu ∙ same ∙ ap (λ y. pair_w y q') f.seen ∙ sym pair_sees) (is_run_right e n) (run_writes w)

  pub runs_both_counted : {o : Operator} {x : Two} → course_of (node ns i) (modes t i) ≡ course.Both o x → {c c₁ c₂ : Notes} {c₃ d₃ : List ℕ} {p q u v : Word}
      → Counted s₀ Running x.first c c₁ p → Counted s₀ Running x.second c₁ c₂ q → u ≡ operator_w a o p q → RunNoted c₂ i u c₃ d₃ v → Counted s₀ Running i c (notes c₃ d₃) v
  unfolding run_of run_right
  runs_both_counted {o} {x} e {c₃ = c₃} {d₃} f g eu w =
      let n = notes c₃ d₃ in
      two_noted s₀ spot Running (self refl) (ok Running) (ok Running) (run_rests e) (leaves f) (leaves g) ((noted_at s₀ n x.first).run && (noted_at s₀ n x.second).run) (λ h h'. and_in (noted_at s₀ n x.first).run (noted_at s₀ n x.second).run h h')
      (w.0 ∙ eu ∙ (λ y. operator_w a o (f.seen y) (g.seen y)) ∙ sym (ap (word a) (is_run e) ∙ word_both a o _ _)) (is_run_right e n) (run_writes w)

  pub held_counted : {x : Two} → course_of (node ns i) (modes t i) ≡ course.Held x → {c c₁ c₂ : Notes} {d c₃ d₃ : List ℕ} {p : View} {q u v : Word}
      → Counted s₀ (Plain Undoing) x.first c c₁ p → Written c₁.rows x.first (pair_w skip_v p) d → Counted s₀ Running x.second (notes c₁.steps d) c₂ q → u ≡ held_w q p → RunNoted c₂ i u c₃ d₃ v → Counted s₀ Running i c (notes c₃ d₃) v
  unfolding run_of run_right
  held_counted {x} e {c₃ = c₃} {d₃} f k g eu w =
      let n = notes c₃ d₃ in
      two_noted s₀ spot Running (self refl) held_of (ok Running) (run_rests e) (held_leaves s₀ spot f k) (leaves g) ((noted_at s₀ n x.first).held && (noted_at s₀ n x.second).run) (λ h h'. and_in (noted_at s₀ n x.first).held (noted_at s₀ n x.second).run h h')
      (w.0 ∙ eu ∙ (λ y. held_w (g.seen y) (f.seen y)) ∙ sym (ap (word a) (is_run e) ∙ word_held a _ _)) (is_run_right e n) (run_writes w)

  pub runs_as_counted : {x : ℕ} → course_of (node ns i) (modes t i) ≡ course.As x → {c c₁ : Notes} {c₂ d₂ : List ℕ} {u v : Word}
      → Counted s₀ Running x c c₁ u → RunNoted c₁ i u c₂ d₂ v → Counted s₀ Running i c (notes c₂ d₂) v
  unfolding run_of run_right
  runs_as_counted {x} e {c₂ = c₂} {d₂} f w =
      one_noted s₀ spot Running (self refl) (ok Running) (run_rests e) (leaves f) (noted_at s₀ (notes c₂ d₂) x).run (λ h. h) (w.0 ∙ f.seen ∙ sym (ap (word a) (is_run e))) (is_run_right e (notes c₂ d₂)) (run_writes w)
