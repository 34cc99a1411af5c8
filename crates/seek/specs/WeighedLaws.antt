-- Laws of what is kept of a node that runs: its row is that of its part (`row_is`), the parts that are live in it are right too, by its
-- course, and what is noted of a node depends only on the modes and entries under it (`noted_still`, `weighed_still`). Assumes nothing.
use Rattle.std.specs.Prelude.{ℕ, ◌+◌, ◌*◌, ◌<◌, ◌≡◌, Bool, true, cond, List, length}
use Rattle.std.proofs.Common.{◌∙◌, ap, arith}
use Rattle.std.proofs.Math.Path.{subst}
use Rattle.std.proofs.Math.Dec.{T}
use Rattle.calculus.specs.Term.{done}
use Rattle.calculus.specs.Successors.{ends}
use Rattle.calculus.proofs.Members.{and_left, and_right}
use Rattle.flow.specs.declared.Operator.{Operator}
use Rattle.flow.specs.declared.Two.{Two}
use Rattle.flow.specs.Kinds.{shape}
use Rattle.flow.specs.Trees.{Under, Tree}
use Rattle.tallies.specs.Counts.{word}
use Rattle.tallies.specs.Bare.{bare_w}
use Rattle.states.specs.declared.Sense.TheVariants.{Drawn, Undoing}
use Rattle.states.specs.declared.Role.TheVariants.{Running}
use Rattle.states.specs.declared.Course.{Course}
use Rattle.states.specs.declared.Course.TheVariants as course
use Rattle.states.specs.State.{part, modes}
use Rattle.states.specs.Rows.{row, Notes, entries}
use Rattle.states.specs.RowLaws.{same_is_row}
use Rattle.states.specs.Stored.{Right, run_right, held_word, over}
use Rattle.states.specs.StateLaws.{run_stored, noted_frame}
use Rattle.states.specs.NotedLaws.{noted_stored, own_row, held_noted, held_row}
use Rattle.states.specs.Clauses.{Spot, scene, stored_at, noted_at, Weighed}
use Rattle.seek.specs.Asked.{course_at, runs, left}

-- The modes and entries under a node are the same ------------------------------------------------------------------------------

module _ (ns : List ℕ) (tree : Tree (shape ns)) (a : ℕ) (x : ℕ) (t t' : List ℕ) (c c' : Notes) (e : (j : ℕ) → Under (shape ns) x j → modes t j ≡ modes t' j) (f : (j : ℕ) → Under (shape ns) x j → entries c j ≡ entries c' j) where
  pub noted_still : (g : Right → Bool) → T (g (noted_at (scene ns t a) c x)) → T (g (noted_at (scene ns t' a) c' x))
  noted_still g h = subst (λ z. T (g z)) (noted_frame ns tree a (modes t) (modes t') (entries c) (entries c') x e f) h

  pub weighed_still : length c'.rows ≡ length c.rows → Weighed (scene ns t a) c x → Weighed (scene ns t' a) c' x
  weighed_still l h = record { long = l ∙ h.long; right = noted_still (λ z. z.run) h.right }

-- A node that runs -------------------------------------------------------------------------------------------------------------

module _ {ns t : List ℕ} {a i : ℕ} {c : Notes} (k : Weighed (scene ns t a) c i) where
  pub row_is : row c.rows i ≡ bare_w (word a (runs ns t i))
  row_is = same_is_row c.rows i _ (own_row ns a (modes t) (entries c) i k.right)

  module _ (spot : Spot ns t i) where
    pub row_room : 9 * i + 8 < length c.rows
    row_room = omega (arith, k.long, spot.node.inside, spot.node.sound.few)

    live_right : {x : Course} → course_at ns t i ≡ x → T (run_right x (over ns a (modes t)) (noted_at (scene ns t a) c) (stored_at (scene ns t a) c))
    live_right e = subst T (run_stored ns spot.node.sound.tree a (modes t) (entries c) i ∙ ap (λ x. run_right x (over ns a (modes t)) (noted_at (scene ns t a) c) (stored_at (scene ns t a) c)) e)
        (noted_stored ns a (modes t) (entries c) i Running k.right)

    abbrev noted_run : ℕ → Bool
    noted_run x = (noted_at (scene ns t a) c x).run

    pub as_weighed : {x : ℕ} → course_at ns t i ≡ course.As x → Weighed (scene ns t a) c x
    unfolding run_right
    as_weighed e = record { long = k.long; right = live_right e }

    module _ {o : Operator} {two : Two} (e : course_at ns t i ≡ course.Both o two) where
      pub first_weighed : Weighed (scene ns t a) c two.first
      unfolding run_right
      first_weighed = record { long = k.long; right = and_left (noted_run two.first) (noted_run two.second) (live_right e) }

      pub second_weighed : Weighed (scene ns t a) c two.second
      unfolding run_right
      second_weighed = record { long = k.long; right = and_right (noted_run two.first) (noted_run two.second) (live_right e) }

    module _ {two : Two} (e : course_at ns t i ≡ course.Held two) where
      abbrev noted_held : Bool
      noted_held = (noted_at (scene ns t a) c two.first).held

      first_held : T noted_held
      unfolding run_right
      first_held = and_left noted_held (noted_run two.second) (live_right e)

      pub held_undone : T ((noted_at (scene ns t a) c two.first).std Undoing)
      held_undone = held_noted ns a (modes t) (entries c) two.first spot.node.sound.tree first_held

      pub held_row_is : row c.rows two.first ≡ bare_w (held_word a (left ns t two.first))
      held_row_is = same_is_row c.rows two.first _ (held_row ns a (modes t) (entries c) two.first spot.node.sound.tree first_held)

      pub held_weighed : Weighed (scene ns t a) c two.second
      unfolding run_right
      held_weighed = record { long = k.long; right = and_right noted_held (noted_run two.second) (live_right e) }

    -- the second part of a pair whose first can end done
    module _ {two : Two} (e : course_at ns t i ≡ course.Pair two) where
      abbrev second_noted : Bool
      second_noted = (noted_at (scene ns t a) c two.second).std Drawn

      pub pair_noted : ends ((part ns (modes t) two.first).std Drawn) done ≡ true → T second_noted
      unfolding run_right
      pair_noted d = subst (λ o. T (cond o second_noted true)) d (and_right ((stored_at (scene ns t a) c two.first).std Drawn) (cond (over ns a (modes t) two.first) second_noted true) (live_right e))
