-- What holds at a node and a child of it, whatever the kinds: the child's part and counts are those from before a number of the node
-- was set, what is under the other child stays, and only what is under the node changes. Assumes nothing.
use Rattle.std.specs.Prelude.{ℕ, ◌<◌, ◌≡◌, refl, List, ◌≢◌, length, get_or, set}
use Rattle.std.proofs.Common.{sym, ◌∙◌, subst, arith, length-set, get_or-set_same, get_or-set_other}
use Rattle.flow.specs.Kinds.{shape}
use Rattle.flow.specs.Shapes.{Kid}
use Rattle.flow.specs.Trees.{Under, self, up, Tree}
use Rattle.flow.specs.Nodes.{under_trans, under_le, not_under}
use Rattle.states.specs.State.{part, modes}
use Rattle.states.specs.Rows.{Notes, entries}
use Rattle.states.specs.Stored.{stored}
use Rattle.states.specs.StateLaws.{part_frame, stored_frame}
use Rattle.states.specs.Clauses.{Spot, Kept, Sets}

-- A number is set ------------------------------------------------------------------------------------------------------------

pub set_sets : {t t' : List ℕ} {i n : ℕ} → i < length t → t' ≡ set t i n → Sets t i n t'
set_sets {t} {t'} {i} {n} h e =
    let w : Sets t i n (set t i n) = record { here = get_or-set_same t i n 0 h; others = λ j d. get_or-set_other t i j n 0 d; long = length-set t i n } in
    subst (λ z. Sets t i n z) (sym e) w

-- it is what it was
pub sets_none : {t : List ℕ} {i n : ℕ} → get_or t i 0 ≡ n → Sets t i n t
sets_none e = record { here = e; others = λ j d. refl; long = refl }

-- A lower node, and a child -------------------------------------------------------------------------------------------------

-- a lower node has its place too
pub lower_spot : {ns t : List ℕ} {i j : ℕ} → Spot ns t i → j < i → Spot ns t j
lower_spot s h = record { node = record { sound = s.node.sound; inside = omega (arith, s.node.inside) }; room = omega (arith, s.room) }

-- and the node has it in every stretch of that length
pub same_room : {ns t t' : List ℕ} {i : ℕ} → Spot ns t i → length t' ≡ length t → Spot ns t' i
same_room s e = record { node = s.node; room = omega (arith, s.room) }

-- Node x is a child of j, which is i or under it -----------------------------------------------------------------------------

module _ (ns : List ℕ) (tree : Tree (shape ns)) {i j x : ℕ} (u : Under (shape ns) i j) (kid : Kid (shape ns) j x) where
  pub not_above : {n : ℕ} → Under (shape ns) x n → n ≢ i
  not_above v e = omega (arith, under_le (shape ns) tree v, tree.lower j x kid, under_le (shape ns) tree u, e)

  pub kept_above : {A : Type 0} {d d' : ℕ → A} → Kept ns x d d' → Kept ns i d d'
  kept_above h n out = h n (λ v. out (under_trans (shape ns) (up kid u) v))

-- A child of the node itself -------------------------------------------------------------------------------------------------

module _ (ns : List ℕ) where
  pub kept_set : {t t' : List ℕ} {i n : ℕ} → Sets t i n t' → Kept ns i (modes t) (modes t')
  kept_set w j u = w.others j (λ e. u (self e))

  -- what is not under c stays
  pub kept_part : Tree (shape ns) → (c : ℕ) {s : ℕ} {d d' : ℕ → ℕ} → ((j : ℕ) → Under (shape ns) c j → Under (shape ns) s j → ⊥) → Kept ns c d d' → part ns d' s ≡ part ns d s
  kept_part tree c {s} {d} {d'} free h = part_frame ns tree d' d s (λ j u. h j (λ v. free j v u))

  module _ (tree : Tree (shape ns)) {i : ℕ} where
    module _ {c : ℕ} (kid : Kid (shape ns) i c) where
      pub not_own : {j : ℕ} → Under (shape ns) c j → j ≢ i
      not_own u = not_above ns tree (self refl) kid u

      pub kid_lower : c < i
      kid_lower = tree.lower i c kid

      pub kept_kid : {A : Type 0} {d d' : ℕ → A} → Kept ns c d d' → Kept ns i d d'
      kept_kid h = kept_above ns tree (self refl) kid h

      pub own_kept : {A : Type 0} {d d' : ℕ → A} → Kept ns c d d' → d' i ≡ d i
      own_kept h = h i (not_under (shape ns) tree kid)

      -- the node's mode is set
      module _ {t : List ℕ} {m : ℕ} {t' : List ℕ} (w : Sets t i m t') where
        pub same_part : part ns (modes t') c ≡ part ns (modes t) c
        same_part = part_frame ns tree (modes t') (modes t) c (λ j u. w.others j (not_own u))

        pub same_stored : (a : ℕ) (b : Notes) → stored ns a (modes t') (entries b) c ≡ stored ns a (modes t) (entries b) c
        same_stored a b = stored_frame ns tree a (modes t') (modes t) (entries b) (entries b) c (λ j u. w.others j (not_own u)) (λ j u. refl)

        pub spot_down : Spot ns t i → Spot ns t' c
        spot_down s = lower_spot (same_room s w.long) kid_lower

        -- and then something under the child changes
        module _ (t'' : List ℕ) (k : Kept ns c (modes t') (modes t'')) where
          pub mode_after : modes t'' i ≡ m
          mode_after = own_kept k ∙ w.here

          pub kept_up : Kept ns i (modes t) (modes t'')
          kept_up j n = kept_kid k j n ∙ kept_set w j n

          -- the other child stays
          module _ {s : ℕ} (other : Kid (shape ns) i s) (free : (j : ℕ) → Under (shape ns) c j → Under (shape ns) s j → ⊥) where
            stays : (j : ℕ) → Under (shape ns) s j → modes t'' j ≡ modes t j
            stays j u = k j (λ v. free j v u) ∙ w.others j (λ e. not_under (shape ns) tree other (subst (Under (shape ns) s) e u))

            pub beside_part : part ns (modes t'') s ≡ part ns (modes t) s
            beside_part = part_frame ns tree (modes t'') (modes t) s stays

            -- and so do entries, where only those under the child changed
            pub beside_stored : (a : ℕ) (b b' : Notes) → Kept ns c (entries b) (entries b') → stored ns a (modes t'') (entries b') s ≡ stored ns a (modes t) (entries b) s
            beside_stored a b b' l = stored_frame ns tree a (modes t'') (modes t) (entries b') (entries b) s stays (λ j u. l j (λ v. free j v u))
