-- What holds at a node whose child makes a step, whatever it is: its term, its room and its counts from what is left of it, and how
-- a step of a child is one of the node (`handed`, `handed_by`, `handed_past`). Assumes nothing.
use Rattle.std.specs.Prelude.{ℕ, ◌<◌, ◌≡◌, refl, List, T, length}
use Rattle.std.proofs.Common.{sym, ◌∙◌, ap, subst, subst₂, arith}
use Rattle.flow.specs.Kinds.{node, shape}
use Rattle.flow.specs.Shapes.{Kid}
use Rattle.flow.specs.Trees.{Under, self, up, Tree}
use Rattle.flow.specs.Nodes.{under_trans}
use Rattle.tallies.specs.Capped.{cap}
use Rattle.tallies.specs.Places.{At}
use Rattle.states.specs.declared.Role.{Role}
use Rattle.states.specs.declared.Role.TheVariants.{Plain, Running}
use Rattle.states.specs.State.{Part, part, modes}
use Rattle.states.specs.Rows.{Notes, notes, Entry, entries}
use Rattle.states.specs.Stored.{over, stored, noted}
use Rattle.states.specs.StateLaws.{std_part, run_part, std_stored, run_stored}
use Rattle.states.specs.Roles.{get, nexts, many, ok}
use Rattle.states.specs.Clauses.{Scene, scene, part_at, stored_at, noted_at, Kept, Sets, Ready}
use Rattle.states.specs.ChildLaws.{lower_spot, same_room, kept_set, kept_part, kid_lower, kept_kid, own_kept, same_part, same_stored, mode_after, kept_up, beside_part, beside_stored}
use Rattle.states.specs.Hands.{Move, move, Stance, stance_of, HandsBy, hands}
use Rattle.steps.specs.Turns.{Turned, Reached, stance_term, stance_right}

-- A node by its role ---------------------------------------------------------------------------------------------------------

module _ (ns : List ℕ) (tree : Tree (shape ns)) (a : ℕ) (m : ℕ → ℕ) (c : ℕ → Entry) (i : ℕ) where
  term_is : (r : Role) → get r (part ns m i) ≡ stance_term r (stance_of r (node ns i) (m i)) (part ns m)
  term_is (Plain s) = std_part ns tree m i s
  term_is Running = run_part ns tree m i

  right_is : (r : Role) → ok r (stored ns a m c i) ≡ stance_right r (stance_of r (node ns i) (m i)) (over ns a m) (noted ns a m c) (stored ns a m c)
  right_is (Plain s) = std_stored ns tree a m c i s
  right_is Running = run_stored ns tree a m c i

-- A step is handed down ------------------------------------------------------------------------------------------------------

-- of node i is left x
module _ {s : Scene} {r : Role} {c : Notes} {i k : ℕ} (h : Ready s r c i k) {x : Stance r} (e : stance_of r (node s.ns i) (modes s.t i) ≡ x) where
  abbrev pub tree_of : Tree (shape s.ns)
  tree_of = h.spot.node.sound.tree

  term_before : get r (part_at s i) ≡ stance_term r x (part_at s)
  term_before = term_is s.ns tree_of s.a (modes s.t) (entries c) i r ∙ ap (λ z. stance_term r z (part_at s)) e

  pub step_room : k < cap (length (nexts r (stance_term r x (part_at s)) s.a))
  step_room = subst (λ z. k < cap (length (nexts r z s.a))) term_before h.room

  pub parts_right : T (stance_right r x (over s.ns s.a (modes s.t)) (noted_at s c) (stored_at s c))
  parts_right = subst T (right_is s.ns tree_of s.a (modes s.t) (entries c) i r ∙ ap (λ z. stance_right r z (over s.ns s.a (modes s.t)) (noted_at s c) (stored_at s c)) e) h.right

  -- and in modes t'' x'
  pub step_goes : {x' : Stance r} (t'' : List ℕ) → stance_of r (node s.ns i) (modes t'' i) ≡ x'
      → At (nexts r (stance_term r x (part_at s)) s.a) k (stance_term r x' (part s.ns (modes t'')))
      → At (nexts r (get r (part_at s i)) s.a) k (get r (part s.ns (modes t'') i))
  step_goes t'' e' u =
      let f = term_is s.ns tree_of s.a (modes t'') (entries c) i r ∙ ap (λ z. stance_term r z (part s.ns (modes t''))) e' in
      subst₂ (λ y z. At (nexts r y s.a) k z) (sym term_before) (sym f) u

  module _ (q : Role) {t' : List ℕ} {g : ℕ} (kid : Kid (shape s.ns) i g) where
    -- the modes become t', and then child g makes the step, at place l of its own
    pub handed : {x' : Stance r} {c' : Notes} {l : ℕ} → length c'.rows ≡ length c.rows → stance_of r (node s.ns i) (modes t' i) ≡ x' → Kept s.ns i (modes s.t) (modes t') → length t' ≡ length s.t
        → T (ok q (stored s.ns s.a (modes t') (entries c') g)) → l < many q s.a (part s.ns (modes t') g)
        → ((at : ℕ → Part) → ((j : ℕ) → ((n : ℕ) → Under (shape s.ns) g n → Under (shape s.ns) j n → ⊥) → at j ≡ part s.ns (modes t') j)
        → At (nexts q (get q (part s.ns (modes t') g)) s.a) l (get q (at g)) → At (nexts r (stance_term r x (part_at s)) s.a) k (stance_term r x' at))
        → HandsBy s i k r x t' (move q g l) → Turned s c' (move r i k) t' (move q g l)
    handed {l = l} rows e' w long good room goes way = record {
      lower = kid_lower s.ns tree_of kid;
      under = up kid (self refl);
      ready = record { long = rows ∙ h.long; spot = lower_spot (same_room h.spot long) (kid_lower s.ns tree_of kid); right = good; room = room };
      back = λ t'' z. record {
        goes = step_goes t'' (ap (stance_of r (node s.ns i)) (own_kept s.ns tree_of kid z.kept) ∙ e')
            (goes (part s.ns (modes t'')) (λ j free. kept_part s.ns tree_of g free z.kept) z.goes);
        kept = λ j n. kept_kid s.ns tree_of kid z.kept j n ∙ w j n;
        makes = hands (subst (λ y. HandsBy s i k r y t' (move q g l)) (sym e) way) z.makes;
      };
    }

    -- only the node's mode is set
    pub handed_by : {m : ℕ} {x' : Stance r} {l : ℕ} → Sets s.t i m t' → stance_of r (node s.ns i) m ≡ x'
        → T (ok q (stored_at s c g)) → l < many q s.a (part_at s g)
        → ((at : ℕ → Part) → ((j : ℕ) → Kid (shape s.ns) i j → ((n : ℕ) → Under (shape s.ns) g n → Under (shape s.ns) j n → ⊥) → at j ≡ part_at s j)
        → At (nexts q (get q (part_at s g)) s.a) l (get q (at g)) → At (nexts r (stance_term r x (part_at s)) s.a) k (stance_term r x' at))
        → HandsBy s i k r x t' (move q g l) → Turned s c (move r i k) t' (move q g l)
    handed_by {m} {x'} {l} w e' good room goes way =
        let same : part s.ns (modes t') g ≡ part_at s g = same_part s.ns tree_of kid w in
        handed refl (ap (stance_of r (node s.ns i)) w.here ∙ e') (kept_set s.ns w) w.long
        (subst (λ z. T (ok q z)) (sym (same_stored s.ns tree_of kid w s.a c)) good)
        (subst (λ z. l < many q s.a z) (sym same) room)
        (λ at beside u. goes at (λ j other free. beside j free ∙ same_part s.ns tree_of other w) (subst (λ z. At (nexts q (get q z) s.a) l (get q (at g))) same u)) way

    -- it is set, and something under another child d changes
    module _ {d : ℕ} (other : Kid (shape s.ns) i d) (free : (n : ℕ) → Under (shape s.ns) d n → Under (shape s.ns) g n → ⊥) where
      pub handed_past : {m : ℕ} {t₁ : List ℕ} {x' : Stance r} {c' : Notes} {l : ℕ} → Kept s.ns d (entries c) (entries c') → length c'.rows ≡ length c.rows → Sets s.t i m t₁ → Kept s.ns d (modes t₁) (modes t') → length t' ≡ length t₁ → stance_of r (node s.ns i) m ≡ x'
          → T (ok q (stored_at s c g)) → l < many q s.a (part_at s g)
          → ((at : ℕ → Part) → at d ≡ part s.ns (modes t') d → At (nexts q (get q (part_at s g)) s.a) l (get q (at g)) → At (nexts r (stance_term r x (part_at s)) s.a) k (stance_term r x' at))
          → HandsBy s i k r x t' (move q g l) → Turned s c' (move r i k) t' (move q g l)
      handed_past {c' = c'} {l} kept rows w keep long e' good room goes way =
          let same : part s.ns (modes t') g ≡ part_at s g = beside_part s.ns tree_of other w t' keep kid free in
          handed rows (ap (stance_of r (node s.ns i)) (mode_after s.ns tree_of other w t' keep) ∙ e') (kept_up s.ns tree_of other w t' keep) (long ∙ w.long)
          (subst (λ z. T (ok q z)) (sym (beside_stored s.ns tree_of other w t' keep kid free s.a c c' kept)) good)
          (subst (λ z. l < many q s.a z) (sym same) room)
          (λ at beside u. goes at (beside d (λ n v z. free n z v)) (subst (λ z. At (nexts q (get q z) s.a) l (get q (at g))) same u)) way

-- what is kept outside a node is kept outside what it is under
pub kept_under : (ns : List ℕ) {i j : ℕ} {d d' : ℕ → Entry} → Under (shape ns) i j → Kept ns j d d' → Kept ns i d d'
kept_under ns u h n out = h n (λ v. out (under_trans (shape ns) u v))

-- the tables before are those of the start
pub same_tables : {c c₀ : List ℕ} (d : List ℕ) → c ≡ c₀ → (j : ℕ) → entries (notes c d) j ≡ entries (notes c₀ d) j
same_tables d e j = ap (λ c. entries (notes c d) j) e

-- A step comes down ----------------------------------------------------------------------------------------------------------

pub reached_self : {s : Scene} {c : Notes} {r : Role} {i k : ℕ} → Ready s r c i k → Reached s c (move r i k) s.t (move r i k)
reached_self h = record { low = omega arith; under = self refl; long = refl; ready = h; back = λ t'' w. w }

pub reached_on : {s : Scene} {c : Notes} {x y z : Move} {t' t'' : List ℕ} → Reached s c x t' y → Turned (scene s.ns t' s.a) c y t'' z → length t'' ≡ length t' → Reached s c x t'' z
reached_on {s} h w long = record { low = omega (arith, h.low, w.lower); under = under_trans (shape s.ns) h.under w.under; long = long ∙ h.long; ready = w.ready; back = λ u v. h.back u (w.back u v) }
