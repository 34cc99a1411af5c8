-- The tables after a node is noted, in any role: a node without live parts, with one, and with two, whatever their roles. Assumes nothing.
use Rattle.std.specs.Prelude.{ℕ, ◌≡◌, refl, Bool, List, ◌≢◌, length}
use Rattle.std.proofs.Math.Path.{sym, ap, subst}
use Rattle.std.proofs.Common.{◌∙◌}
use Rattle.std.proofs.Math.Dec.{T}
use Rattle.calculus.specs.Term.{skip}
use Rattle.calculus.proofs.Members.{and_in, and_left, and_right}
use Rattle.flow.specs.declared.Two.{Two}
use Rattle.flow.specs.Kinds.{shape}
use Rattle.flow.specs.Shapes.{Kid}
use Rattle.flow.specs.Trees.{Under, self, Tree}
use Rattle.tallies.specs.declared.View.{View}
use Rattle.tallies.specs.Formulas.{skip_v, pair_w}
use Rattle.tallies.specs.Bare.{bare_w}
use Rattle.tallies.specs.Counts.{view}
use Rattle.tallies.proofs.CountsLaws.{view_skip, word_pair}
use Rattle.states.specs.declared.Sense.TheVariants.{Undoing}
use Rattle.states.specs.declared.Role.{Role}
use Rattle.states.specs.declared.Role.TheVariants.{Plain}
use Rattle.states.specs.State.{modes}
use Rattle.states.specs.Rows.{Written, Notes, notes, entries}
use Rattle.states.specs.Stored.{Right, held_word, counted_std, own}
use Rattle.states.specs.StateLaws.{noted_frame, stored_own}
use Rattle.states.specs.NotedLaws.{noted_in, held_in}
use Rattle.states.specs.Roles.{get, Sight, look, Keeps, ok}
use Rattle.states.specs.Clauses.{Spot, Kept, Scene, part_at, stored_at, noted_at, Writes, Counted}
use Rattle.states.specs.LiveParts.{Twins}
use Rattle.states.specs.ChildLaws.{not_above, kept_above}

-- as the pass leaves what is under x: right in a way, and the rest as it was
pub record Leaves (s : Scene) (f : Right → Bool) (x : ℕ) (c c' : Notes) : Type 0 where
  pub right : T (f (noted_at s c' x))
  pub kept : Kept s.ns x (entries c) (entries c')
  pub long : length c'.rows ≡ length c.rows

pub leaves : {s : Scene} {r : Role} {x : ℕ} {c c' : Notes} {v : Sight r} → Counted s r x c c' v → Leaves s (ok r) x c c'
leaves h = record { right = h.right; kept = h.kept; long = h.long }

abbrev pub held_of : Right → Bool
held_of z = z.held

module _ (s : Scene) {i : ℕ} (spot : Spot s.ns s.t i) where
  abbrev pub tree : Tree (shape s.ns)
  tree = spot.node.sound.tree

  -- entries that are the same under x are as right there
  moved : (f : Right → Bool) (x : ℕ) (c c' : Notes) → ((j : ℕ) → Under (shape s.ns) x j → entries c j ≡ entries c' j) → T (f (noted_at s c x)) → T (f (noted_at s c' x))
  moved f x c c' e h = subst (λ z. T (f z)) (noted_frame s.ns tree s.a (modes s.t) (modes s.t) (entries c) (entries c') x (λ j u. refl) e) h

  -- node j is i or under it, and its parts were counted before i is noted
  module _ {j : ℕ} (u : Under (shape s.ns) i j) where
    child_noted : (f : Right → Bool) {x : ℕ} → Kid (shape s.ns) j x → (c c' : Notes) → ((n : ℕ) → n ≢ i → entries c' n ≡ entries c n) → T (f (noted_at s c x)) → T (f (noted_at s c' x))
    child_noted f {x} kid c c' w h = moved f x c c' (λ n v. sym (w n (not_above s.ns tree u kid v))) h

  module _ (r : Role) where
    -- what a step of the node looks at is right exactly if b
    abbrev pub Whole : Notes → Bool → Type 0
    Whole c b = ok r (stored_at s c i) ≡ b

    abbrev pub Sees : Sight r → Type 0
    Sees v = v ≡ look r s.a (get r (part_at s i))

    whole_noted : (b : Bool) {c c₁ c₂ : Notes} {v : Sight r} → Sees v → Whole c₂ b → T b → Kept s.ns i (entries c) (entries c₁) → length c₁.rows ≡ length c.rows → Writes r c₁ i v c₂ → Counted s r i c c₂ v
    whole_noted b {c} {c₁} {c₂} e er h k l w = record {
      seen = e;
      right = noted_in s.ns s.a (modes s.t) (entries c₂) i r (subst (λ v. Keeps r (entries c₂ i) v) e w.here) (subst T (sym er) h);
      kept = λ j n. w.others j (λ q. n (self q)) ∙ k j n;
      long = w.long ∙ l;
    }

    pub none_noted : (b : Bool) → T b → {c c' : Notes} {v : Sight r} → Sees v → Whole c' b → Writes r c i v c' → Counted s r i c c' v
    none_noted b h e er w = whole_noted b e er h (λ j n. refl) refl w

    module _ {j : ℕ} (u : Under (shape s.ns) i j) where
      pub one_noted : (f : Right → Bool) {x : ℕ} → Kid (shape s.ns) j x → {c c₁ c₂ : Notes} {v : Sight r} → Leaves s f x c c₁
          → (b : Bool) → (T (f (noted_at s c₂ x)) → T b) → Sees v → Whole c₂ b → Writes r c₁ i v c₂ → Counted s r i c c₂ v
      one_noted f kid {c₁ = c₁} {c₂} h b only e er w = whole_noted b e er (only (child_noted u f kid c₁ c₂ w.others h.right)) (kept_above s.ns tree u kid h.kept) h.long w

      pub two_noted : (f g : Right → Bool) {x : Two} → Twins s.ns j x → {c c₁ c₂ c₃ : Notes} {v : Sight r}
          → Leaves s f x.first c c₁ → Leaves s g x.second c₁ c₂
          → (b : Bool) → (T (f (noted_at s c₃ x.first)) → T (g (noted_at s c₃ x.second)) → T b)
          → Sees v → Whole c₃ b → Writes r c₂ i v c₃ → Counted s r i c c₃ v
      two_noted f g {x} kids {c} {c₁} {c₂} {c₃} h k b both e er w =
          let still = moved f x.first c₁ c₂ (λ n v. sym (k.kept n (λ y. kids.free n v y))) h.right in
          whole_noted b e er (both (child_noted u f kids.one c₂ c₃ w.others still) (child_noted u g kids.other c₂ c₃ w.others k.right))
          (λ n out. kept_above s.ns tree u kids.other k.kept n out ∙ kept_above s.ns tree u kids.one h.kept n out) (k.long ∙ h.long) w

  -- what is held is counted as what it is, and then its row is written
  pub held_leaves : {x : ℕ} {c c₁ : Notes} {p : View} {d : List ℕ} → Counted s (Plain Undoing) x c c₁ p → Written c₁.rows x (pair_w skip_v p) d → Leaves s held_of x c (notes c₁.steps d)
  unfolding own
  held_leaves {x} {c} {c₁} {p} {d} h w =
      let ns = s.ns in let a = s.a in let m = modes s.t in let c₂ = notes c₁.steps d in
      let others : (j : ℕ) → j ≢ x → entries c₂ j ≡ entries c₁ j = λ j n z. record { steps = (entries c₁ j).steps; row = w.others j n z } in
      let own_right = and_left (counted_std ns a m (entries c₁) Undoing x) ((stored_at s c₁ x).std Undoing) h.right in
      let below = and_right (counted_std ns a m (entries c₁) Undoing x) ((stored_at s c₁ x).std Undoing) h.right in
      let below' = subst (λ (z : Right). T (z.std Undoing)) (stored_own ns tree a m (entries c₁) (entries c₂) x others) below in
      let is : pair_w skip_v p ≡ held_word a ((part_at s x).std Undoing) = ap (pair_w skip_v) h.seen ∙ sym (word_pair a skip ((part_at s x).std Undoing) ∙ ap (λ v. pair_w v (view a ((part_at s x).std Undoing))) (view_skip a)) in
      record {
        right = held_in ns a m (entries c₂) x tree (and_in (counted_std ns a m (entries c₂) Undoing x) ((stored_at s c₂ x).std Undoing) own_right below') (w.here ∙ ap bare_w is);
        kept = λ j n. others j (λ q. n (self q)) ∙ h.kept j n;
        long = w.long ∙ h.long;
      }
