-- The stretches of the work bytes. In order: lists that agree from a place on; a copy of the modes behind the state; a part that
-- is lent up to the end and comes back; what a search leaves alone; and that a state is only in its own modes. Assumes nothing.
use Prim.Native.Nat.{ℕ, suc, ◌+◌, ◌-◌, ◌*◌, ◌≤◌, ◌<◌}
use mathlib.Core.Path.{◌≡◌, refl, sym, ap, ◌∙◌}
use mathlib.Core.List.{List, [], ◌++◌, append_assoc, append-nil}
use native.Mathlib.Omega.{arith}
use native.Mathlib.Nat.{mul-suc}
use lib.ListN.{length, take, drop, get_or, length-drop, get_or-append, drop_of_length-le}
use lib.Seq.{paste, length-paste, drop-paste, get_or-take, get_or-drop, length-take-le, take_at, drop_at, take_all, drop-drop, ext_get_or}
use borrow.Rule.Slice.PartMut.{put_mid, mid_of}
use Rattle.std.specs.List.{copy_within}
use Rattle.calculus.specs.Records.{std, cmp}
use Rattle.flow.specs.Kinds.{shape}
use Rattle.flow.specs.Trees.{Under}
use Rattle.flow.specs.Nodes.{under_le}
use Rattle.flow.specs.Refusals.{count, root}
use Rattle.states.specs.State.{modes}
use Rattle.states.specs.StateLaws.{part_frame}
use Rattle.states.specs.Clauses.{Sound, Kept}
use Rattle.states.specs.Rows.{notes}
use Rattle.seek.specs.WeighedLaws.{noted_still}
use Rattle.states.specs.Roles.{ok}
use Rattle.states.specs.declared.Role.{Role}
use Rattle.states.specs.declared.Role.TheVariants.{Plain, Running}
use Rattle.search.specs.Visits.{state, stretches, Used, RightCounts}

-- Lists that agree from a place on ---------------------------------------------------------------------------------------

from_on : (a b : List ℕ) (i : ℕ) → length a ≡ length b → ((j : ℕ) → i ≤ j → get_or a j 0 ≡ get_or b j 0) → drop i a ≡ drop i b
from_on a b i l f = ext_get_or 0 (drop i a) (drop i b) (length-drop i a ∙ ap (λ n. n - i) l ∙ sym (length-drop i b))
    (λ j h. get_or-drop i a j 0 ∙ f (i + j) (omega arith) ∙ sym (get_or-drop i b j 0))

later : (a b : List ℕ) (i j : ℕ) → i ≤ j → drop i a ≡ drop i b → drop j a ≡ drop j b
later a b i j h e =
    let s : i + (j - i) ≡ j = omega arith in
    ap (λ n. drop n a) (sym s) ∙ sym (drop-drop (j - i) i a) ∙ ap (drop (j - i)) e ∙ drop-drop (j - i) i b ∙ ap (λ n. drop n b) s

-- The copy ----------------------------------------------------------------------------------------------------------------

pub copied : (d x : List ℕ) (n : ℕ) → x ≡ copy_within d 0 n (2 * n) → x ≡ paste d (2 * n) d n
copied d x n e = let z : n - 0 ≡ n = omega arith in e ∙ ap (paste d (2 * n) d) z

head_at : (d : List ℕ) (w i : ℕ) → i < w → w ≤ length d → (r : List ℕ) → get_or (take w d ++ r) i 0 ≡ get_or d i 0
head_at d w i h k r = get_or-append (take w d) r 0 i (rw (length-take-le w d k) h) ∙ get_or-take w d i 0 h

module _ (d x : List ℕ) (w i : ℕ) (e : x ≡ paste d w d i) where
  pub copy_length : w + i ≤ length d → length x ≡ length d
  copy_length k = ap length e ∙ length-paste d w d i k (omega arith)

  copy_before : w + i ≤ length d → take w x ≡ take w d
  copy_before k = rw (e, append_assoc (take w d) (take i d) (drop (w + i) d)) (take_at (take w d) (take i d ++ drop (w + i) d) w (length-take-le w d (omega arith)))

  copy_behind : w + i ≤ length d → drop w x ≡ take i d ++ drop (w + i) d
  copy_behind k = rw (e, append_assoc (take w d) (take i d) (drop (w + i) d)) (drop_at (take w d) (take i d ++ drop (w + i) d) w (length-take-le w d (omega arith)))

  copy_after : w + i ≤ length d → drop (w + i) x ≡ drop (w + i) d
  copy_after k = ap (drop (w + i)) e ∙ drop-paste d w d i (omega arith) (omega arith)

  -- the copy has the modes
  pub copy_same : w + i ≤ length d → (j : ℕ) → j < i → get_or (drop w x) j 0 ≡ get_or d j 0
  copy_same k j h = ap (λ l. get_or l j 0) (copy_behind k) ∙ head_at d i j h (omega arith) (drop (w + i) d)

-- A part up to the end ----------------------------------------------------------------------------------------------------

module _ (w : ℕ) (x : List ℕ) (h : w ≤ length x) where
  pub tail_is : mid_of w (length x - w) x ≡ drop w x
  tail_is = take_all (length x - w) (drop w x) (rw (length-drop w x) (omega arith))

  pub back_is : (ys : List ℕ) → put_mid w (length x - w) x ys ≡ take w x ++ ys
  back_is ys =
      let none : drop (length x - w) (drop w x) ≡ [] = drop_of_length-le (drop w x) {i = length x - w} (rw (length-drop w x) (omega arith)) in
      ap (λ l. take w x ++ (ys ++ l)) none ∙ ap (λ l. take w x ++ l) (append-nil ys)

  pub front_length : length (take w x) ≡ w
  front_length = length-take-le w x h

-- What is left alone --------------------------------------------------------------------------------------------------------

pub stretches_next : (n m : ℕ) → stretches n (suc m) ≡ 2 * n + stretches n m
unfolding stretches
stretches_next n m = mul-suc (2 * n) m ∙ omega arith

pub stretches_some : (n m : ℕ) → 1 ≤ m → 2 * n ≤ stretches n m
stretches_some n m h =
    let e : suc (m - 1) ≡ m = omega arith in
    let q = ap (stretches n) (sym e) ∙ stretches_next n (m - 1) in
    omega arith

pub used_same : (n m : ℕ) (t : List ℕ) → Used n m t t
used_same n m t = record { own = refl; rest = refl }

pub used_trans : {n m : ℕ} {t t' t'' : List ℕ} → Used n m t t' → Used n m t' t'' → Used n m t t''
used_trans p q = record { own = q.own ∙ p.own; rest = q.rest ∙ p.rest }

-- d at entry, x with the copy, p the part with the successor, y with it, q what the search leaves of the part, z with that
module _ (n m : ℕ) (d x p y q z : List ℕ) (some : 1 ≤ m) (room : stretches n (suc m) ≤ length d)
    (e : x ≡ paste d (2 * n) d n)
    (same : length p ≡ length (drop (2 * n) x)) (kept : (j : ℕ) → n ≤ j → get_or p j 0 ≡ get_or (drop (2 * n) x) j 0)
    (ey : y ≡ take (2 * n) x ++ p) (used : Used n m p q) (ez : z ≡ take (2 * n) y ++ q) where
  two : 2 * n + 2 * n ≤ length d
  two = omega (arith, stretches_next n m, stretches_some n m some)

  x_length : length x ≡ length d
  x_length = copy_length d x (2 * n) n e (omega (arith, two))

  y_front : take (2 * n) y ≡ take (2 * n) d
  y_front =
      ap (take (2 * n)) ey
      ∙ take_at (take (2 * n) x) p (2 * n) (front_length (2 * n) x (omega (arith, two, x_length)))
      ∙ copy_before d x (2 * n) n e (omega (arith, two))

  front : length (take (2 * n) y) ≡ 2 * n
  front = ap length y_front ∙ front_length (2 * n) d (omega (arith, two))

  behind : drop (stretches n m) p ≡ drop (2 * n + stretches n m) d
  behind =
      let u : ℕ = stretches n m in
      let o = stretches_some n m some in
      later p (drop (2 * n) x) n u (omega arith) (from_on p (drop (2 * n) x) n same kept)
      ∙ drop-drop u (2 * n) x
      ∙ later x d (2 * n + n) (2 * n + u) (omega arith) (copy_after d x (2 * n) n e (omega (arith, two)))

  pub used_deeper : Used n (suc m) d z
  used_deeper = record {
    own = ap (take (2 * n)) ez ∙ take_at (take (2 * n) y) q (2 * n) front ∙ y_front;
    rest = rw (stretches_next n m)
        (sym (drop-drop (stretches n m) (2 * n) z)
        ∙ ap (λ l. drop (stretches n m) (drop (2 * n) l)) ez
        ∙ ap (drop (stretches n m)) (drop_at (take (2 * n) y) q (2 * n) front)
        ∙ used.rest
        ∙ behind);
  }

-- A state is in its own modes -----------------------------------------------------------------------------------------------

module _ (ns : List ℕ) (sound : Sound ns) (some : 3 ≤ length ns) where
  below : {j : ℕ} → Under (shape ns) (root ns) j → j < count ns
  below u = let l = under_le (shape ns) sound.tree u in omega arith

  -- what is not under the root is kept
  pub kept_from : (t t' : List ℕ) → Kept ns (root ns) (modes t) (modes t') → (j : ℕ) → count ns ≤ j → get_or t' j 0 ≡ get_or t j 0
  kept_from t t' k j h = k j (λ u. let l = below u in omega arith)

  module _ (t t' : List ℕ) (same : (j : ℕ) → j < count ns → get_or t j 0 ≡ get_or t' j 0) where
    pub state_same : (role : Role) → state ns role t ≡ state ns role t'
    unfolding state
    state_same (Plain s) = ap (λ x. std (x.std s)) (part_frame ns sound.tree (modes t) (modes t') (root ns) (λ j u. same j (below u)))
    state_same Running = ap (λ x. cmp x.run) (part_frame ns sound.tree (modes t) (modes t') (root ns) (λ j u. same j (below u)))

    pub right_same : (role : Role) (a : ℕ) (c d : List ℕ) → RightCounts ns role a t c d → RightCounts ns role a t' c d
    right_same role a c d r = record { long = r.long; right = noted_still ns sound.tree a (root ns) t t' (notes c d) (notes c d) (λ j u. same j (below u)) (λ j u. refl) (ok role) r.right }

  pub used_modes : (m : ℕ) (t t' : List ℕ) → Used (count ns) m t t' → (j : ℕ) → j < count ns → get_or t j 0 ≡ get_or t' j 0
  used_modes m t t' u j h =
      sym (get_or-take (2 * count ns) t j 0 (omega arith)) ∙ ap (λ l. get_or l j 0) (sym u.own) ∙ get_or-take (2 * count ns) t' j 0 (omega arith)
