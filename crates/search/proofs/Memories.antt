-- What is remembered: that it is right for the records after the first too, and stays right by what a search adds; that an empty
-- memory has nothing to be right about; and what a state that is recalled is worth. Assumes nothing.
use Prim.Native.Nat.{ℕ, zero, suc, ◌+◌, ◌-◌, ◌≤◌, ◌<◌}
use mathlib.Core.Path.{◌≡◌, refl, sym, ap, ◌∙◌, subst}
use mathlib.Core.Bool.{false, cond}
use mathlib.Core.Logic.{◌⊎◌, inl, inr}
use mathlib.Core.List.{List, []}
use native.Mathlib.Omega.{arith}
use lib.ListN.{length, drop, get_or, replicate, length-drop}
use lib.Seq.{drop-drop}
use borrow.Author.Tests.{lt-leb, le-leb}
use Rattle.calculus.specs.Records.{Record, State}
use Rattle.calculus.specs.Search.{visit}
use Rattle.calculus.specs.Spending.{Out as Found, spent, back, visit_b, left_of}
use Rattle.calculus.proofs.Budget.{visit_left, back_seen}
use Rattle.flow.specs.Cues.{cue_records}
use Rattle.flow.specs.Refusals.{count}
use Rattle.states.specs.declared.Sense.TheVariants.{Drawn, Undoing}
use Rattle.states.specs.declared.Role.{Role}
use Rattle.states.specs.declared.Role.TheVariants.{Plain, Running}
use Rattle.states.specs.Clauses.{Sound}
use Rattle.memory.specs.declared.Sight.{Sight}
use Rattle.memory.specs.declared.Slot.{Slot}
use Rattle.memory.specs.Memory.{empty, slot_at, remembered, Held, Same}
use Rattle.memory.specs.MemoryLaws.{remembered_held, zeros_held, empty_held}
use Rattle.search.specs.declared.Trip.{Trip}
use Rattle.std.specs.Prelude.{Option, Some, None}
use Rattle.search.specs.Visits.{state, out_of, role_number, key_of, saw_none, last, Has, Strikes, Settled, Asking, Knows, Truthful, SearchedState, Learned, Added, KeptOut}
use Rattle.search.proofs.Asks.{asking_still, settled_still}
use Rattle.search.proofs.Stretches.{state_same}

-- Keys --------------------------------------------------------------------------------------------------------------------

small : (role : Role) → role_number role < 4
unfolding role_number
small (Plain Drawn) = omega arith
small (Plain Undoing) = omega arith
small Running = omega arith

same_rank : (role role' : Role) → role_number role ≡ role_number role' → role ≡ role'
unfolding role_number
same_rank (Plain Drawn) (Plain Drawn) e = refl
same_rank (Plain Drawn) (Plain Undoing) e = absurd (omega arith)
same_rank (Plain Drawn) Running e = absurd (omega arith)
same_rank (Plain Undoing) (Plain Drawn) e = absurd (omega arith)
same_rank (Plain Undoing) (Plain Undoing) e = refl
same_rank (Plain Undoing) Running e = absurd (omega arith)
same_rank Running (Plain Drawn) e = absurd (omega arith)
same_rank Running (Plain Undoing) e = absurd (omega arith)
same_rank Running Running e = refl

module _ (role role' : Role) (d d' : ℕ) (e : key_of role d ≡ key_of role' d') where
  key_depth : d ≡ d'
  key_depth = omega (arith, small role, small role')

  key_role : role ≡ role'
  key_role = same_rank role role' (omega (arith, small role, small role'))

pub key_small : (role : Role) (d : ℕ) → d ≤ 256 → key_of role d ≤ 4000
key_small role d h = omega (arith, small role)

-- The last records --------------------------------------------------------------------------------------------------------

last_all : (xs : List ℕ) → last (length xs) xs ≡ xs
last_all xs = let z : length xs - length xs ≡ 0 = omega arith in ap (λ n. drop n xs) z

last_rest : (d : ℕ) (xs : List ℕ) → 1 ≤ length xs → d ≤ length (drop 1 xs) → last d (drop 1 xs) ≡ last d xs
last_rest d xs some h =
    let l = length-drop 1 xs in
    let e : 1 + (length (drop 1 xs) - d) ≡ length xs - d = omega arith in
    drop-drop (length (drop 1 xs) - d) 1 xs ∙ ap (λ n. drop n xs) e

-- What is learned ---------------------------------------------------------------------------------------------------------

-- what was found out of a state, by the records after the first and by all of them; and with more asks answered
abbrev Finds : List ℕ → List ℕ → List ℕ → Role → List ℕ → Sight → Type 0
Finds ns l qs role t x = (visit (cue_records l) (state ns role t) ≡ saw_none x) × Settled (state ns role t) (cue_records l) qs

module _ {ns : List ℕ} {qs : List ℕ} {role : Role} {t : List ℕ} {x : Sight} where
  knows_by : {xs xs' : List ℕ} {d d' : ℕ} → last d xs ≡ last d' xs' → Knows ns xs qs role d t x → Knows ns xs' qs role d' t x
  knows_by {xs} {xs'} {d} {d'} e k = let z = subst (λ l. Finds ns l qs role t x) e (k.saw, k.settled) in record { saw = z.0; settled = z.1 }

  knows_still : {xs : List ℕ} {d : ℕ} {s : State} {rs : List Record} {qs' : List ℕ} → Strikes s rs qs qs' → Knows ns xs qs role d t x → Knows ns xs qs' role d t x
  knows_still f k = record { saw = k.saw; settled = settled_still k.settled f }

module _ (ns xs : List ℕ) where
  pub learned_same : (qs : List ℕ) (m : List Slot) → Learned ns xs qs m m
  learned_same qs m key t x h = inl h

  searched_still : {s : State} {rs : List Record} {qs qs' : List ℕ} {key : ℕ} {t : List ℕ} {x : Sight} → Strikes s rs qs qs' → SearchedState ns xs qs key t x → SearchedState ns xs qs' key t x
  searched_still f s = record { role = s.role; depth = s.depth; is = s.is; within = s.within; knows = knows_still f s.knows }

  -- what was learned stays learned when more asks are answered
  pub learned_trans : {s : State} {rs : List Record} {qs qs' : List ℕ} {m m' m'' : List Slot} → Strikes s rs qs qs' → Learned ns xs qs m m' → Learned ns xs qs' m' m'' → Learned ns xs qs' m m''
  learned_trans {qs = qs} {qs'} {m} {m'} {m''} e f g key t x h = by (g key t x h)
    where
      first : Has ns xs m key t x ⊎ SearchedState ns xs qs key t x → Has ns xs m key t x ⊎ SearchedState ns xs qs' key t x
      first (inl k) = inl k
      first (inr s) = inr (searched_still e s)

      by : Has ns xs m' key t x ⊎ SearchedState ns xs qs' key t x → Has ns xs m key t x ⊎ SearchedState ns xs qs' key t x
      by (inl k) = first (f key t x k)
      by (inr s) = inr s

  -- what was right stays right
  pub truthful_still : {s : State} {rs : List Record} {qs qs' : List ℕ} {m m' : List Slot} → Truthful ns xs qs m → Strikes s rs qs qs' → Learned ns xs qs' m m' → Truthful ns xs qs' m'
  truthful_still {qs = qs} {qs'} {m} {m'} f e g = record { asking = asking_still e f.asking; right = λ role d few t x h. by role d few t x (g (key_of role d) t x h) }
    where
      by : (role : Role) (d : ℕ) → d ≤ length xs → (t : List ℕ) (x : Sight) → Has ns xs m (key_of role d) t x ⊎ SearchedState ns xs qs' (key_of role d) t x → Knows ns xs qs' role d t x
      by role d few t x (inl k) = knows_still e (f.right role d few t x k)
      by role d few t x (inr s) =
          subst (λ z. Knows ns xs qs' z d t x) (sym (key_role role s.role d s.depth s.is))
          (subst (λ n. Knows ns xs qs' s.role n t x) (sym (key_depth role s.role d s.depth s.is)) s.knows)

  -- the records after the first
  module _ (some : 1 ≤ length xs) where
    pub truthful_rest : {qs : List ℕ} {m : List Slot} → Truthful ns xs qs m → Truthful ns (drop 1 xs) qs m
    truthful_rest {qs} {m} f = record {
      asking = f.asking;
      right = λ role d few t x h. knows_by (sym (last_rest d xs some few)) (f.right role d (let l = length-drop 1 xs in omega arith) t x h);
    }

    pub learned_rest : {qs : List ℕ} {m m' : List Slot} → Learned ns (drop 1 xs) qs m m' → Learned ns xs qs m m'
    learned_rest {qs} {m} {m'} f key t x h = by (f key t x h)
      where
        by : Has ns (drop 1 xs) m key t x ⊎ SearchedState ns (drop 1 xs) qs key t x → Has ns xs m key t x ⊎ SearchedState ns xs qs key t x
        by (inl k) = inl k
        by (inr s) =
            let l = length-drop 1 xs in
            let w = s.within in
            inr (record {
              role = s.role;
              depth = s.depth;
              is = s.is;
              within = omega arith;
              knows = knows_by (last_rest s.depth xs some s.within) s.knows;
            })

module _ (ns xs qs : List ℕ) (asks : Asking qs) where
  -- nothing is remembered
  pub truthful_none : Truthful ns xs qs []
  truthful_none = record { asking = asks; right = λ role d few t x h. absurd (empty_held h) }

  -- nor of slots without a key
  pub truthful_zeros : (m : List Slot) → ((j : ℕ) → (slot_at m j).key ≡ 0) → Truthful ns xs qs m
  truthful_zeros m z = record {
    asking = asks;
    right = λ role d few t x h. let q = zeros_held z h in absurd (omega (arith, small role));
  }

  -- so many empty slots
  pub truthful_fresh : (n : ℕ) → Truthful ns xs qs (replicate n empty)
  truthful_fresh n = truthful_zeros (replicate n empty) (keyless n)
    where
      keyless : (n j : ℕ) → (slot_at (replicate n empty) j).key ≡ 0
      keyless zero j = refl
      keyless (suc n) zero = refl
      keyless (suc n) (suc j) = keyless n j

-- A state that is recalled, and one that is kept ----------------------------------------------------------------------------

module _ {ns xs qs : List ℕ} {m : List Slot} (f : Truthful ns xs qs m) (role : Role) (t : List ℕ) (left : ℕ) (x : Sight) (h : Has ns xs m (key_of role (length xs)) t x) where
  found : Finds ns xs qs role t x
  found = let k = f.right role (length xs) (omega arith) t x h in subst (λ l. Finds ns l qs role t x) (last_all xs) (k.saw, k.settled)

  pub recalled_out : (o : Option Trip) → out_of o ≡ left_of (saw_none x) left → out_of o ≡ visit_b (cue_records xs) (state ns role t) left
  recalled_out o e = e ∙ ap (λ z. left_of z left) (sym found.0) ∙ sym (visit_left (cue_records xs) (state ns role t) left)

  pub recalled_settled : Settled (state ns role t) (cue_records xs) qs
  recalled_settled = found.1

-- the code's two ways
module _ (x : Sight) (left : ℕ) where
  pub known_spent : left < x.entered → out_of None ≡ left_of (saw_none x) left
  unfolding out_of left_of
  known_spent h = sym (ap (λ c. cond c (back false x.reached (left - x.entered)) spent) (lt-leb x.entered left h))

  pub known_back : x.entered ≤ left → out_of (Some (record { found = false; far = x.reached; left = left - x.entered })) ≡ left_of (saw_none x) left
  unfolding out_of left_of
  known_back h = sym (ap (λ c. cond c (back false x.reached (left - x.entered)) spent) (le-leb x.entered left h))

pub added : {m m' : List Slot} {t : List ℕ} {n key : ℕ} (p : ℕ) {left : ℕ} {trip : Trip} {x₀ : Sight} → n ≤ 64 → trip.left ≤ left → trip.found ≡ false
    → x₀.entered ≡ left - trip.left → x₀.reached ≡ trip.far → m' ≡ remembered m p t n key x₀ → KeptOut n key t left (out_of (Some trip)) m m'
unfolding out_of
added {m} {m'} {t} {n} {key} p {left} {trip} {x₀} few less none ee er r = record { adds = λ key' t' x h. by key' t' x (remembered_held m p t n key x₀ few r h) }
  where
    by : (key' : ℕ) (t' : List ℕ) (x : Sight) → Held m n key' t' x ⊎ (Same n key' t' key t × (x ≡ x₀)) → Held m n key' t' x ⊎ Added n key t left (back trip.found trip.far trip.left) x key' t'
    by key' t' x (inl k) = inl k
    by key' t' x (inr p) = inr (record {
      same = p.0;
      rest = trip.left;
      less = less;
      none = (λ i. back (none i) trip.far trip.left) ∙ ap (λ d. back false d trip.left) (sym er ∙ sym (ap (λ (y : Sight). y.reached) p.1));
      entered = ap (λ (y : Sight). y.entered) p.1 ∙ ee;
    })

pub not_added : (n key : ℕ) (t : List ℕ) (left : ℕ) (o : Found) (m : List Slot) → KeptOut n key t left o m m
not_added n key t left o m = record { adds = λ key' t' x h. inl h }

module _ (ns xs : List ℕ) (sound : Sound ns) (enough : 3 ≤ length ns) (role : Role) (t t' : List ℕ) (left : ℕ)
    (same : (j : ℕ) → j < count ns → get_or t j 0 ≡ get_or t' j 0) where
  -- what came of the state that t held, put in by the modes of t'
  pub kept_learned : {o : Found} {qs : List ℕ} {m m' : List Slot} → o ≡ visit_b (cue_records xs) (state ns role t) left
      → ((far rest : ℕ) → o ≡ back false far rest → Settled (state ns role t) (cue_records xs) qs)
      → KeptOut (count ns) (key_of role (length xs)) t' left o m m' → Learned ns xs qs m m'
  kept_learned {o} {qs} {m} {m'} e settles f key u x h = by (f.adds key u x h)
    where
      by : Has ns xs m key u x ⊎ Added (count ns) (key_of role (length xs)) t' left o x key u → Has ns xs m key u x ⊎ SearchedState ns xs qs key u x
      by (inl k) = inl k
      by (inr a) =
          let s : state ns role t ≡ state ns role u = state_same ns sound enough t u (λ j l. same j l ∙ sym (a.same.modes j l)) role in
          let v = back_seen (cue_records xs) (state ns role t) left (sym e ∙ a.none) in
          let q : left - a.rest ≡ x.entered = sym a.entered in
          inr (record {
            role = role;
            depth = length xs;
            is = a.same.keys;
            within = omega arith;
            knows =
                let z : Finds ns (last (length xs) xs) qs role u x
                = subst (λ l. Finds ns l qs role u x) (sym (last_all xs)) (
                  subst (λ z. visit (cue_records xs) z ≡ saw_none x) s (v ∙ (λ i. record { found = false; reached = x.reached; entered = q i })),
                  subst (λ z. Settled z (cue_records xs) qs) s (settles x.reached a.rest a.none),
                ) in
                record { saw = z.0; settled = z.1 };
          })
