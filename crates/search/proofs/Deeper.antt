-- The functions of the search over their locals: what a visit needs and gives (`visit`), the successor's stretch and what comes
-- back of it (`follow`), and what stays as it was between two successors (`visit_each`). Assumes nothing.
use Prim.Native.Nat.{ℕ, suc, ◌+◌, ◌-◌, ◌*◌, ◌≤◌, ◌<◌}
use mathlib.Core.Path.{◌≡◌, refl, sym, ap, ◌∙◌, subst}
use mathlib.Core.Logic.{◌≢◌}
use mathlib.Core.Bool.{Bool, true, false}
use mathlib.Core.List.{List, [], ◌∷◌, ◌++◌, map, Memᴰ}
use native.Mathlib.Omega.{arith}
use native.Mathlib.Decide.{dec_le}
use lib.ListN.{length, take, drop, get_or, length-append, length-drop}
use lib.Seq.{paste, get_or-take, get_or-drop, length-take-le, drop_at, take_all}
use borrow.Rule.Slice.PartMut.{put_mid, mid_of, same_len_mid}
use Rattle.calculus.specs.Records.{Record, State}
use Rattle.calculus.specs.Within.{Within}
use Rattle.calculus.proofs.WithinLaws.{within_moves}
use Rattle.calculus.specs.Search.{next}
use Rattle.calculus.proofs.Found.{next_moves}
use Rattle.calculus.specs.Spending.{Out as Found, spent, back, visit_b, left_of}
use Rattle.calculus.proofs.Budget.{more_left}
use Rattle.flow.specs.Cues.{failed_cue, cue_record, cue_records}
use Rattle.flow.specs.Refusals.{count, root}
use Rattle.tallies.specs.Capped.{cap}
use Rattle.tallies.specs.Places.{At}
use Rattle.states.specs.Clauses.{Spot}
use Rattle.states.specs.declared.Role.{Role}
use Rattle.states.specs.declared.Role.TheVariants.{Plain, Running}
use Rattle.memory.specs.declared.Sight.{Sight}
use Rattle.memory.specs.declared.Slot.{Slot}
use Rattle.memory.specs.Memory.{Held, recalled}
use Rattle.memory.specs.MemoryLaws.{recalled_held}
use Rattle.std.specs.Prelude.{Option, Some, None, Ok}
use Rattle.search.specs.declared.Trip.{Trip}
use Rattle.search.specs.Visits.{state, role_next, out_of, onward, stretches, Known, VisitReady, Used, Strikes, Settled, key_of, saw_none, Truthful, Learned, KeptOut, quest, AsksAfter, Began, Visited, Tried, Followed, Inner, ends, RightCounts, successor_count, Applied}
use Rattle.search.specs.Searches.{answered}
use Rattle.search.proofs.Numbers.{first_inner, ends_alone, ends_settled}
use Rattle.search.proofs.Asks.{strikes_same, strikes_trans, strikes_into, settled_still, settled_all, gathered_strikes, gathered_settles}
use Rattle.search.proofs.Memories.{learned_same, learned_trans, learned_rest, recalled_out, recalled_settled, kept_learned}
use Rattle.search.proofs.Turns.{Turn}
use Rattle.search.proofs.Stretches.{copy_same, copy_length, tail_is, back_is, front_length, stretches_next, stretches_some, used_same, used_trans, used_deeper, kept_from, state_same, right_same, used_modes}

-- Visits ------------------------------------------------------------------------------------------------------------------

pub first_rest : (xs : List ℕ) → 1 ≤ length xs → xs ≡ get_or xs 0 0 ∷ drop 1 xs
first_rest [] h = absurd (omega arith)
first_rest (r ∷ xs) h = refl

none_left : (xs : List ℕ) → length xs ≡ 0 → xs ≡ []
none_left [] h = refl
none_left (r ∷ xs) h = absurd (omega arith)

pub first_low : {ns xs t : List ℕ} {role : Role} → VisitReady ns xs t role → 1 ≤ length xs → get_or xs 0 0 ≤ failed_cue
first_low ready h = ready.known.low 0 (omega arith)

-- the root's place
pub ready_spot : {ns xs t : List ℕ} {role : Role} → VisitReady ns xs t role → Spot ns t (root ns)
ready_spot {ns} {xs} {t} {role} ready =
    let o = stretches_some (count ns) (suc (length xs)) (omega arith) in
    let l = ready.room in
    let s = ready.some in
    record { node = record { sound = ready.sound; inside = omega arith }; room = omega arith }

-- the same with so much left
abbrev with_left : ℕ → Found → Found
with_left n spent = spent
with_left n (back b d m) = back b d n

visit_none : (xs : List Record) (s : State) → visit_b xs s 0 ≡ spent
unfolding visit_b
visit_none [] s = refl
visit_none (r ∷ xs) s = refl

-- no state of a flow is nothing left
arrives : (ns : List ℕ) (role : Role) (t : List ℕ) (n : ℕ) → visit_b [] (state ns role t) (suc n) ≡ back false 0 n
unfolding visit_b state
arrives ns (Plain s) t n = refl
arrives ns Running t n = refl

visit_some : (s : State) (r : ℕ) (xs : List ℕ) (n : ℕ) → visit_b (cue_records (r ∷ xs)) s (suc n) ≡ onward s r xs n
unfolding visit_b onward
visit_some s r xs n = refl

no_trip : {b : Bool} {d m : ℕ} → spent ≡ back b d m → ⊥
no_trip e = let z : ◌≡◌ {A = ℕ} 0 1 = cc e in omega arith

-- nothing is asked of a search that was not made
pub asks_spent : (s : State) (rs : List Record) (qs : List ℕ) → AsksAfter s rs spent qs qs
asks_spent s rs qs = record { strikes = strikes_same qs; settles = λ far left e. absurd (no_trip e) }

module _ (ns xs t : List ℕ) (role : Role) (qs : List ℕ) (left : ℕ) (m : List Slot) where
  pub visited_spent : left ≡ 0 → Visited (quest ns xs t role qs left m) t qs m None
  unfolding out_of
  visited_spent z = record {
    out = sym (ap (visit_b (cue_records xs) (state ns role t)) z ∙ visit_none (cue_records xs) (state ns role t));
    used = used_same (count ns) (suc (length xs)) t;
    asked = asks_spent (state ns role t) (cue_records xs) qs;
    learned = learned_same ns xs qs m;
  }

  module _ (some : left ≢ 0) where
    visit_on : (r : ℕ) (xs' : List ℕ) → xs ≡ r ∷ xs' → onward (state ns role t) r xs' (left - 1) ≡ visit_b (cue_records xs) (state ns role t) left
    visit_on r xs' e =
        let q : suc (left - 1) ≡ left = omega (arith, some) in
        sym (visit_some (state ns role t) r xs' (left - 1)) ∙ ap (λ l. visit_b (cue_records l) (state ns role t) (suc (left - 1))) (sym e) ∙ ap (visit_b (cue_records xs) (state ns role t)) q

    -- the records end here
    pub visited_arrived : (o : Option Trip) {qs' : List ℕ} → length xs ≡ 0 → o ≡ Some (record { found = false; far = 0; left = left - 1 }) → qs' ≡ map (answered (state ns role t) []) qs
        → Visited (quest ns xs t role qs left m) t qs' m o
    unfolding out_of
    visited_arrived o {qs'} h e g =
        let q : suc (left - 1) ≡ left = omega (arith, some) in
        let d = none_left xs h in
        let a : AsksAfter (state ns role t) [] (out_of o) qs qs' = record { strikes = gathered_strikes (state ns role t) [] qs g; settles = λ far left e. gathered_settles (state ns role t) [] qs g } in
        record {
          out = ap out_of e ∙ sym (arrives ns role t (left - 1)) ∙ ap (λ l. visit_b (cue_records l) (state ns role t) (suc (left - 1))) (sym d) ∙ ap (visit_b (cue_records xs) (state ns role t)) q;
          used = used_same (count ns) (suc (length xs)) t;
          asked = subst (λ l. AsksAfter (state ns role t) (cue_records l) (out_of o) qs qs') (sym d) a;
          learned = learned_same ns xs qs' m;
        }

    module _ (ready : VisitReady ns xs t role) (one : 1 ≤ length xs) where
      -- the last record ends it
      pub visited_last : (o : Option Trip) → ends role (get_or xs 0 0) ≡ true → out_of o ≡ onward (state ns role t) (get_or xs 0 0) [] (left - 1) → Visited (quest ns xs t role qs left m) t qs m o
      visited_last o h e =
          let r : ℕ = get_or xs 0 0 in
          let d : xs ≡ r ∷ [] = first_rest xs one ∙ ap (λ l. r ∷ l) (ends_alone ns t r (first_low ready one) role (drop 1 xs) h (subst (λ l. Within (state ns role t) (cue_records l)) (first_rest xs one) ready.fits)) in
          let z : Settled (state ns role t) (cue_records (r ∷ [])) qs = ends_settled ns t r (first_low ready one) role h qs in
          record {
            out = e ∙ visit_on r [] d;
            used = used_same (count ns) (suc (length xs)) t;
            asked = record { strikes = strikes_same qs; settles = λ far left e. subst (λ l. Settled (state ns role t) (cue_records l) qs) (sym d) z };
            learned = learned_same ns xs qs m;
          }

      pub visited_tried : (o : Option Trip) (t' qs' : List ℕ) (m' : List Slot) → Tried (quest ns xs t role qs (left - 1) m) t' qs' m' o → Visited (quest ns xs t role qs left m) t' qs' m' o
      visited_tried o t' qs' m' e = record { out = e.out ∙ visit_on (get_or xs 0 0) (drop 1 xs) (first_rest xs one); used = e.used; asked = e.asked; learned = e.learned }

-- What is remembered of the state ---------------------------------------------------------------------------------------------

-- the stretch's modes, as they are lent
module _ (ns t : List ℕ) (room : count ns ≤ length t) where
  abbrev own : List ℕ
  own = take (count ns) t

  pub own_length : length own ≡ count ns
  own_length = length-take-le (count ns) t room

  own_same : (j : ℕ) → j < count ns → get_or t j 0 ≡ get_or own j 0
  own_same j h = sym (get_or-take (count ns) t j 0 h)

module _ {ns xs t : List ℕ} {role : Role} (ready : VisitReady ns xs t role) {key : ℕ} (e : key ≡ key_of role (length xs)) (t' : List ℕ) (l : length t' ≡ length t) where
  pub modes_room : count ns ≤ length t'
  modes_room =
      let o = stretches_some (count ns) (suc (length xs)) (omega arith) in
      let r = ready.room in omega arith

  pub modes_few : length (own ns t' modes_room) ≤ 64
  modes_few =
      let n = ready.sound.few in omega (arith, own_length ns t' modes_room)

  -- it is recalled
  module _ (same : (j : ℕ) → j < count ns → get_or t j 0 ≡ get_or t' j 0) where
    same_own : (j : ℕ) → j < count ns → get_or t j 0 ≡ get_or (own ns t' modes_room) j 0
    same_own j h = same j h ∙ own_same ns t' modes_room j h

    pub visited_known : {qs : List ℕ} {m : List Slot} → Truthful ns xs qs m → (left : ℕ) {x : Sight} (o : Option Trip)
        → recalled m (own ns t' modes_room) (length (own ns t' modes_room)) key ≡ Ok x → out_of o ≡ left_of (saw_none x) left → Visited (quest ns xs t role qs left m) t qs m o
    visited_known {qs} {m} f left {x} o h k =
        let u : List ℕ = own ns t' modes_room in
        let s : state ns role t ≡ state ns role u = state_same ns ready.sound ready.some t u same_own role in
        let has = subst (λ n. Held m n (key_of role (length xs)) u x) (own_length ns t' modes_room) (subst (λ z. Held m (length u) z u x) e (recalled_held m u (length u) key x h)) in
        record {
          out = recalled_out f role u left x has o k ∙ ap (λ z. visit_b (cue_records xs) z left) (sym s);
          used = used_same (count ns) (suc (length xs)) t;
          asked = record { strikes = strikes_same qs; settles = λ far rest g. subst (λ z. Settled z (cue_records xs) qs) (sym s) (recalled_settled f role u left x has) };
          learned = learned_same ns xs qs m;
        }

  -- it is kept
  pub visited_kept : {qs : List ℕ} {left : ℕ} {qs' : List ℕ} {m m' m'' : List Slot} {o : Option Trip} → Visited (quest ns xs t role qs left m) t' qs' m' o
      → KeptOut (length (own ns t' modes_room)) key (own ns t' modes_room) left (out_of o) m' m'' → Visited (quest ns xs t role qs left m) t' qs' m'' o
  visited_kept {qs} {left} {qs'} {m} {m'} {m''} {o} v k =
      let u : List ℕ = own ns t' modes_room in
      record {
        out = v.out;
        used = v.used;
        asked = v.asked;
        learned = learned_trans ns xs (strikes_same {s = state ns role t} {rs = []} qs') v.learned
            (kept_learned ns xs ready.sound ready.some role t u left (same_own (used_modes ns ready.sound ready.some (suc (length xs)) t t' v.used)) v.out v.asked.settles
            (subst (λ n. KeptOut n (key_of role (length xs)) u left (out_of o) m' m'') (own_length ns t' modes_room) (subst (λ z. KeptOut (length u) z u left (out_of o) m' m'') e k)));
      }

-- whatever is remembered
pub visited_began : {ns xs t : List ℕ} {role : Role} {qs : List ℕ} {left : ℕ} {m : List Slot} {t' qs' : List ℕ} {m' : List Slot} {o : Option Trip}
    → Visited (quest ns xs t role qs left m) t' qs' m' o → Began ns xs t role qs left t' qs' o
visited_began v = record { out = v.out; used = v.used; asked = v.asked }

-- Between two successors ----------------------------------------------------------------------------------------------------

module _ {ns xs t : List ℕ} {role : Role} (ready : VisitReady ns xs t role) (t' : List ℕ) (used : Used (count ns) (suc (length xs)) t t') where
  same_modes : (j : ℕ) → j < count ns → get_or t j 0 ≡ get_or t' j 0
  same_modes = used_modes ns ready.sound ready.some (suc (length xs)) t t' used

  pub same_state : state ns role t ≡ state ns role t'
  same_state = state_same ns ready.sound ready.some t t' same_modes role

  -- a second search goes on with the asks of the first
  pub began_again : (left left' : ℕ) {qs qs' t'' qs'' : List ℕ} {o : Option Trip} → Strikes (state ns role t) (cue_records xs) qs qs' → Began ns xs t' role qs' left' t'' qs'' o → Began ns xs t role qs left' t'' qs'' o
  began_again left left' {qs} {qs'} {t''} {qs''} {o} f b =
      let a : AsksAfter (state ns role t) (cue_records xs) (out_of o) qs' qs'' = subst (λ s. AsksAfter s (cue_records xs) (out_of o) qs' qs'') (sym same_state) b.asked in
      record {
        out = b.out ∙ ap (λ s. visit_b (cue_records xs) s left') (sym same_state);
        used = used_trans used b.used;
        asked = record { strikes = strikes_trans f a.strikes; settles = a.settles };
      }

  pub ready_still : length t' ≡ length t → VisitReady ns xs t' role
  ready_still l =
      let q = ready.room in
      record { sound = ready.sound; some = ready.some; known = ready.known; fits = subst (λ s. Within s (cue_records xs)) same_state ready.fits; room = omega arith }

  pub right_still : (a : ℕ) (c d : List ℕ) → RightCounts ns role a t c d → RightCounts ns role a t' c d
  right_still a c d r = right_same ns ready.sound ready.some t t' same_modes role a c d r

  pub count_still : (k a n : ℕ) → k < n → n ≡ successor_count ns role a t → k < successor_count ns role a t'
  count_still k a n h e = subst (λ s. k < cap (length (next s (cue_record a)))) same_state (subst (λ m. k < m) e h)

  pub goes_still : (a k : ℕ) {into : State} → At (next (state ns role t') (cue_record a)) k into → At (next (state ns role t) (cue_record a)) k into
  goes_still a k {into} g = subst (λ s. At (next s (cue_record a)) k into) (sym same_state) g

-- a search of fewer states was enough
pub began_more : (ns xs t : List ℕ) (role : Role) (qs : List ℕ) (few left : ℕ) {t' qs' : List ℕ} {o : Option Trip} {trip : Trip} → Began ns xs t role qs few t' qs' o → o ≡ Some trip → trip.left ≤ few → few ≤ left
    → Began ns xs t role qs left t' qs' (Some (record { found = trip.found; far = trip.far; left = left - (few - trip.left) }))
unfolding out_of
began_more ns xs t role qs few left {t'} {qs'} {o} {trip} b e h k = record {
  out = sym (more_left (cue_records xs) (state ns role t) few (sym b.out ∙ ap out_of e) left h k);
  used = b.used;
  asked = record { strikes = b.asked.strikes; settles = λ far rest g. b.asked.settles far trip.left (ap out_of e ∙ less far rest g) };
}
  where
    less : (far rest : ℕ) → back trip.found trip.far (left - (few - trip.left)) ≡ back false far rest → back trip.found trip.far trip.left ≡ back false far trip.left
    less far rest g = ap (with_left trip.left) g

-- between two successors: the bytes lent are as many as before, the state's own stretch is kept, what was learned is right, what
-- comes of all successors is what comes of those still to be tried, and those that were tried have answered what they can
pub record Going (ns xs t : List ℕ) (role : Role) (qs : List ℕ) (left : ℕ) (m : List Slot) (t' qs' : List ℕ) (m' : List Slot) (k far rest : ℕ) : Type 0 where
  pub long : length t' ≡ length t
  pub used : Used (count ns) (suc (length xs)) t t'
  pub learned : Learned ns xs qs' m m'
  pub turn : Turn (state ns role t) (get_or xs 0 0) (drop 1 xs) left k far rest
  pub struck : Strikes (state ns role t) (cue_records xs) qs qs'
  pub tried : (i : ℕ) (into : State) → i < k → At (next (state ns role t) (cue_record (get_or xs 0 0))) i into → Settled into (cue_records (drop 1 xs)) qs'

-- What the successors answer -----------------------------------------------------------------------------------------------

at_member : {l : List State} {k : ℕ} {x : State} → At l k x → Memᴰ x l
at_member At.here = Memᴰ.head refl
at_member (At.past h) = Memᴰ.tail (at_member h)

member_at : {x : State} {l : List State} → Memᴰ x l → (i : ℕ) × At l i x × (i < length l)
member_at {l} (Memᴰ.head {x} {xs} e) = (0, subst (λ z. At (x ∷ xs) 0 z) (sym e) At.here, omega arith)
member_at (Memᴰ.tail m) = let p = member_at m in (suc p.0, At.past p.1, omega (arith, p.2))

at_same : {l : List State} {k : ℕ} {x y : State} → At l k x → At l k y → x ≡ y
at_same At.here At.here = refl
at_same (At.past a) (At.past b) = at_same a b

-- the successors of s by the first record
abbrev Successor : State → List ℕ → ℕ → State → Type 0
Successor s xs k into = At (next s (cue_record (get_or xs 0 0))) k into

-- the first k of them have answered what they can
abbrev Tries : State → List ℕ → List ℕ → ℕ → Type 0
Tries s xs qs k = (i : ℕ) (into : State) → i < k → Successor s xs i into → Settled into (cue_records (drop 1 xs)) qs

module _ (s : State) (xs : List ℕ) where
  pub tried_none : (qs : List ℕ) → Tries s xs qs 0
  tried_none qs i into h a = absurd (omega arith)

  module _ (one : 1 ≤ length xs) {qs qs' : List ℕ} (struck : Strikes s (cue_records xs) qs qs') where
    -- all of them
    pub tried_over : {k : ℕ} → Tries s xs qs' k → length (next s (cue_record (get_or xs 0 0))) ≤ k → (o : Found) → AsksAfter s (cue_records xs) o qs qs'
    tried_over {k} tried few o = record {
      strikes = struck;
      settles = λ far left e. subst (λ l. Settled s (cue_records l) qs') (sym (first_rest xs one))
          (settled_all s (cue_record (get_or xs 0 0)) (cue_records (drop 1 xs)) (λ t m. let p = member_at m in tried p.0 t (omega (arith, p.2)) p.1));
    }

    -- one more
    module _ {k : ℕ} {into : State} (at : Successor s xs k into) (o : Option Trip) {qs'' : List ℕ} (asked : AsksAfter into (cue_records (drop 1 xs)) (out_of o) qs' qs'') where
      both : Strikes s (cue_records xs) qs qs''
      both = strikes_trans struck (subst (λ l. Strikes s (cue_records l) qs' qs'') (sym (first_rest xs one))
          (strikes_into s (cue_record (get_or xs 0 0)) (cue_records (drop 1 xs)) (at_member at) asked.strikes))

      pub tried_spent : o ≡ None → AsksAfter s (cue_records xs) (out_of None) qs qs''
      unfolding out_of
      tried_spent e = record { strikes = both; settles = λ far left g. absurd (no_trip g) }

      pub tried_found : (far left : ℕ) → AsksAfter s (cue_records xs) (out_of (Some (record { found = true; far = far; left = left }))) qs qs''
      unfolding out_of
      tried_found far left = record { strikes = both; settles = λ far left g. absurd (let z : ◌≡◌ {A = ℕ} 0 1 = cc g in omega arith) }

      pub tried_on : Tries s xs qs' k → (trip : Trip) → o ≡ Some trip → trip.found ≡ false → Strikes s (cue_records xs) qs qs'' × Tries s xs qs'' (k + 1)
      unfolding out_of
      tried_on tried trip e none = (
        both,
        λ i t h a. elim (dec_le k i) [
          | yes l ↦ let q : k ≡ i = omega arith in
              subst (λ z. Settled z (cue_records (drop 1 xs)) qs'') (at_same at (subst (λ j. Successor s xs j t) (sym q) a))
              (asked.settles trip.far trip.left (ap out_of e ∙ ap (λ b. back b trip.far trip.left) none))
          | no l ↦ settled_still (tried i t (omega (arith, l)) a) asked.strikes
        ],
      )

-- the records after the first, as a part of the slice
pub rest_is : (xs : List ℕ) → take (length xs - 1) (drop 1 xs) ≡ drop 1 xs
rest_is xs = take_all (length xs - 1) (drop 1 xs) (rw (length-drop 1 xs) (omega arith))

pub rest_length : (xs : List ℕ) → length (take (length xs - 1) (drop 1 xs)) ≡ length xs - 1
rest_length xs = ap length (rest_is xs) ∙ length-drop 1 xs

-- The successor's stretch ---------------------------------------------------------------------------------------------------

known_rest : (xs : List ℕ) → 1 ≤ length xs → Known xs → Known (drop 1 xs)
known_rest xs h k =
    let l = length-drop 1 xs in
    let q = k.few in
    record { few = omega arith; low = λ i b. subst (λ x. x ≤ failed_cue) (sym (get_or-drop 1 xs i 0)) (k.low (1 + i) (omega arith)) }

pub two_stretches : {ns xs t : List ℕ} {role : Role} → VisitReady ns xs t role → 1 ≤ length xs → 2 * count ns + 2 * count ns ≤ length t
two_stretches {ns} {xs} {t} {role} ready one =
    let q = stretches_next (count ns) (length xs) in
    let o = stretches_some (count ns) (length xs) one in
    omega (arith, ready.room)

-- x has the copy, p is the part that is lent
module _ {ns xs d : List ℕ} {role : Role} (ready : VisitReady ns xs d role) (one : 1 ≤ length xs) (x : List ℕ) (e : x ≡ paste d (2 * count ns) d (count ns)) where
  fits_copy : 2 * count ns + count ns ≤ length d
  fits_copy = omega (arith, two_stretches ready one)

  pub copied_room : 2 * count ns ≤ length x
  copied_room = omega (arith, two_stretches ready one, copy_length d x (2 * count ns) (count ns) e fits_copy)

  abbrev part : List ℕ
  part = mid_of (2 * count ns) (length x - 2 * count ns) x

  part_is : part ≡ drop (2 * count ns) x
  part_is = tail_is (2 * count ns) x copied_room

  part_same : (j : ℕ) → j < count ns → get_or d j 0 ≡ get_or part j 0
  part_same j h = sym (copy_same d x (2 * count ns) (count ns) e fits_copy j h) ∙ ap (λ l. get_or l j 0) (sym part_is)

  part_state : state ns role d ≡ state ns role part
  part_state = state_same ns ready.sound ready.some d part part_same role

  part_length : length part ≡ length d - 2 * count ns
  part_length = ap length part_is ∙ length-drop (2 * count ns) x ∙ ap (λ n. n - 2 * count ns) (copy_length d x (2 * count ns) (count ns) e fits_copy)

  pub apply_asked : ends role (get_or xs 0 0) ≡ false → (c e : List ℕ) (k : ℕ) → RightCounts ns role (get_or xs 0 0) d c e → k < successor_count ns role (get_or xs 0 0) d
      → Spot ns part (root ns) × (((3 ≤ length ns) × Inner role (get_or xs 0 0)) × (RightCounts ns role (get_or xs 0 0) part c e × (k < successor_count ns role (get_or xs 0 0) part)))
  apply_asked on c e k r h =
      let s = ready.some in
      let l = part_length in
      let w = two_stretches ready one in
      let spot : Spot ns part (root ns) = record { node = record { sound = ready.sound; inside = omega arith }; room = omega arith } in (
        spot,
        (
          (ready.some, first_inner role (get_or xs 0 0) (first_low ready one) on),
          (
            right_same ns ready.sound ready.some d part part_same role (get_or xs 0 0) c e r,
            subst (λ s. k < cap (length (next s (cue_record (get_or xs 0 0))))) part_state h,
          ),
        ),
      )

  -- p is the part as the successor's, y has it back
  module _ (k : ℕ) (p : List ℕ) (same : length p ≡ length part) (app : Applied ns role (get_or xs 0 0) part k p) where
    goes : At (next (state ns role d) (cue_record (get_or xs 0 0))) k (state ns (role_next role (get_or xs 0 0)) p)
    goes = subst (λ s. At (next s (cue_record (get_or xs 0 0))) k (state ns (role_next role (get_or xs 0 0)) p)) (sym part_state) app.goes

    abbrev y : List ℕ
    y = put_mid (2 * count ns) (length x - 2 * count ns) x p

    y_is : y ≡ take (2 * count ns) x ++ p
    y_is = back_is (2 * count ns) x copied_room p

    y_length : length y ≡ length d
    y_length =
        let f = front_length (2 * count ns) x copied_room in
        let l = length-append (take (2 * count ns) x) p in
        let m = part_length in
        let o = two_stretches ready one in
        ap length y_is ∙ omega arith

    pub back_room : 2 * count ns ≤ length y
    back_room = omega (arith, y_length, two_stretches ready one)

    abbrev part' : List ℕ
    part' = mid_of (2 * count ns) (length y - 2 * count ns) y

    pub back_length : (q : List ℕ) → length q ≡ length part' → length (put_mid (2 * count ns) (length y - 2 * count ns) y q) ≡ length d
    back_length q l = same_len_mid (2 * count ns) (length y - 2 * count ns) y q l ∙ y_length

    part'_is : part' ≡ p
    part'_is = tail_is (2 * count ns) y back_room ∙ ap (drop (2 * count ns)) y_is ∙ drop_at (take (2 * count ns) x) p (2 * count ns) (front_length (2 * count ns) x copied_room)

    module _ (xs' : List ℕ) (er : xs' ≡ drop 1 xs) (role' : Role) (eo : role' ≡ role_next role (get_or xs 0 0)) where
      deeper : VisitReady ns (drop 1 xs) p (role_next role (get_or xs 0 0))
      deeper =
          let l = length-drop 1 xs in
          let j : suc (length (drop 1 xs)) ≡ length xs = omega arith in
          let q = stretches_next (count ns) (length xs) in
          let m = part_length in
          record {
            sound = ready.sound;
            some = ready.some;
            known = known_rest xs (omega arith) ready.known;
            fits = within_moves (cue_records (drop 1 xs)) (next_moves (state ns role d) (cue_record (get_or xs 0 0)) (state ns (role_next role (get_or xs 0 0)) p) (at_member goes))
                (subst (λ l. Within (state ns role d) (cue_records l)) (first_rest xs one) ready.fits);
            room = subst (λ m. stretches (count ns) m ≤ length p) (sym j) (omega (arith, ready.room));
          }

      pub visit_asked : VisitReady ns xs' part' role'
      visit_asked = subst (λ l. VisitReady ns l part' role') (sym er) (subst (λ l. VisitReady ns (drop 1 xs) l role') (sym part'_is) (subst (λ o. VisitReady ns (drop 1 xs) p o) (sym eo) deeper))

      pub followed : (qs : List ℕ) (left : ℕ) (o : Option Trip) (q qs' : List ℕ) (m m' : List Slot) → Visited (quest ns xs' part' role' qs left m) q qs' m' o
          → Followed (quest ns xs d role qs left m) (put_mid (2 * count ns) (length y - 2 * count ns) y q) qs' m' o k
      followed qs left o q qs' m m' v =
          let v' : Visited (quest ns (drop 1 xs) p (role_next role (get_or xs 0 0)) qs left m) q qs' m' o
          = subst (λ l. Visited (quest ns l p (role_next role (get_or xs 0 0)) qs left m) q qs' m' o) er (subst (λ l. Visited (quest ns xs' l (role_next role (get_or xs 0 0)) qs left m) q qs' m' o) part'_is (subst (λ z. Visited (quest ns xs' part' z qs left m) q qs' m' o) eo v)) in
          let l = length-drop 1 xs in
          let j : suc (length (drop 1 xs)) ≡ length xs = omega arith in
          let z : List ℕ = put_mid (2 * count ns) (length y - 2 * count ns) y q in
          record {
            into = state ns (role_next role (get_or xs 0 0)) p;
            goes = goes;
            out = v'.out;
            used = used_deeper (count ns) (length xs) d x p y q z one ready.room e
                (same ∙ ap length part_is)
                (λ i h. kept_from ns ready.sound ready.some part p app.kept i h ∙ ap (λ l. get_or l i 0) part_is)
                y_is (subst (λ m. Used (count ns) m p q) j v'.used) (back_is (2 * count ns) y back_room q);
            asked = v'.asked;
            learned = learned_rest ns xs one v'.learned;
          }
