-- What ties the code of `search` to what it leaves: all modes 0 are the drawn flow (`state_drawn`), what a search asks is what a visit
-- asks (`visit_ready`), and clearing, searching and clearing again bring back what the counted search does, leave the bytes as promised,
-- and answer what is asked: all of it where the search went through (`asked_all`), and else nothing (`asked_nothing`). Assumes nothing.
use Rattle.std.specs.Prelude.{ℕ, zero, suc, ◌+◌, ◌*◌, ◌-◌, ◌<◌, ◌≤◌, ◌≡◌, Bool, true, false, length, get_or, Option, Some, None}
use Rattle.std.proofs.Math.Path.{refl, sym, ap}
use Rattle.std.proofs.Common.{◌∙◌, subst, mul-le-mul, mul-suc, add-one, length-append, length-drop, drop_at, le-leb}
use Rattle.std.proofs.Math.Bool.{cond}
use mathlib.Core.List.{List, [], ◌∷◌, ◌++◌, map}
use native.Mathlib.Omega.{arith}
use Rattle.std.proofs.Math.Decide.{dec_le}
use Rattle.std.proofs.Math.ListN.{take, drop, replicate, length-replicate, get_or-replicate, get_or-append, get_or-map}
use Rattle.std.proofs.lemmas.List.{length-map, length-take-le}
use Rattle.std.proofs.Math.Seq.{drop-drop, ext_get_or}
use Rattle.std.proofs.lemmas.Bool.{lt-leb}
use Rattle.calculus.specs.Records.{Record, State, std, cmp}
use Rattle.calculus.proofs.Members.{is_true}
use Rattle.calculus.specs.Within.{Within}
use Rattle.calculus.specs.Ahead.{may_follow}
use Rattle.calculus.specs.Search.{next}
use Rattle.calculus.specs.Spending.{Out as Found, spent, back, bump, chain, tries_b, visit_b}
use Rattle.flow.specs.Nodes.{under_le}
use Rattle.flow.specs.Kinds.{node, is_standard, shape}
use Rattle.flow.specs.Cues.{cued, cue_record, cue_records}
use Rattle.flow.specs.Refusals.{count, root}
use Rattle.flow.specs.FineTable.{FineTable, fine_tree}
use Rattle.flow.specs.Drawn.{flow_by}
use Rattle.flow.specs.OneFlow.{flow_standard, flow_compensable, flow_drawn}
use Rattle.states.specs.declared.Sense.TheVariants.{Drawn}
use Rattle.states.specs.declared.Role.{Role}
use Rattle.states.specs.declared.Role.TheVariants.{Plain, Running}
use Rattle.states.specs.State.{Part, part, modes}
use Rattle.states.specs.StateLaws.{part_frame}
use Rattle.states.specs.DrawnLaws.{none_done, Means, drawn_means}
use Rattle.search.specs.declared.Trip.{Trip}
use Rattle.search.specs.Room.{room_of, cleared}
use Rattle.search.specs.Visits.{state, out_of, stretches, VisitReady, Used, follows_mark, Answers, as_was, can, AsksAfter, Began}
use Rattle.search.specs.Searches.{role_of, LeftWithin, SearchReady, Searched, answered, went_through, asks_after, Asked}

---- All modes 0 are the drawn flow ----

module _ (ns : List ℕ) (table : FineTable ns) where
  pub state_drawn : (t : List ℕ) → ((j : ℕ) → j < count ns → modes t j ≡ 0) → state ns (role_of ns) t ≡ flow_by cued ns
  unfolding state role_of
  state_drawn t clear = by (is_standard (node ns (root ns))) refl
    where
      same : part ns (modes t) (root ns) ≡ part ns none_done (root ns)
      same = part_frame ns (fine_tree ns table) (modes t) none_done (root ns) (λ j u. clear j (omega (arith, under_le (shape ns) (fine_tree ns table) u, table.some)))

      means : {s : State} → flow_by cued ns ≡ s → Means s (part ns none_done (root ns))
      means e = subst (λ (z : State). Means z (part ns none_done (root ns))) e (drawn_means ns (fine_tree ns table) (flow_drawn cued ns table))

      by : (b : Bool) → is_standard (node ns (root ns)) ≡ b → state ns (role_of ns) t ≡ flow_by cued ns
      by true e =
          let f = flow_standard cued ns table e in
          ap (λ (b : Bool). state ns (cond b (Plain Drawn) Running) t) e ∙ ap (λ (x : Part). std (x.std Drawn)) same ∙ ap std (means f.1) ∙ sym f.1
      by false e =
          let f = flow_compensable cued ns table e in
          ap (λ (b : Bool). state ns (cond b (Plain Drawn) Running) t) e ∙ ap (λ (x : Part). cmp x.run) same ∙ ap cmp (means f.1) ∙ sym f.1

---- The work bytes ----

module _ (n : ℕ) (work : List ℕ) where
  pub cleared_zero : (j : ℕ) → j < n → get_or (cleared n work) j 0 ≡ 0
  unfolding cleared
  cleared_zero j h = get_or-append (replicate n 0) (drop n work) 0 j (rw length-replicate h) ∙ get_or-replicate n j 0 0 h

  pub cleared_length : n ≤ length work → length (cleared n work) ≡ length work
  unfolding cleared
  cleared_length h = rw (length-append, length-replicate, length-drop) (omega arith)

  -- what lies behind stays
  pub cleared_behind : (m : ℕ) → n ≤ m → drop m (cleared n work) ≡ drop m work
  unfolding cleared
  cleared_behind m h =
      let e : m ≡ n + (m - n) = omega arith in
      rw e
      (sym (drop-drop (m - n) n (replicate n 0 ++ drop n work))
      ∙ ap (drop (m - n)) (drop_at (replicate n 0) (drop n work) n (length-replicate n 0))
      ∙ drop-drop (m - n) n work)

-- zeros in place of the first n
pub cleared_by : (n : ℕ) (work zeros : List ℕ) → n ≤ length work → zeros ≡ replicate (length (take n work)) 0 → zeros ++ drop n work ≡ cleared n work
unfolding cleared
cleared_by n work zeros h e = ap (λ (l : List ℕ). l ++ drop n work) (e ∙ ap (λ (k : ℕ). replicate k 0) (length-take-le n work h))

pub room_small : (n m : ℕ) → n ≤ 64 → m ≤ 256 → 2 * n * (m + 1) ≤ 32896
room_small n m h k =
    let a : 2 * n ≤ 128 = omega arith in
    let b : m + 1 ≤ 257 = omega arith in
    mul-le-mul a b

-- a stretch for the drawn state, and one for each record
pub room_stretches : (n m : ℕ) → room_of n m ≡ stretches n (suc m)
unfolding room_of stretches
room_stretches n m = ap (λ (k : ℕ). 2 * n * k) (add-one m)

stretches_own : (n m : ℕ) → n ≤ stretches n (suc m)
unfolding stretches
stretches_own n m = omega (arith, mul-suc (2 * n) m)

bytes_after : (n m : ℕ) (work later : List ℕ) → Used n (suc m) (cleared n work) later → cleared (room_of n m) later ≡ cleared (room_of n m) work
unfolding cleared
bytes_after n m work later used =
    let behind : drop (room_of n m) later ≡ drop (room_of n m) work
    = rw (room_stretches n m) (used.rest ∙ cleared_behind n work (stretches n (suc m)) (stretches_own n m)) in
    ap (λ (l : List ℕ). replicate (room_of n m) 0 ++ l) behind

---- What a visit asks ----

module _ {ns xs work : List ℕ} (asked : SearchReady ns xs work) where
  fine : FineTable ns
  fine = asked.table

  pub some_nodes : 3 ≤ length ns
  some_nodes = omega (arith, fine.some)

  pub few_nodes : length ns ≤ 192
  few_nodes = omega (arith, fine.few, fine.whole)

  state_clear : state ns (role_of ns) (cleared (count ns) work) ≡ flow_by cued ns
  state_clear = state_drawn ns asked.table (cleared (count ns) work) (cleared_zero (count ns) work)

  pub nodes_within : count ns ≤ length work
  nodes_within = omega (arith, room_stretches (count ns) (length xs), stretches_own (count ns) (length xs), asked.room)

  -- there is room in what a search leaves, which is as long as t was
  pub room_within : {t : List ℕ} (later : List ℕ) {room : ℕ} → t ≡ cleared (count ns) work → length later ≡ length t → room ≡ room_of (count ns) (length xs) → room ≤ length later
  room_within {t} later e l r = let k : length t ≡ length work = ap length e ∙ cleared_length (count ns) work nodes_within in omega (arith, asked.room)

  ready : VisitReady ns xs (cleared (count ns) work) (role_of ns)
  ready = record {
    sound = record { few = few_nodes; tree = fine_tree ns fine };
    some = some_nodes;
    known = record { few = asked.few; low = asked.low };
    fits = subst (λ (s : State). Within s (cue_records xs)) (sym state_clear) asked.fits;
    room = rw (cleared_length (count ns) work nodes_within) (omega (arith, room_stretches (count ns) (length xs), asked.room));
  }

---- What comes back ----

-- what is left is no more than there was
LeftOver : ℕ → Found → Type 0
LeftOver n spent = Unit {0}
LeftOver n (back b d m) = m ≤ n

bump_left : (n d : ℕ) (o : Found) → LeftOver n o → LeftOver n (bump d o)
unfolding LeftOver bump
bump_left n d spent h = h
bump_left n d (back b e m) h = h

lower_left : (n k : ℕ) (o : Found) → k ≤ n → LeftOver k o → LeftOver n o
unfolding LeftOver
lower_left n k spent h l = l
lower_left n k (back b d m) h l = omega arith

tries_left : (f : State → ℕ → Found) → ((s : State) (n : ℕ) → LeftOver n (f s n)) → (ss : List State) (n : ℕ) → LeftOver n (tries_b f ss n)
unfolding LeftOver tries_b chain
tries_left f h [] n = omega arith
tries_left f h (s ∷ ss) n = by (f s n) (h s n) (tries_left f h ss)
  where
    by : (o : Found) → LeftOver n o → ((m : ℕ) → LeftOver m (tries_b f ss m)) → LeftOver n (chain o (λ m. tries_b f ss m))
    by spent l rec = tt
    by (back true d m) l rec = l
    by (back false d m) l rec = lower_left n m (bump (suc d) (tries_b f ss m)) l (bump_left m (suc d) (tries_b f ss m) (rec m))

visit_left : (xs : List Record) (s : State) (n : ℕ) → LeftOver n (visit_b xs s n)
unfolding LeftOver visit_b
visit_left [] s zero = tt
visit_left [] s (suc n) = omega arith
visit_left (r ∷ xs) s zero = tt
visit_left (r ∷ xs) s (suc n) = lower_left (suc n) n (tries_b (λ t m. visit_b xs t m) (next s r) n) (omega arith) (tries_left (λ t m. visit_b xs t m) (λ t m. visit_left xs t m) (next s r) n)

out_within : (allowance : ℕ) (o : Option Trip) → LeftOver allowance (out_of o) → LeftWithin allowance o
unfolding LeftOver out_of
out_within allowance None l = l
out_within allowance (Some trip) l = l

-- what is left of the allowance that a visit had
pub visit_within : (xs : List Record) (s : State) (n : ℕ) (o : Option Trip) → out_of o ≡ visit_b xs s n → LeftWithin n o
visit_within xs s n o e = out_within n o (subst (LeftOver n) (sym e) (visit_left xs s n))

---- What is asked ----

-- what a search that went through brings back
no_end : (o : Found) → went_through o ≡ true → (far : ℕ) × (left : ℕ) × (o ≡ back false far left)
unfolding went_through
no_end spent g = absurd (let z : ◌≡◌ {A = ℕ} 0 1 = cc g in omega arith)
no_end (back true far left) g = absurd (let z : ◌≡◌ {A = ℕ} 0 1 = cc g in omega arith)
no_end (back false far left) g = (far, left, refl)

module _ (s : State) (rs : List Record) where
  -- nothing more is asked
  answered_none : (x : ℕ) → x ≤ follows_mark → answered s rs x ≡ x
  unfolding answered
  answered_none x h = rw (le-leb x follows_mark h)

  -- an ask, by whether its record can follow
  answered_as : (x : ℕ) → follows_mark < x → (b : Bool) → may_follow rs s (cue_record x) ≡ b → answered s rs x ≡ cond b follows_mark x
  unfolding answered
  answered_as x h b e = rw (lt-leb x follows_mark h, e)

  -- an ask comes out so, where it was answered rightly and does not follow if it is still asked
  answers_is : {x y : ℕ} → Answers s rs x y → (follows_mark < y → may_follow rs s (cue_record y) ≡ false) → y ≡ answered s rs x
  answers_is {x} as_was settled = elim (dec_le x follows_mark) [
    | yes h ↦ sym (answered_none x h)
    | no h ↦ let l : follows_mark < x = omega (arith, h) in sym (answered_as x l false (settled l))
  ]
  answers_is {x} (can h c) settled = sym (answered_as x h true (is_true (may_follow rs s (cue_record x)) c))

  module _ {o : Found} {qs qs' : List ℕ} (a : AsksAfter s rs o qs qs') where
    -- all runs were searched
    answered_all : went_through o ≡ true → qs' ≡ asks_after s rs o qs
    unfolding asks_after answered went_through
    answered_all g =
        let w = no_end o g in
        let told : qs' ≡ map (answered s rs) qs
        = ext_get_or 0 qs' (map (answered s rs) qs) (a.strikes.long ∙ sym (length-map qs (answered s rs)))
        (λ j h. answers_is (a.strikes.each j) ((a.settles w.0 w.1 w.2).none j) ∙ sym (get_or-map (answered s rs) qs j 0)) in
        told ∙ ap (λ (b : Bool). cond b (map (answered s rs) qs) (replicate (length qs) 0)) (sym g)

    -- an end was found, or the allowance is used up
    answered_nothing : went_through o ≡ false → {none : List ℕ} → none ≡ replicate (length qs') 0 → none ≡ asks_after s rs o qs
    unfolding asks_after
    answered_nothing g e =
        e ∙ ap (λ (n : ℕ). replicate n 0) a.strikes.long
        ∙ ap (λ (b : Bool). cond b (map (answered s rs) qs) (replicate (length qs) 0)) (sym g)

---- The search, as the code comes to it ----

module _ {ns xs work : List ℕ} (asked : SearchReady ns xs work) where
  -- the work bytes t of the drawn flow, and the root's role
  module _ {t : List ℕ} {role : Role} (e : t ≡ cleared (count ns) work) (d : role ≡ role_of ns) where
    pub visit_ready : VisitReady ns xs t role
    visit_ready = subst (VisitReady ns xs t) (sym d) (subst (λ (l : List ℕ). VisitReady ns xs l (role_of ns)) (sym e) (ready asked))

    -- what the search leaves there and brings back, and what is cleared after it
    module _ {allowance : ℕ} {qs t' qs' : List ℕ} {o : Option Trip} (v : Began ns xs t role qs allowance t' qs' o)
        {room : ℕ} {after : List ℕ} (er : room ≡ room_of (count ns) (length xs)) (ea : after ≡ cleared room t') where
      drawn : state ns role t ≡ flow_by cued ns
      drawn = (λ z. state ns (d z) (e z)) ∙ state_clear asked

      searched : Searched ns xs allowance work o after
      searched = record {
        out = v.out ∙ ap (λ (s : State). visit_b (cue_records xs) s allowance) drawn;
        leaves =
            ea ∙ ap (λ (n : ℕ). cleared n t') er
            ∙ bytes_after (count ns) (length xs) work t' (subst (λ (l : List ℕ). Used (count ns) (suc (length xs)) l t') e v.used);
      }

      asks_drawn : AsksAfter (flow_by cued ns) (cue_records xs) (out_of o) qs qs'
      asks_drawn = subst (λ (s : State). AsksAfter s (cue_records xs) (out_of o) qs qs') drawn v.asked

      -- the asks stay as they are
      pub asked_all : went_through (out_of o) ≡ true → Asked ns xs allowance work qs o after qs'
      asked_all g = record { search = searched; asks = answered_all (flow_by cued ns) (cue_records xs) asks_drawn g }

      -- they are forgotten
      pub asked_nothing : went_through (out_of o) ≡ false → {none : List ℕ} → none ≡ replicate (length qs') 0 → Asked ns xs allowance work qs o after none
      asked_nothing g z = record { search = searched; asks = answered_nothing (flow_by cued ns) (cue_records xs) asks_drawn g z }
