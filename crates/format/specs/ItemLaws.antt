-- What the plans of single items and names come to, by the bytes that stand in the file. Assumes nothing.
use Rattle.std.specs.Prelude.{ℕ, ◌+◌, ◌*◌, ◌≤◌, ◌<◌, Bool, true, false, cond, Result, Ok, Err, List, ◌⊎◌, ◌≡◌, leb, ltb, length, take, drop}
use Rattle.std.proofs.Common.{inl, inr, ap₂, ◌∙◌, subst, add-zero, arith, length-drop, get_or-take, get_or-drop, length-take-le}
use Rattle.std.proofs.Math.Path.{refl, ap, sym}
use borrow.Author.Tests.{leb-true, leb-false, lt-ltb, le-ltb}
use Rattle.std.proofs.Math.ListN.{get_or}
use Rattle.std.specs.Result.{IsErrAnd}
use Rattle.flow.specs.declared.Refusal.{Refusal}
use Rattle.flow.specs.FirstRefusal.{refusal_handed}
use Rattle.format.specs.declared.Got.{Got}
use Rattle.format.specs.declared.Range.{Range}
use Rattle.format.specs.Format.{Entry}
use Rattle.format.specs.Plan.{Plan, done, refuse, item, ◌>>=◌, Ran, got, bad, run}
use Rattle.format.specs.Plans.{bind_bad, bind_got, item_there, item_cut}
use Rattle.format.specs.Sections.{byte, number, ranged, step_length, machine_length, name, entry}
use Rattle.format.specs.Items.{refusal_of, found_at, as_item, item_in_range, number_at, name_at, name_end, entry_end}
pub use Rattle.format.specs.There.{Found, NumberThere, RangedThere, LengthThere, NameThere, EntryRuns, EntryThere}

---- Answers ----

pub le_or_lt : (a b : ℕ) → (a ≤ b) ⊎ (b < a)
le_or_lt a b = by (leb a b) refl
  where
    by : (x : Bool) → leb a b ≡ x → (a ≤ b) ⊎ (b < a)
    by true e = inl (leb-true a b e)
    by false e = inr (leb-false a b e)

pub got_value : {A : Type 0} {a b : A} {m n : ℕ} → got a m ≡ got b n → a ≡ b
got_value e = cc

pub got_next : {A : Type 0} {a b : A} {m n : ℕ} → got a m ≡ got b n → m ≡ n
got_next e = cc

-- a plan that found something refused nothing
pub got_not_bad : {A C : Type 0} {x : Ran A} {a : A} {n k p : ℕ} → x ≡ got a n → x ≡ bad k p → C
got_not_bad e h = let z : ◌≡◌ {A = ℕ} 0 1 = cc in absurd (omega arith)

pub item_bad : {A : Type 0} (f : A → ℕ) (x : Ran A) {n p : ℕ} {r : Refusal} → r ≡ refusal_of n p → x ≡ bad n p → Err r ≡ as_item f x
unfolding as_item
item_bad f x e h = ap Err e ∙ ap (as_item f) (sym h)

pub item_got : {A : Type 0} (f : A → ℕ) (x : Ran A) {a : A} {m v n : ℕ} → v ≡ f a → n ≡ m → x ≡ got a m
    → Ok (found_at v n) ≡ as_item f x
unfolding as_item
item_got f x e d h = ap₂ (λ (v n : ℕ). Ok (found_at v n)) e d ∙ ap (as_item f) (sym h)

pub has_found : {A : Type 0} (f : A → ℕ) (x : Ran A) {g : Got} → Ok g ≡ as_item f x → Found f x g
unfolding as_item
has_found f (got a n) {g} e =
    let e' : found_at (f a) n ≡ g = cc in
    record { found = a; is = ap (λ (g' : Got). got a g'.next.at) e'; sized = sym (ap (λ (g' : Got). g'.value) e') }
has_found f (bad n p) {g} e = let z : ◌≡◌ {A = ℕ} 0 1 = cc in absurd (omega arith)

pub bad_found : {A : Type 0} (f : A → ℕ) (x : Ran A) {r : Refusal} → Err r ≡ as_item f x → x ≡ bad r.number r.place
unfolding as_item
bad_found f (got a n) {r} e = let z : ◌≡◌ {A = ℕ} 0 1 = cc in absurd (omega arith)
bad_found f (bad n p) {r} e =
    let e' : refusal_of n p ≡ r = cc in
    ap (λ (r' : Refusal). bad r'.number r'.place) e'

-- a refusal is handed on as it is
pub handed_on : {A B : Type 0} (f : A → ℕ) (x : Ran A) (g : B → ℕ) (y : Ran B) {i : Result Got Refusal} {r : Refusal}
    → ((n p : ℕ) → x ≡ bad n p → y ≡ bad n p) → Err r ≡ as_item f x → IsErrAnd i (λ q. q ≡ r) → i ≡ as_item g y
handed_on f x g y {i} {r} k e h = refusal_handed i h ∙ item_bad g y refl (k r.number r.place (bad_found f x e))

-- an item whose value is the number itself
pub has_number : (x : Ran ℕ) {g : Got} → Ok g ≡ as_item (λ n. n) x → x ≡ got g.value g.next.at
has_number x {g} e = let f = has_found (λ n. n) x e in f.is ∙ ap (λ (n : ℕ). got n g.next.at) (sym f.sized)

---- Bytes and numbers ----

module _ (s : List ℕ) (at : ℕ) where
  pub first_byte : (n : ℕ) → 0 < n → get_or (take n (drop at s)) 0 0 ≡ get_or s at 0
  first_byte n h = get_or-take n (drop at s) 0 0 h ∙ get_or-drop at s 0 0 ∙ ap (λ (i : ℕ). get_or s i 0) (add-zero at)

  two_bytes : get_or (take 2 (drop at s)) 0 0 + 256 * get_or (take 2 (drop at s)) 1 0 ≡ number_at s at
  two_bytes =
      ap₂ (λ (a b : ℕ). a + 256 * b) (first_byte 2 (omega arith))
      (get_or-take 2 (drop at s) 1 0 (omega arith) ∙ get_or-drop at s 1 0)

  pub byte_cut : length s < at + 1 → run s at byte ≡ bad 15 at
  unfolding byte
  byte_cut h = item_cut s at 1 _ h

  pub byte_got : at + 1 ≤ length s → run s at byte ≡ got (get_or s at 0) (at + 1)
  unfolding byte run
  byte_got h = item_there s at 1 (λ b. done (get_or b 0 0)) h ∙ ap (λ (n : ℕ). got n (at + 1)) (first_byte 1 (omega arith))

  pub number_cut : length s < at + 2 → run s at number ≡ bad 15 at
  unfolding number
  number_cut h = item_cut s at 2 _ h

  pub number_got : at + 2 ≤ length s → run s at number ≡ got (number_at s at) (at + 2)
  unfolding number run
  number_got h = item_there s at 2 (λ b. done (get_or b 0 0 + 256 * get_or b 1 0)) h ∙ ap (λ (n : ℕ). got n (at + 2)) two_bytes

pub number_there : (s : List ℕ) (at : ℕ) {v next : ℕ} → run s at number ≡ got v next → NumberThere s at v next
number_there s at {v} {next} e = by (le_or_lt (at + 2) (length s))
  where
    by : (at + 2 ≤ length s) ⊎ (length s < at + 2) → NumberThere s at v next
    by (inl h) = let g = sym e ∙ number_got s at h in record { is = got_value g; ends = got_next g; inside = h }
    by (inr h) = got_not_bad e (number_cut s at h)

---- Ranges ----

module _ (s : List ℕ) (at : ℕ) (g : Range) (p : Plan ℕ) where
  in_range : ℕ → Plan ℕ
  in_range n = cond (ltb n g.least) (refuse g.few at) (cond (ltb g.most n) (refuse g.many at) (done n))

  pub ranged_bad : {n q : ℕ} → run s at p ≡ bad n q → run s at (ranged g p) ≡ bad n q
  unfolding ranged run in_range
  ranged_bad e = bind_bad s at p in_range e

  module _ {v next : ℕ} (e : run s at p ≡ got v next) where
    pub ranged_few : v < g.least → run s at (ranged g p) ≡ bad g.few at
    unfolding ranged run in_range
    ranged_few h = bind_got s at p in_range e ∙ rw (lt-ltb v g.least h)

    module _ (l : g.least ≤ v) where
      pub ranged_many : g.most < v → run s at (ranged g p) ≡ bad g.many at
      unfolding ranged run in_range
      ranged_many h = bind_got s at p in_range e ∙ rw (le-ltb v g.least l, lt-ltb g.most v h)

      pub ranged_got : v ≤ g.most → run s at (ranged g p) ≡ got v next
      unfolding ranged run in_range
      ranged_got h = bind_got s at p in_range e ∙ rw (le-ltb v g.least l, le-ltb g.most v h)

  pub ranged_there : {v next : ℕ} → run s at (ranged g p) ≡ got v next → RangedThere s at g p v next
  ranged_there {v} {next} e = by_number (run s at p) refl
    where
      by_most : {w last : ℕ} → run s at p ≡ got w last → g.least ≤ w → (w ≤ g.most) ⊎ (g.most < w) → RangedThere s at g p v next
      by_most {w} {last} a l (inl h) =
          let q : got w last ≡ got v next = sym (ranged_got a l h) ∙ e in
          record { read = a ∙ q; low = subst (λ (x : ℕ). g.least ≤ x) (got_value q) l; high = subst (λ (x : ℕ). x ≤ g.most) (got_value q) h }
      by_most a l (inr h) = got_not_bad e (ranged_many a l h)

      by_least : {w last : ℕ} → run s at p ≡ got w last → (g.least ≤ w) ⊎ (w < g.least) → RangedThere s at g p v next
      by_least {w} a (inl l) = by_most a l (le_or_lt w g.most)
      by_least a (inr l) = got_not_bad e (ranged_few a l)

      by_number : (x : Ran ℕ) → run s at p ≡ x → RangedThere s at g p v next
      by_number (got w last) a = by_least a (le_or_lt g.least w)
      by_number (bad k q) a = got_not_bad e (ranged_bad a)

  -- what the plan finds is held to its range as the plan is
  pub value_ranged : {h : Got} → Ok h ≡ as_item (λ n. n) (run s at p) → item_in_range g at h ≡ as_item (λ n. n) (run s at (ranged g p))
  unfolding item_in_range
  value_ranged {h} e = by_least (le_or_lt g.least h.value)
    where
      a : run s at p ≡ got h.value h.next.at
      a = has_number (run s at p) e

      by_most : g.least ≤ h.value → (h.value ≤ g.most) ⊎ (g.most < h.value) → item_in_range g at h ≡ as_item (λ n. n) (run s at (ranged g p))
      by_most l (inl m) = rw (le-ltb h.value g.least l, le-ltb g.most h.value m) (item_got (λ n. n) _ refl refl (ranged_got a l m))
      by_most l (inr m) = rw (le-ltb h.value g.least l, lt-ltb g.most h.value m) (item_bad (λ n. n) _ refl (ranged_many a l m))

      by_least : (g.least ≤ h.value) ⊎ (h.value < g.least) → item_in_range g at h ≡ as_item (λ n. n) (run s at (ranged g p))
      by_least (inl l) = by_most l (le_or_lt h.value g.most)
      by_least (inr l) = rw (lt-ltb h.value g.least l) (item_bad (λ n. n) _ refl (ranged_few a l))

-- a value held to its range
module _ (g : Range) (at : ℕ) (h : Got) where
  pub item_few : {r : Refusal} → r ≡ refusal_of g.few at → h.value < g.least → Err r ≡ item_in_range g at h
  unfolding item_in_range
  item_few q l = ap Err q ∙ sym (rw (lt-ltb h.value g.least l))

  pub item_many : {r : Refusal} → r ≡ refusal_of g.many at → g.least ≤ h.value → g.most < h.value → Err r ≡ item_in_range g at h
  unfolding item_in_range
  item_many q l m = ap Err q ∙ sym (rw (le-ltb h.value g.least l, lt-ltb g.most h.value m))

  pub item_fits : g.least ≤ h.value → h.value ≤ g.most → Ok h ≡ item_in_range g at h
  unfolding item_in_range
  item_fits l m = sym (rw (le-ltb h.value g.least l, le-ltb g.most h.value m))

---- A name ----

unfoldable bytes_of : ℕ → Plan (List ℕ)
bytes_of n = item n (λ b. done b)

module _ (s : List ℕ) (at : ℕ) (g : Range) where
  pub name_length_bad : {n p : ℕ} → run s at (ranged g byte) ≡ bad n p → run s at (name g) ≡ bad n p
  unfolding name bytes_of
  name_length_bad e = bind_bad s at (ranged g byte) bytes_of e

  module _ {v next : ℕ} (e : run s at (ranged g byte) ≡ got v next) where
    pub name_cut : length s < next + v → run s at (name g) ≡ bad 15 next
    unfolding name bytes_of
    name_cut c = bind_got s at (ranged g byte) bytes_of e ∙ item_cut s next v _ c

    pub name_whole : next + v ≤ length s → run s at (name g) ≡ got (take v (drop next s)) (next + v)
    unfolding name bytes_of run
    name_whole c = bind_got s at (ranged g byte) bytes_of e ∙ item_there s next v (λ b. done b) c

  -- a length byte in its range
  pub length_got : at + 1 ≤ length s → g.least ≤ get_or s at 0 → get_or s at 0 ≤ g.most → run s at (ranged g byte) ≡ got (get_or s at 0) (at + 1)
  length_got h l m = ranged_got s at g byte (byte_got s at h) l m

  pub name_got : g.least ≤ get_or s at 0 → get_or s at 0 ≤ g.most → name_end s at ≤ length s → run s at (name g) ≡ got (name_at s at) (name_end s at)
  name_got l m c = name_whole (length_got (omega arith) l m) c

pub name_length : (s : List ℕ) (at : ℕ) → name_end s at ≤ length s → length (name_at s at) ≡ get_or s at 0
name_length s at h = length-take-le (get_or s at 0) (drop (at + 1) s) (rw length-drop (omega arith))

pub length_there : (s : List ℕ) (at : ℕ) (g : Range) {v next : ℕ} → run s at (ranged g byte) ≡ got v next → LengthThere s at g v next
length_there s at g {v} {next} e = by (le_or_lt (at + 1) (length s))
  where
    t : RangedThere s at g byte v next
    t = ranged_there s at g byte e

    by : (at + 1 ≤ length s) ⊎ (length s < at + 1) → LengthThere s at g v next
    by (inl h) =
        let q = sym t.read ∙ byte_got s at h in
        record { is = got_value q; ends = got_next q; inside = h; low = t.low; high = t.high }
    by (inr h) = got_not_bad t.read (byte_cut s at h)

-- the name behind a length byte that was read, as an item
pub name_item : (s : List ℕ) (at : ℕ) (g : Range) {v next : ℕ} → run s at (ranged g byte) ≡ got v next → at + 1 + v ≤ length s
    → Ok (found_at v (at + 1 + v)) ≡ as_item length (run s at (name g))
name_item s at g {v} {next} e h =
    let t = length_there s at g e in
    let l : length (take v (drop next s)) ≡ v = length-take-le v (drop next s) (rw length-drop (omega (arith, t.ends))) in
    item_got length _ (sym l) (omega (arith, t.ends)) (name_whole s at g e (omega (arith, t.ends)))

module _ (s : List ℕ) (at : ℕ) (g : Range) {n : List ℕ} {next : ℕ} where
  pub name_there : run s at (name g) ≡ got n next → NameThere s at g n next
  name_there e = by_length (run s at (ranged g byte)) refl
    where
      by_end : {v last : ℕ} → run s at (ranged g byte) ≡ got v last → (last + v ≤ length s) ⊎ (length s < last + v) → NameThere s at g n next
      by_end {v} {last} a (inl i) =
          let t = length_there s at g a in
          let q = sym e ∙ name_whole s at g a i in
          record {
            bytes = got_value q ∙ ap₂ (λ (k m : ℕ). take k (drop m s)) t.is t.ends;
            ends = got_next q ∙ ap₂ (λ (k m : ℕ). m + k) t.is t.ends;
            inside = omega (arith, t.is, t.ends);
            low = omega (arith, t.is, t.low);
            high = omega (arith, t.is, t.high);
          }
      by_end a (inr i) = got_not_bad e (name_cut s at g a i)

      by_length : (x : Ran ℕ) → run s at (ranged g byte) ≡ x → NameThere s at g n next
      by_length (got v last) a = by_end a (le_or_lt (last + v) (length s))
      by_length (bad k p) a = got_not_bad e (name_length_bad s at g a)

---- An entry ----

module _ (s : List ℕ) (at : ℕ) where
  with_step : List ℕ → Plan Entry
  with_step st = name machine_length >>= (λ m. done (record { step = st; machine = m }))

  pub entry_step_bad : {n p : ℕ} → run s at (name step_length) ≡ bad n p → run s at entry ≡ bad n p
  unfolding entry with_step
  entry_step_bad e = bind_bad s at (name step_length) with_step e

  module _ {st : List ℕ} {mid : ℕ} (e : run s at (name step_length) ≡ got st mid) where
    pub entry_machine_bad : {n p : ℕ} → run s mid (name machine_length) ≡ bad n p → run s at entry ≡ bad n p
    unfolding entry with_step
    entry_machine_bad h = bind_got s at (name step_length) with_step e ∙ bind_bad s mid (name machine_length) _ h

    pub entry_got : {m : List ℕ} {next : ℕ} → run s mid (name machine_length) ≡ got m next → run s at entry ≡ got (record { step = st; machine = m }) next
    unfolding entry with_step run
    entry_got h = bind_got s at (name step_length) with_step e ∙ bind_got s mid (name machine_length) _ h

  pub entry_runs : {e : Entry} {next : ℕ} → run s at entry ≡ got e next → EntryRuns s at e next
  entry_runs {e} {next} h = by_step (run s at (name step_length)) refl
    where
      by_machine : {st : List ℕ} {mid : ℕ} → run s at (name step_length) ≡ got st mid → (x : Ran (List ℕ)) → run s mid (name machine_length) ≡ x → EntryRuns s at e next
      by_machine {st} {mid} a (got m last) b =
          let g : got e next ≡ got (record { step = st; machine = m }) last = sym h ∙ entry_got a b in
          let q = got_value g in
          record {
            mid = mid;
            step_run = a ∙ ap (λ (e' : Entry). got e'.step mid) (sym q);
            machine_run = b ∙ ap₂ (λ (e' : Entry) (n : ℕ). got e'.machine n) (sym q) (sym (got_next g));
          }
      by_machine a (bad k p) b = got_not_bad h (entry_machine_bad a b)

      by_step : (x : Ran (List ℕ)) → run s at (name step_length) ≡ x → EntryRuns s at e next
      by_step (got st mid) a = by_machine a (run s mid (name machine_length)) refl
      by_step (bad k p) a = got_not_bad h (entry_step_bad a)

  pub entry_there : {e : Entry} {next : ℕ} → run s at entry ≡ got e next → EntryThere s at e next
  entry_there {e} {next} h =
      let r = entry_runs h in
      let u = name_there s at step_length r.step_run in
      let v = name_there s r.mid machine_length r.machine_run in
      let d : r.mid ≡ name_end s at = u.ends in
      let d' : name_end s r.mid ≡ entry_end s at = ap (name_end s) d in
      record {
        is = ap₂ (λ (x y : List ℕ). record { step = x; machine = y }) u.bytes (v.bytes ∙ ap (name_at s) d);
        ends = v.ends ∙ d';
        inside = subst (λ (x : ℕ). x ≤ length s) d' v.inside;
        short = omega (arith, d', v.high, u.high, ap (λ (x : ℕ). get_or s x 0) d);
      }
