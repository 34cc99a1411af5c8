-- Flows that are drawn alike, whose leaves take the renamed events as the others take the events (`Renames`), are searched alike: the same
-- states in the same order, so the same sight (`visit_renamed`), the same verdict (`judge_renamed`), and the same of what may come next
-- (`passes_renamed`, `entered_renamed`). And the closings stay where they are (`fits_renamed`, `begins_renamed`, `within_renamed`). First of
-- lists that are alike element for element, then a kind of part at a time. Assumes nothing.
use Prim.Native.Nat.{ℕ, suc, ◌+◌}
use Rattle.std.specs.Prelude.{◌≡◌, Bool, cond, not, ◌&&◌, leb}
use Rattle.std.proofs.Math.Path.{refl, ap, ap₂}
use Rattle.std.proofs.Common.{sym, subst}
use Rattle.std.proofs.Math.Bool.{true, false, ◌||◌}
use mathlib.Core.List.{List, [], ◌∷◌, ◌++◌, map, Forall₂}
use Rattle.std.proofs.Math.ListN.{length-map}
use Rattle.calculus.specs.Term.{Closing, done, withdrawn, failed, Leaf, Joint, Std, Cmp, ev, seq, alt, hnd, blk, pair, cseq, calt, cpar, held, join}
use Rattle.calculus.specs.Successors.{Beh, eqc, closings, only, some_of, each, any_at_all, beside, ends_on, ends_both, does, skip_b, seq_b, par_b, ends, left_by, steps, csteps}
use Rattle.calculus.specs.Records.{Record, event, close, State, std, cmp, Closed, last, ClosedTwice, turn, Fits}
use Rattle.calculus.specs.Search.{next, Seen, is_over, or_else, tries, visit, settle, judge}
use Rattle.calculus.specs.Ahead.{passes, total, entered, Open, OpenTwice, Begins}
use Rattle.calculus.specs.Within.{WithinOne, WithinTwo, Within}
use Rattle.calculus.proofs.Equations.{beh}
use Rattle.calculus.specs.Renames.{renamed, HeardIn, none, and_event, and_close, Renames, CRenames, RenamesState, of_skip, of_throw, of_yield, of_leaf, of_seq, of_alt, of_par, of_hnd, of_blk, of_pair, of_cseq, of_calt, of_cpar, of_held, of_over, of_std, of_cmp}

-- Lists that are alike element for element ----------------------------------------------------------------------------------

module _ {A B : Type 0} {R : A → B → Type 0} where
  both_append : {xs xs' : List A} {ys ys' : List B} → Forall₂ R xs ys → Forall₂ R xs' ys' → Forall₂ R (xs ++ xs') (ys ++ ys')
  both_append Forall₂.nil k = k
  both_append (Forall₂.cons h t) k = Forall₂.cons h (both_append t k)

  same_only : {xs : List A} {ys : List B} (b : Bool) → Forall₂ R xs ys → Forall₂ R (only b xs) (only b ys)
  unfolding only
  same_only true h = h
  same_only false h = Forall₂.nil

  both_only : {b c : Bool} {xs : List A} {ys : List B} → c ≡ b → Forall₂ R xs ys → Forall₂ R (only b xs) (only c ys)
  both_only {b} {c} {xs} {ys} e h = subst (λ x. Forall₂ R (only x xs) (only c ys)) e (same_only c h)

  both_some : (f : A → Bool) (g : B → Bool) → ((x : A) (y : B) → R x y → g y ≡ f x) → {xs : List A} {ys : List B} → Forall₂ R xs ys → some_of g ys ≡ some_of f xs
  unfolding some_of
  both_some f g k Forall₂.nil = refl
  both_some f g k (Forall₂.cons h t) = ap₂ ◌||◌ (k _ _ h) (both_some f g k t)

  both_any : {xs : List A} {ys : List B} → Forall₂ R xs ys → any_at_all ys ≡ any_at_all xs
  unfolding any_at_all
  both_any Forall₂.nil = refl
  both_any (Forall₂.cons h t) = refl

module _ {A B C D : Type 0} {R : A → B → Type 0} {S : C → D → Type 0} where
  both_map : (f : A → C) (g : B → D) → ((x : A) (y : B) → R x y → S (f x) (g y)) → {xs : List A} {ys : List B} → Forall₂ R xs ys → Forall₂ S (map f xs) (map g ys)
  both_map f g k Forall₂.nil = Forall₂.nil
  both_map f g k (Forall₂.cons h t) = Forall₂.cons (k _ _ h) (both_map f g k t)

  both_each : (f : A → List C) (g : B → List D) → ((x : A) (y : B) → R x y → Forall₂ S (f x) (g y)) → {xs : List A} {ys : List B} → Forall₂ R xs ys → Forall₂ S (each xs f) (each ys g)
  unfolding each
  both_each f g k Forall₂.nil = Forall₂.nil
  both_each f g k (Forall₂.cons h t) = both_append (k _ _ h) (both_each f g k t)

-- over one list
same_each : {A C D : Type 0} {S : C → D → Type 0} (f : A → List C) (g : A → List D) → ((x : A) → Forall₂ S (f x) (g x)) → (xs : List A) → Forall₂ S (each xs f) (each xs g)
unfolding each
same_each f g k [] = Forall₂.nil
same_each f g k (x ∷ xs) = both_append (k x) (same_each f g k xs)

-- the steps of two sides
module _ {A B : Type 0} {R : A → B → Type 0} (f : A → A → A) (g : B → B → B) (k : (x x' : A) (y y' : B) → R x y → R x' y' → R (f x x') (g y y')) where
  same_beside : {p q : A} {p' q' : B} {ps qs : List A} {ps' qs' : List B} (b : Bool) → R p p' → R q q' → Forall₂ R ps ps' → Forall₂ R qs qs' → Forall₂ R (beside b f p q ps qs) (beside b g p' q' ps' qs')
  unfolding beside
  same_beside true r t h j = both_each _ _ (λ x y i. both_map _ _ (λ x' y' l. k _ _ _ _ i l) j) h
  same_beside false r t h j = both_append (both_map _ _ (λ x y i. k _ _ _ _ i t) h) (both_map _ _ (λ x y i. k _ _ _ _ r i) j)

  both_beside : {b c : Bool} {p q : A} {p' q' : B} {ps qs : List A} {ps' qs' : List B} → c ≡ b → R p p' → R q q' → Forall₂ R ps ps' → Forall₂ R qs qs' → Forall₂ R (beside b f p q ps qs) (beside c g p' q' ps' qs')
  both_beside {b} {c} {p} {q} {p'} {q'} {ps} {qs} {ps'} {qs'} e r t h j = subst (λ x. Forall₂ R (beside x f p q ps qs) (beside c g p' q' ps' qs')) e (same_beside c r t h j)

-- Parts, a kind at a time ---------------------------------------------------------------------------------------------------

-- ; and ▷ with what they do
abbrev on_b : (Std → Std → Std) → Closing → Beh → Beh → Beh
on_b op u x y = does (op x.term y.term) (ends_on u x.ends y.ends) (λ a. map (λ p. op p y.term) (x.steps a) ++ only (x.ends u) (y.steps a))

module _ (f : ℕ → ℕ) (Heard : ℕ → Type 0) where
  -- x does by the new numbers what y does by the old
  record As (x y : Beh) : Type 0 where
    term : Renames f Heard x.term y.term
    ends : y.ends ≡ x.ends
    steps : (a : ℕ) → Heard a → Forall₂ (Renames f Heard) (x.steps (f a)) (y.steps a)

  -- so do compensable parts, and what they leave
  record CAs (pp qq : Cmp) : Type 0 where
    term : CRenames f Heard pp qq
    left : (w : Closing) → Forall₂ As (left_by pp w) (left_by qq w)
    steps : (a : ℕ) → Heard a → Forall₂ (CRenames f Heard) (csteps pp (f a)) (csteps qq a)

  -- a part that only ends
  still_as : {p : Std} {g : Closing → Bool} → Renames f Heard p p → As (does p g (λ a. [])) (does p g (λ a. []))
  still_as h = record { term = h; ends = refl; steps = λ a _. Forall₂.nil }

  leaf_as : {l m : Leaf} → ((a : ℕ) → Heard a → m.takes a ≡ l.takes (f a)) → As (beh (ev l)) (beh (ev m))
  unfolding ends
  leaf_as h = record { term = of_leaf h; ends = refl; steps = λ a u. both_only (h a u) (Forall₂.cons of_skip Forall₂.nil) }

  module _ {x y x' y' : Beh} (as_x : As x x') (as_y : As y y') where
    on_as : (op : Std → Std → Std) (u : Closing) → ((p q p' q' : Std) → Renames f Heard p p' → Renames f Heard q q' → Renames f Heard (op p q) (op p' q')) → As (on_b op u x y) (on_b op u x' y')
    on_as op u r = record {
      term = r _ _ _ _ as_x.term as_y.term;
      ends = ap₂ (ends_on u) as_x.ends as_y.ends;
      steps = λ a h. both_append (both_map _ _ (λ p p' k. r _ _ _ _ k as_y.term) (as_x.steps a h)) (both_only (ap (λ g. g u) as_x.ends) (as_y.steps a h));
    }

    par_as : (j k : Joint) → ((a : ℕ) → Heard a → k a ≡ j (f a)) → As (par_b j x y) (par_b k x' y')
    par_as j k e = record {
      term = of_par e as_x.term as_y.term;
      ends = ap₂ ends_both as_x.ends as_y.ends;
      steps = λ a h. both_beside _ _ (λ p p' q q'. of_par e) (e a h) as_x.term as_y.term (as_x.steps a h) (as_y.steps a h);
    }

    seq_as : As (seq_b x y) (seq_b x' y')
    seq_as = on_as seq done (λ p q p' q'. of_seq)

  module _ {p q p' q' : Std} (as_p : As (beh p) (beh p')) (as_q : As (beh q) (beh q')) where
    alt_as : As (beh (alt p q)) (beh (alt p' q'))
    unfolding ends
    alt_as = record {
      term = of_alt as_p.term as_q.term;
      ends = λ i w. as_p.ends i w || as_q.ends i w;
      steps = λ a h. both_append (as_p.steps a h) (as_q.steps a h);
    }

    pair_as : CAs (pair p q) (pair p' q')
    unfolding ends
    pair_as = record {
      term = of_pair as_p.term as_q.term;
      left = λ w. both_only (ap (λ g. g w) as_p.ends) (Forall₂.cons (by w) Forall₂.nil);
      steps = λ a h. both_map _ _ (λ r r' k. of_pair k as_q.term) (as_p.steps a h);
    }
      where
        by : (w : Closing) → As (cond (eqc w done) (beh q) skip_b) (cond (eqc w done) (beh q') skip_b)
        by done = as_q
        by withdrawn = still_as of_skip
        by failed = still_as of_skip

  blk_as : {pp pp' : Cmp} → CAs pp pp' → As (beh (blk pp)) (beh (blk pp'))
  unfolding ends
  blk_as c = record {
    term = of_blk c.term;
    ends = λ i w. (eqc w done && both_any (c.left done) i) || both_some (λ k. k.ends w) (λ k. k.ends w) (λ x y h. ap (λ g. g w) h.ends) (c.left failed) i;
    steps = λ a h. both_append (both_map _ _ (λ r r' k. of_blk k) (c.steps a h)) (both_each _ _ (λ x y k. k.steps a h) (c.left failed));
  }

  held_as : {qq qq' : Cmp} {r r' : Std} → CAs qq qq' → As (beh r) (beh r') → CAs (held qq r) (held qq' r')
  unfolding ends
  held_as c d = record {
    term = of_held c.term d.term;
    left = λ w. both_map _ _ (λ x y h. seq_as h d) (c.left w);
    steps = λ a h. both_map _ _ (λ r r' k. of_held k d.term) (c.steps a h);
  }

  module _ {pp qq pp' qq' : Cmp} (as_p : CAs pp pp') (as_q : CAs qq qq') where
    cseq_as : CAs (cseq pp qq) (cseq pp' qq')
    unfolding ends
    cseq_as = record {
      term = of_cseq as_p.term as_q.term;
      left = λ w. both_append (same_only (not (eqc w done)) (as_p.left w)) (both_each _ _ (λ k k' h. both_map _ _ (λ l l' j. seq_as j h) (as_q.left w)) (as_p.left done));
      steps = λ a h. both_append (both_map _ _ (λ r r' k. of_cseq k as_q.term) (as_p.steps a h)) (both_each _ _ (λ k k' j. both_map _ _ (λ r r' i. of_held i j.term) (as_q.steps a h)) (as_p.left done));
    }

    calt_as : CAs (calt pp qq) (calt pp' qq')
    unfolding ends
    calt_as = record {
      term = of_calt as_p.term as_q.term;
      left = λ w. both_append (as_p.left w) (as_q.left w);
      steps = λ a h. both_append (as_p.steps a h) (as_q.steps a h);
    }

    cpar_as : {j k : Joint} → ((a : ℕ) → Heard a → k a ≡ j (f a)) → CAs (cpar j pp qq) (cpar k pp' qq')
    unfolding ends
    cpar_as {j} {k = j'} e = record {
      term = of_cpar e as_p.term as_q.term;
      left = λ u. same_each _ _ (λ w. both_each _ _ (λ k k' h. same_each _ _ (λ v. same_only (eqc u (join w v)) (both_map _ _ (λ l l' i. par_as h i j j' e) (as_q.left v))) closings) (as_p.left w)) closings;
      steps = λ a h. both_beside _ _ (λ p p' q q'. of_cpar e) (e a h) as_p.term as_q.term (as_p.steps a h) (as_q.steps a h);
    }

  mutual
    unfolding ends

    beh_as : {p q : Std} → Renames f Heard p q → As (beh p) (beh q)
    beh_as of_skip = still_as of_skip
    beh_as of_throw = still_as of_throw
    beh_as of_yield = still_as of_yield
    beh_as (of_leaf h) = leaf_as h
    beh_as (of_seq h k) = seq_as (beh_as h) (beh_as k)
    beh_as (of_alt h k) = alt_as (beh_as h) (beh_as k)
    beh_as (of_par e h k) = par_as (beh_as h) (beh_as k) _ _ e
    beh_as (of_hnd h k) = on_as (beh_as h) (beh_as k) hnd failed (λ p q p' q'. of_hnd)
    beh_as (of_blk h) = blk_as (cmp_as h)

    cmp_as : {pp qq : Cmp} → CRenames f Heard pp qq → CAs pp qq
    cmp_as (of_pair h k) = pair_as (beh_as h) (beh_as k)
    cmp_as (of_cseq h k) = cseq_as (cmp_as h) (cmp_as k)
    cmp_as (of_calt h k) = calt_as (cmp_as h) (cmp_as k)
    cmp_as (of_cpar e h k) = cpar_as (cmp_as h) (cmp_as k) e
    cmp_as (of_held h k) = held_as (cmp_as h) (beh_as k)

-- The search ----------------------------------------------------------------------------------------------------------------

-- alike states are seen alike
both_tries : {R : State → State → Type 0} (f g : State → Seen) → ((s t : State) → R s t → g t ≡ f s) → {ss ts : List State} → Forall₂ R ss ts → tries g ts ≡ tries f ss
unfolding tries
both_tries f g k Forall₂.nil = refl
both_tries f g k (Forall₂.cons h t) = let x = k _ _ h in let others = both_tries f g k t in λ i. or_else (x i).found (x i) (λ u. others i)

-- and come to the same in all
both_total : {R : State → State → Type 0} (f g : State → ℕ) → ((s t : State) → R s t → g t ≡ f s) → {ss ts : List State} → Forall₂ R ss ts → total g ts ≡ total f ss
unfolding total
both_total f g k Forall₂.nil = refl
both_total f g k (Forall₂.cons h t) = ap₂ ◌+◌ (k _ _ h) (both_total f g k t)

-- what is seen from a state, by what its successors see
abbrev one_more : Seen → Seen
one_more x = record { found = x.found; reached = x.reached; entered = suc x.entered }

closed_renamed : (f : ℕ → ℕ) {rs : List Record} → Closed rs → Closed (map (renamed f) rs)
closed_renamed f last = last
closed_renamed f (Closed.more c) = Closed.more (closed_renamed f c)

twice_renamed : (f : ℕ → ℕ) {rs : List Record} → ClosedTwice rs → ClosedTwice (map (renamed f) rs)
twice_renamed f (turn c) = turn (closed_renamed f c)
twice_renamed f (ClosedTwice.more c) = ClosedTwice.more (twice_renamed f c)

open_renamed : (f : ℕ → ℕ) {rs : List Record} → Open rs → Open (map (renamed f) rs)
open_renamed f Open.none = Open.none
open_renamed f (Open.more o) = Open.more (open_renamed f o)

open_twice_renamed : (f : ℕ → ℕ) {rs : List Record} → OpenTwice rs → OpenTwice (map (renamed f) rs)
open_twice_renamed f OpenTwice.none = OpenTwice.none
open_twice_renamed f (OpenTwice.more o) = OpenTwice.more (open_twice_renamed f o)
open_twice_renamed f (OpenTwice.turn o) = OpenTwice.turn (open_renamed f o)

within_one_renamed : (f : ℕ → ℕ) {rs : List Record} → WithinOne rs → WithinOne (map (renamed f) rs)
within_one_renamed f WithinOne.none = WithinOne.none
within_one_renamed f WithinOne.last = WithinOne.last
within_one_renamed f (WithinOne.more i) = WithinOne.more (within_one_renamed f i)

within_two_renamed : (f : ℕ → ℕ) {rs : List Record} → WithinTwo rs → WithinTwo (map (renamed f) rs)
within_two_renamed f WithinTwo.none = WithinTwo.none
within_two_renamed f (WithinTwo.more i) = WithinTwo.more (within_two_renamed f i)
within_two_renamed f (WithinTwo.turn i) = WithinTwo.turn (within_one_renamed f i)

module _ (f : ℕ → ℕ) (Heard : ℕ → Type 0) where
  next_event : {s t : State} → RenamesState f Heard s t → (a : ℕ) → Heard a → Forall₂ (RenamesState f Heard) (next s (event (f a))) (next t (event a))
  unfolding next
  next_event of_over a u = Forall₂.nil
  next_event (of_std h) a u = both_map std std (λ p q. of_std) ((beh_as f Heard h).steps a u)
  next_event (of_cmp h) a u = both_map cmp cmp (λ pp qq. of_cmp) ((cmp_as f Heard h).steps a u)

  next_close : {s t : State} → RenamesState f Heard s t → (w : Closing) → Forall₂ (RenamesState f Heard) (next s (close w)) (next t (close w))
  unfolding next
  next_close of_over w = Forall₂.nil
  next_close (of_std h) w = both_only (ap (λ g. g w) (beh_as f Heard h).ends) (Forall₂.cons of_over Forall₂.nil)
  next_close (of_cmp h) w = both_map std std (λ p q. of_std) (both_map (λ x. x.term) (λ x. x.term) (λ x y k. k.term) ((cmp_as f Heard h).left w))

  over_as : {s t : State} → RenamesState f Heard s t → is_over t ≡ is_over s
  over_as of_over = refl
  over_as (of_std h) = refl
  over_as (of_cmp h) = refl

  pub visit_renamed : {s t : State} {rs : List Record} → RenamesState f Heard s t → HeardIn Heard rs → visit rs t ≡ visit (map (renamed f) rs) s
  unfolding visit
  visit_renamed h none = ap (λ b. record { found = b; reached = 0; entered = 1 }) (over_as h)
  visit_renamed h (and_event {a} {rs} u k) = ap one_more (both_tries (λ s. visit (map (renamed f) rs) s) (λ t. visit rs t) (λ s t j. visit_renamed j k) (next_event h a u))
  visit_renamed h (and_close {w} {rs} k) = ap one_more (both_tries (λ s. visit (map (renamed f) rs) s) (λ t. visit rs t) (λ s t j. visit_renamed j k) (next_close h w))

  pub judge_renamed : {s t : State} {rs : List Record} → RenamesState f Heard s t → HeardIn Heard rs → (allowance : ℕ) → judge t rs allowance ≡ judge s (map (renamed f) rs) allowance
  unfolding judge
  judge_renamed {rs} h k allowance =
      let x = visit_renamed h k in
      let n = length-map rs (renamed f) in
      λ i. settle (leb (x i).entered allowance) (x i).found (sym n i) allowance (x i)

  pub passes_renamed : {s t : State} {rs : List Record} → RenamesState f Heard s t → HeardIn Heard rs → passes rs t ≡ passes (map (renamed f) rs) s
  unfolding passes
  passes_renamed h none = refl
  passes_renamed h (and_event {a} {rs} u k) = both_some (λ s. passes (map (renamed f) rs) s) (λ t. passes rs t) (λ s t j. passes_renamed j k) (next_event h a u)
  passes_renamed h (and_close {w} {rs} k) = both_some (λ s. passes (map (renamed f) rs) s) (λ t. passes rs t) (λ s t j. passes_renamed j k) (next_close h w)

  pub entered_renamed : {s t : State} {rs : List Record} → RenamesState f Heard s t → HeardIn Heard rs → entered rs t ≡ entered (map (renamed f) rs) s
  unfolding entered
  entered_renamed h none = refl
  entered_renamed h (and_event {a} {rs} u k) = ap suc (both_total (λ s. entered (map (renamed f) rs) s) (λ t. entered rs t) (λ s t j. entered_renamed j k) (next_event h a u))
  entered_renamed h (and_close {w} {rs} k) = ap suc (both_total (λ s. entered (map (renamed f) rs) s) (λ t. entered rs t) (λ s t j. entered_renamed j k) (next_close h w))

  pub fits_renamed : {s t : State} (rs : List Record) → RenamesState f Heard s t → Fits t rs → Fits s (map (renamed f) rs)
  fits_renamed rs of_over e = ap (map (renamed f)) e
  fits_renamed rs (of_std h) c = closed_renamed f c
  fits_renamed rs (of_cmp h) c = twice_renamed f c

  pub begins_renamed : {s t : State} (rs : List Record) → RenamesState f Heard s t → Begins t rs → Begins s (map (renamed f) rs)
  begins_renamed rs of_over b = b
  begins_renamed rs (of_std h) o = open_renamed f o
  begins_renamed rs (of_cmp h) o = open_twice_renamed f o

  pub within_renamed : {s t : State} (rs : List Record) → RenamesState f Heard s t → Within t rs → Within s (map (renamed f) rs)
  within_renamed rs of_over e = ap (map (renamed f)) e
  within_renamed rs (of_std h) i = within_one_renamed f i
  within_renamed rs (of_cmp h) i = within_two_renamed f i
