-- Asks: what answered them stays, what is settled stays so whatever is answered later, and what the successors of a state answer and settle
-- the state does. At a state where the records end all asks are answered (`gathered_strikes`, `gathered_settles`). Assumes nothing.
use Prim.Native.Nat.{ℕ, zero, suc, ◌≤◌, ◌<◌}
use mathlib.Core.Path.{◌≡◌, refl, sym, ap, ◌∙◌, subst}
use mathlib.Core.Bool.{Bool, true, false, cond}
use mathlib.Core.List.Memᴰ
use mathlib.Core.List.{List, [], ◌∷◌, map, Memᴰ}
use native.Mathlib.Omega.{arith}
use lib.Dec.{T, leb}
use lib.ListN.{length, get_or, length-map}
use borrow.Author.Tests.{leb-true, leb-false}
use Rattle.calculus.specs.Term.{Closing, Std}
use Rattle.calculus.specs.Records.{Record, close, State, over, std}
use Rattle.calculus.specs.Successors.{some_of, ends}
use Rattle.calculus.specs.Search.{next}
use Rattle.calculus.specs.Ahead.{passes, may_follow}
use Rattle.calculus.proofs.Members.{in_some, of_some, of_only, is_false, not_so}
use Rattle.flow.specs.Cues.{failed_cue, cue_record}
use Rattle.search.specs.Visits.{Answers, as_was, can, Strikes, Settled, Asking, follows_mark}
use Rattle.search.specs.Searches.{answered}

---- What is answered ----

module _ {s : State} {rs : List Record} where
  pub strikes_same : (qs : List ℕ) → Strikes s rs qs qs
  strikes_same qs = record { long = refl; each = λ j. as_was }

  answers_trans : {x y z : ℕ} → Answers s rs x y → Answers s rs y z → Answers s rs x z
  answers_trans as_was b = b
  answers_trans (can h k) as_was = can h k
  answers_trans (can h k) (can h' k') = can h k

  pub strikes_trans : {qs qs' qs'' : List ℕ} → Strikes s rs qs qs' → Strikes s rs qs' qs'' → Strikes s rs qs qs''
  strikes_trans f g = record { long = g.long ∙ f.long; each = λ j. answers_trans (f.each j) (g.each j) }

  low_still : {x y : ℕ} → Answers s rs x y → x ≤ failed_cue → y ≤ failed_cue
  low_still as_was h = h
  low_still (can l k) h = omega arith

  pub asking_still : {qs qs' : List ℕ} → Strikes s rs qs qs' → Asking qs → Asking qs'
  asking_still f a j = low_still (f.each j) (a j)

  -- what can follow here can follow there
  module _ {s' : State} {rs' : List Record} (more : (r : Record) → T (may_follow rs s r) → T (may_follow rs' s' r)) where
    answers_from : (x : ℕ) {y : ℕ} → Answers s rs x y → Answers s' rs' x y
    answers_from x as_was = as_was
    answers_from x (can h k) = can h (more (cue_record x) k)

    pub strikes_from : {qs qs' : List ℕ} → Strikes s rs qs qs' → Strikes s' rs' qs qs'
    strikes_from {qs} f = record { long = f.long; each = λ j. answers_from (get_or qs j 0) (f.each j) }

-- what is settled of one state stays settled when asks are answered by another
module _ (s : State) (rs : List Record) {s' : State} {rs' : List Record} where
  not_asked : {x y : ℕ} → Answers s' rs' x y → (follows_mark < x → may_follow rs s (cue_record x) ≡ false) → follows_mark < y → may_follow rs s (cue_record y) ≡ false
  not_asked as_was f h = f h
  not_asked (can l k) f h = absurd (omega arith)

pub settled_still : {s s' : State} {rs rs' : List Record} {qs qs' : List ℕ} → Settled s rs qs → Strikes s' rs' qs qs' → Settled s rs qs'
settled_still {s} {rs = rs} f g = record { none = λ j h. not_asked s rs (g.each j) (f.none j) h }

---- By way of successors ----

module _ (s : State) (r : Record) (rs : List Record) where
  pub strikes_into : {t : State} {qs qs' : List ℕ} → Memᴰ t (next s r) → Strikes t rs qs qs' → Strikes s (r ∷ rs) qs qs'
  unfolding passes
  strikes_into m f = strikes_from (λ x k. in_some (λ t. may_follow rs t x) m k) f

  pub settled_all : {qs : List ℕ} → ((t : State) → Memᴰ t (next s r) → Settled t rs qs) → Settled s (r ∷ rs) qs
  unfolding passes
  settled_all {qs} f = record {
    none = λ j h. is_false _ (λ k. let m = of_some (λ t. may_follow rs t (cue_record (get_or qs j 0))) (next s r) k in not_so ((f m.0 m.1).none j h) m.2);
  }

-- nothing follows nothing left
over_settled : (qs : List ℕ) → Settled over [] qs
unfolding passes next some_of
over_settled qs = record { none = λ j h. refl }

pub ended_settled : (p : Std) (w : Closing) (qs : List ℕ) → Settled (std p) (close w ∷ []) qs
unfolding next
ended_settled p w qs =
    settled_all (std p) (close w) [] (λ t m. subst (λ z. Settled z [] qs) (sym (Memᴰ.eq_of_singleton (of_only (ends p w) m).1)) (over_settled qs))

---- Where the records end ----

module _ (s : State) (rs : List Record) where
  answered_answers : (x : ℕ) → Answers s rs x (answered s rs x)
  unfolding answered
  answered_answers x = by (leb x follows_mark) (may_follow rs s (cue_record x)) refl refl
    where
      by : (b c : Bool) → leb x follows_mark ≡ b → may_follow rs s (cue_record x) ≡ c → Answers s rs x (cond b x (cond c follows_mark x))
      by true c e d = as_was
      by false true e d = can (leb-false x follows_mark e) (subst T (sym d) tt)
      by false false e d = as_was

  answered_settles : (x : ℕ) → follows_mark < answered s rs x → may_follow rs s (cue_record (answered s rs x)) ≡ false
  unfolding answered
  answered_settles x = by (leb x follows_mark) (may_follow rs s (cue_record x)) refl refl
    where
      by : (b c : Bool) → leb x follows_mark ≡ b → may_follow rs s (cue_record x) ≡ c → follows_mark < cond b x (cond c follows_mark x)
          → may_follow rs s (cue_record (cond b x (cond c follows_mark x))) ≡ false
      by true c e d h = absurd (let l = leb-true x follows_mark e in omega arith)
      by false true e d h = absurd (omega arith)
      by false false e d h = d

  -- nothing is asked behind the last
  answered_at : (qs : List ℕ) (j : ℕ) → get_or (map (answered s rs) qs) j 0 ≡ answered s rs (get_or qs j 0)
  unfolding answered
  answered_at [] j = refl
  answered_at (x ∷ qs) zero = refl
  answered_at (x ∷ qs) (suc j) = answered_at qs j

  module _ (qs : List ℕ) {qs' : List ℕ} (e : qs' ≡ map (answered s rs) qs) where
    there : (j : ℕ) → get_or qs' j 0 ≡ answered s rs (get_or qs j 0)
    there j = ap (λ (l : List ℕ). get_or l j 0) e ∙ answered_at qs j

    pub gathered_strikes : Strikes s rs qs qs'
    gathered_strikes = record {
      long = ap length e ∙ length-map qs (answered s rs);
      each = λ j. subst (Answers s rs (get_or qs j 0)) (sym (there j)) (answered_answers (get_or qs j 0));
    }

    pub gathered_settles : Settled s rs qs'
    gathered_settles = record {
      none = λ j. subst (λ (x : ℕ). follows_mark < x → may_follow rs s (cue_record x) ≡ false) (sym (there j)) (answered_settles (get_or qs j 0));
    }
