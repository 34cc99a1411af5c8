-- Each closing of the code is one of the calculus, and each of the calculus one of the code; so a contract that says the code's closing for
-- one of the calculus leaves one outcome. Theorems only. Assumes nothing.
use Rattle.std.specs.Prelude.{◌≡◌, ◌⊎◌, ◌↔◌, refl, true}
use Rattle.std.proofs.Common.{inl, inr, sym, ◌∙◌, ap}
use Rattle.std.proofs.lemmas.Bool.{false≢true}
use Rattle.calculus.specs.Term.{Closing, done, withdrawn, failed, eqc}
use Rattle.tallies.specs.declared.Closing.{Closing as Ending}
use Rattle.tallies.specs.declared.Closing.TheVariants.{Done, Withdrawn, Failed}
use Rattle.tallies.specs.Formulas.{closing, rank}

-- each is one of three
pub by_rank : {A : Type 0} (w : Ending) → (w ≡ Done → A) → (w ≡ Withdrawn → A) → (w ≡ Failed → A) → A
by_rank Done d w f = d refl
by_rank Withdrawn d w f = w refl
by_rank Failed d w f = f refl

pub closing_rank : (w : Closing) → closing (rank w) ≡ w
closing_rank done = refl
closing_rank withdrawn = refl
closing_rank failed = refl

pub rank_closing : (w : Ending) → rank (closing w) ≡ w
rank_closing Done = refl
rank_closing Withdrawn = refl
rank_closing Failed = refl

-- there are no others
pub rank_below : (w : Closing) → (rank w ≡ Done) ⊎ ((rank w ≡ Withdrawn) ⊎ (rank w ≡ Failed))
rank_below done = inl refl
rank_below withdrawn = inr (inl refl)
rank_below failed = inr (inr refl)

-- each stands for another closing
pub closing_one : (v w : Ending) → closing v ≡ closing w → v ≡ w
closing_one v w e = sym (rank_closing v) ∙ ap rank e ∙ rank_closing w

-- two are the same where the calculus has the same closing
pub closing_one_by_test : (v w : Ending) → eqc (closing v) (closing w) ≡ true → v ≡ w
closing_one_by_test Done Done e = refl
closing_one_by_test Withdrawn Withdrawn e = refl
closing_one_by_test Failed Failed e = refl
closing_one_by_test Done Withdrawn e = absurd (false≢true e)
closing_one_by_test Done Failed e = absurd (false≢true e)
closing_one_by_test Withdrawn Done e = absurd (false≢true e)
closing_one_by_test Withdrawn Failed e = absurd (false≢true e)
closing_one_by_test Failed Done e = absurd (false≢true e)
closing_one_by_test Failed Withdrawn e = absurd (false≢true e)

pub same_closing : (v w : Ending) → v ≡ w → eqc (closing v) (closing w) ≡ true
same_closing v w e = sym (ap (λ (u : Ending). eqc (closing v) (closing u)) e) ∙ own v
  where
    own : (u : Ending) → eqc (closing u) (closing u) ≡ true
    own Done = refl
    own Withdrawn = refl
    own Failed = refl

-- two closings are the same where their ranks are
pub same_rank : (w : Closing) (v : Ending) → (rank w ≡ v) ↔ (eqc (closing v) w ≡ true)
same_rank w v = (to, from)
  where
    to : rank w ≡ v → eqc (closing v) w ≡ true
    to e = ap (eqc (closing v)) (sym (closing_rank w)) ∙ same_closing v (rank w) (sym e)

    from : eqc (closing v) w ≡ true → rank w ≡ v
    from e = sym (closing_one_by_test v (rank w) (ap (eqc (closing v)) (closing_rank w) ∙ e))
