-- What ; and ▷ have in common: the second part goes on after one closing of the first, ✓ for ;, ! for ▷. What is proved of both
-- is proved once, of `Onward`. Assumes nothing.
use Rattle.std.specs.Prelude.{ℕ, ◌≡◌, refl, ◌≢◌, ◌⊎◌}
use Rattle.std.proofs.Common.{inl, inr}
use Rattle.calculus.specs.Term.{Closing, done, failed, Std, seq, hnd}
use Rattle.calculus.specs.Rules.{End, Step, seq_on, seq_stops, hnd_on, hnd_stops, seq_first, seq_second, hnd_first, hnd_second}

-- the rules of a part that goes on after u, and that it has no others
pub record Onward (op : Std → Std → Std) (u : Closing) : Type 0 where
  pub on : {p q : Std} {w : Closing} → End p u → End q w → End (op p q) w
  pub stops : {p q : Std} {w : Closing} → End p w → w ≢ u → End (op p q) w
  pub first : {p q p' : Std} {a : ℕ} → Step p a p' → Step (op p q) a (op p' q)
  pub second : {p q q' : Std} {a : ℕ} → End p u → Step q a q' → Step (op p q) a q'
  pub ends_as : {p q : Std} {w : Closing} → End (op p q) w → (End p w × (w ≢ u)) ⊎ (End p u × End q w)
  pub steps_as : {p q r : Std} {a : ℕ} → Step (op p q) a r → ((p' : Std) × Step p a p' × (op p' q ≡ r)) ⊎ (End p u × Step q a r)

pub seq_onward : Onward seq done
seq_onward = record { on = seq_on; stops = seq_stops; first = seq_first; second = seq_second; ends_as = ends_as; steps_as = steps_as }
  where
    ends_as : {p q : Std} {w : Closing} → End (seq p q) w → (End p w × (w ≢ done)) ⊎ (End p done × End q w)
    ends_as (seq_on e f) = inr (e, f)
    ends_as (seq_stops e n) = inl (e, n)

    steps_as : {p q r : Std} {a : ℕ} → Step (seq p q) a r → ((p' : Std) × Step p a p' × (seq p' q ≡ r)) ⊎ (End p done × Step q a r)
    steps_as (seq_first {p'} h) = inl (p', h, refl)
    steps_as (seq_second e h) = inr (e, h)

pub hnd_onward : Onward hnd failed
hnd_onward = record { on = hnd_on; stops = hnd_stops; first = hnd_first; second = hnd_second; ends_as = ends_as; steps_as = steps_as }
  where
    ends_as : {p q : Std} {w : Closing} → End (hnd p q) w → (End p w × (w ≢ failed)) ⊎ (End p failed × End q w)
    ends_as (hnd_on e f) = inr (e, f)
    ends_as (hnd_stops e n) = inl (e, n)

    steps_as : {p q r : Std} {a : ℕ} → Step (hnd p q) a r → ((p' : Std) × Step p a p' × (hnd p' q ≡ r)) ⊎ (End p failed × Step q a r)
    steps_as (hnd_first {p'} h) = inl (p', h, refl)
    steps_as (hnd_second e h) = inr (e, h)
