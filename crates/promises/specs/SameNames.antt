-- Names compared byte by byte are compared for equality, and an entry is met exactly where it is among the others. Assumes nothing.
use Rattle.std.specs.Prelude.{ℕ, Bool, true, false, ◌||◌, ◌≡◌, refl}
use Rattle.std.proofs.lemmas.Bool.{false≢true}
use mathlib.Core.List.{List, [], ◌∷◌, Memᴰ}
use Rattle.std.proofs.Common.{ap, ap₂, sym, ◌∙◌}
use Rattle.flow.specs.Tests.{both_true}
use Rattle.format.specs.Format.{Entry}
use Rattle.format.specs.Sections.{same_bytes, same_step, same_entry, met}
pub use Rattle.format.specs.NameLaws.{same_refl, same_eq}

---- Met is being among them ----

-- "Two entries are the same only if both names are equal byte by byte."
pub same_entry_eq : (e g : Entry) → same_entry e g ≡ true → e ≡ g
unfolding same_entry same_step
same_entry_eq e g h =
    ap₂ (λ (x y : List ℕ). record { step = x; machine = y })
    (same_eq e.step g.step (both_true (same_bytes e.step g.step) (same_bytes e.machine g.machine) h).0)
    (same_eq e.machine g.machine (both_true (same_bytes e.step g.step) (same_bytes e.machine g.machine) h).1)

pub same_entry_refl : (e g : Entry) → e ≡ g → same_entry e g ≡ true
unfolding same_entry same_step
same_entry_refl e g h = ap (λ (x : Entry). same_entry e x) (sym h) ∙ rw (same_refl e.step, same_refl e.machine)

pub met_among : (e : Entry) (es : List Entry) → met e es ≡ true → Memᴰ e es
unfolding met
met_among e [] h = absurd (false≢true h)
met_among e (g ∷ gs) h = by (same_entry g e) refl (met_among e gs) h
  where
    by : (t : Bool) → same_entry g e ≡ t → (met e gs ≡ true → Memᴰ e gs) → (t || met e gs) ≡ true → Memᴰ e (g ∷ gs)
    by true q rec k = Memᴰ.head (sym (same_entry_eq g e q))
    by false q rec k = Memᴰ.tail (rec k)

pub among_met : (e : Entry) (es : List Entry) → Memᴰ e es → met e es ≡ true
unfolding met
among_met e es (Memᴰ.head {x} {xs} q) = rw (same_entry_refl x e (sym q))
among_met e es (Memᴰ.tail {x} {xs} m) = by (same_entry x e) (among_met e xs m)
  where
    by : (t : Bool) → met e xs ≡ true → (t || met e xs) ≡ true
    by true q = refl
    by false q = q

pub not_among : (e : Entry) (es : List Entry) → (Memᴰ e es → ⊥) → met e es ≡ false
not_among e es n = by (met e es) refl
  where
    by : (t : Bool) → met e es ≡ t → t ≡ false
    by true q = absurd (n (met_among e es q))
    by false q = refl

pub not_met : (e : Entry) (es : List Entry) → met e es ≡ false → Memᴰ e es → ⊥
not_met e es q m = false≢true (sym q ∙ among_met e es m)
