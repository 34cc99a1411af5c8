-- A choice among compensations has one content of the bytes after, and one answer (`chosen_once`): setting a number and redrawing a part
-- have one, a number falls on one closing, and so each course has one way. Assumes nothing.
use Rattle.std.specs.Prelude.{ℕ, ◌≡◌, refl, Bool, true, false, not, List, T, eqb, get_or}
use Rattle.std.proofs.Common.{sym, ◌∙◌, ap, subst, subst₂, arith, eqb-true, ext_get_or}
use Rattle.std.proofs.lemmas.Bool.{eqb-false}
use Rattle.calculus.specs.Term.{Closing, done, withdrawn}
use Rattle.calculus.specs.Successors.{eqc}
use Rattle.flow.specs.Kinds.{shape}
use Rattle.flow.specs.Cues.{joint_at}
use Rattle.flow.specs.Trees.{Tree}
use Rattle.states.specs.declared.Course.{Course}
use Rattle.states.specs.declared.Picked.{Picked}
use Rattle.states.specs.declared.Sense.TheVariants.{Undoing}
use Rattle.states.specs.State.{part, modes}
use Rattle.states.specs.Scenes.{scene, Sets, Redrawn, Ask, ask}
use Rattle.states.specs.Becomes.{course_in, Lands, on_done, on_withdrawn, on_failed, Becomes, basic_stays, pair_to_second, pair_to_nothing, as_child, held_to_both, seq_to_first, seq_to_both, alt_to_first, alt_to_second, par_to_both, known_of, seq_of, par_of, ask_second, within_of, fitting_of, beside_of, Chosen}
use Rattle.states.specs.RedrawLaws.{redrawn_once}

-- A number is set, or a part redrawn -------------------------------------------------------------------------------------------------

pub sets_once : {t t₁ t₂ : List ℕ} {i n : ℕ} → Sets t i n t₁ → Sets t i n t₂ → t₁ ≡ t₂
sets_once {t} {t₁} {t₂} {i} x y = ext_get_or 0 t₁ t₂ (x.long ∙ sym y.long) (λ j h. by j (eqb j i) refl)
  where
    by : (j : ℕ) (b : Bool) → eqb j i ≡ b → get_or t₁ j 0 ≡ get_or t₂ j 0
    by j true e = ap (λ z. get_or t₁ z 0) (eqb-true j i e) ∙ x.here ∙ sym y.here ∙ ap (λ z. get_or t₂ z 0) (sym (eqb-true j i e))
    by j false e = x.others j (eqb-false j i e) ∙ sym (y.others j (eqb-false j i e))

pub redrawn_same : {ns : List ℕ} → Tree (shape ns) → {i : ℕ} {t t₁ t₂ : List ℕ} → Redrawn ns i t t₁ → Redrawn ns i t t₂ → t₁ ≡ t₂
redrawn_same tree {t₁ = t₁} {t₂ = t₂} x y = ext_get_or 0 t₁ t₂ (x.long ∙ sym y.long) (λ n h. redrawn_once tree x y n)

-- and a number is set then
sets_same : {u₁ u₂ t₁ t₂ : List ℕ} {i m : ℕ} → u₁ ≡ u₂ → Sets u₁ i m t₁ → Sets u₂ i m t₂ → t₁ ≡ t₂
sets_same {t₁ = t₁} {i = i} {m = m} e w v = sets_once (subst (λ u. Sets u i m t₁) e w) v

-- A number falls on one closing -------------------------------------------------------------------------------------------------------

lands_once : {x y j : ℕ} {w v : Closing} {r s : ℕ} → Lands x y j w r → Lands x y j v s → (w ≡ v) × (r ≡ s)
lands_once (on_done h) (on_done h') = (refl, refl)
lands_once (on_done h) (on_withdrawn g k) = absurd (omega (arith, h, g))
lands_once (on_done h) (on_failed g k) = absurd (omega (arith, h, g))
lands_once (on_withdrawn g k) (on_done h) = absurd (omega (arith, h, g))
lands_once (on_withdrawn g k) (on_withdrawn g' k') = (refl, refl)
lands_once (on_withdrawn g k) (on_failed g' k') = absurd (omega (arith, k, k'))
lands_once (on_failed g k) (on_done h) = absurd (omega (arith, h, g))
lands_once (on_failed g k) (on_withdrawn g' k') = absurd (omega (arith, k, k'))
lands_once (on_failed g k) (on_failed g' k') = (refl, refl)

-- A part becomes one thing ------------------------------------------------------------------------------------------------------------

not_other : {w : Closing} → w ≡ done → T (not (eqc w done)) → ⊥
not_other e h = rw e at h

-- node c becomes its compensation
abbrev At : List ℕ → ℕ → List ℕ → ℕ → Ask → List ℕ → Picked → Type 0
At ns a t c q t' p = Becomes ns a (course_in (scene ns t a) c) t c q t' p

module _ (ns : List ℕ) (tree : Tree (shape ns)) (a : ℕ) where
  -- by modes and an ask that are the same
  at_same : {t u : List ℕ} {c : ℕ} {q q₂ : Ask} {t' : List ℕ} {p : Picked} → t ≡ u → q ≡ q₂ → At ns a u c q₂ t' p → At ns a t c q t' p
  at_same {c = c} {t' = t'} {p = p} e d x = subst₂ (λ t q. At ns a t c q t' p) (sym e) (sym d) x

  pub becomes_once : {x : Course} {t : List ℕ} {i : ℕ} {q : Ask} {t₁ t₂ : List ℕ} {p₁ p₂ : Picked} → Becomes ns a x t i q t₁ p₁ → Becomes ns a x t i q t₂ p₂ → (t₁ ≡ t₂) × (p₁ ≡ p₂)
  becomes_once basic_stays basic_stays = (refl, refl)
  becomes_once (pair_to_second e x w) (pair_to_second e' y v) = (sets_same (redrawn_same tree x y) w v, refl)
  becomes_once (pair_to_second e x w) (pair_to_nothing n y v) = absurd (not_other e n)
  becomes_once (pair_to_nothing n x w) (pair_to_second e y v) = absurd (not_other e n)
  becomes_once (pair_to_nothing n x w) (pair_to_nothing n' y v) = (sets_same (redrawn_same tree x y) w v, refl)
  becomes_once (as_child x) (as_child y) = becomes_once x y
  becomes_once {t = t} {q = q} (held_to_both {p = p} w x) (held_to_both v y) =
      let z = becomes_once x (at_same (sets_once w v) refl y) in
      (z.0, ap (λ l. seq_of l (known_of a q.number ((part ns (modes t) p.first).std Undoing))) z.1)
  becomes_once (seq_to_first h w x) (seq_to_first h' v y) = becomes_once x (at_same (sets_once w v) refl y)
  becomes_once (seq_to_first h w x) (seq_to_both h' x' v y) = absurd (omega (arith, h, h'))
  becomes_once (seq_to_both h x' w x) (seq_to_first h' v y) = absurd (omega (arith, h, h'))
  becomes_once {q = q} (seq_to_both h x w x₂) (seq_to_both h' y v y₂) =
      let z = becomes_once x y in
      let z₂ = becomes_once x₂ (at_same (sets_same z.0 w v) (ap (ask_second q) z.1) y₂) in
      (z₂.0, (λ j. seq_of (z₂.1 j) (z.1 j)))
  becomes_once (alt_to_first h w x) (alt_to_first h' v y) = becomes_once x (at_same (sets_once w v) refl y)
  becomes_once (alt_to_first h w x) (alt_to_second h' v y) = absurd (omega (arith, h, h'))
  becomes_once (alt_to_second h w x) (alt_to_first h' v y) = absurd (omega (arith, h, h'))
  becomes_once (alt_to_second h w x) (alt_to_second h' v y) = becomes_once x (at_same (sets_once w v) refl y)
  becomes_once {t = t} {q = q} (par_to_both {n = m} {p = p} {y = v} {r₂ = n} f x f₂ x₂) (par_to_both g y g₂ y₂) =
      let s = scene ns t a in
      let b = joint_at a m in
      let l = lands_once f g in
      let z = becomes_once x (at_same refl (λ j. ask (l.0 j) (beside_of s b p.second q (l.0 j)) (l.1 j)) y) in
      let l₂ = lands_once (subst₂ (λ x k. Lands (fitting_of s b p.second q x k done) (fitting_of s b p.second q x k withdrawn) k.rest v n) l.0 z.1 f₂) g₂ in
      let z₂ = becomes_once x₂ (at_same z.0 (λ j. ask (l₂.0 j) (within_of b q (z.1 j)) (l₂.1 j)) y₂) in
      (z₂.0, (λ j. par_of b (z.1 j) (z₂.1 j)))

pub chosen_once : {ns : List ℕ} → Tree (shape ns) → {t t₁ t₂ : List ℕ} {a i : ℕ} {q : Ask} {p₁ p₂ : Picked} → Chosen (scene ns t a) i q t₁ p₁ → Chosen (scene ns t a) i q t₂ p₂ → (t₁ ≡ t₂) × (p₁ ≡ p₂)
chosen_once {ns} tree {a = a} x y = becomes_once ns tree a x.becomes y.becomes
