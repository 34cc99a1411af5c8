-- Sameness of sets of traces and of sets of pairs, and that every operation of Traces respects it: the same sets for parts make the same
-- set for the whole (`then_cong`, `beside_cong`, `either_cong`, `blocked_cong`, `paired_cong`, `cthen_cong`, `ceither_cong`,
-- `cbeside_cong`, `holding_cong`). Of each operation one direction is proved, of sets that are part of others; the other direction is
-- the same, turned round. Assumes nothing.
use Rattle.std.specs.Prelude.{◌⊎◌, ◌↔◌, []}
use Rattle.std.proofs.Common.{inl, inr}
use Rattle.calculus.specs.Term.{Closing, done, withdrawn, failed, Joint}
use Rattle.calculus.specs.Traces.{Trace, tr, Traces, Pairs, Then, stays, enters, Beside, beside, only, kept_by, Paired, CThen, CEither, CBeside, Holding, Blocked, closed, undone, Within, SamePairs}

-- Sameness ----------------------------------------------------------------------------------------------------------------

-- the same traces
abbrev pub SameSets : Traces → Traces → Type 0
SameSets P Q = (z : Trace) → P z ↔ Q z

pub sets_self : (P : Traces) → SameSets P P
sets_self P z = (λ h. h, λ h. h)

pub sets_flip : {P Q : Traces} → SameSets P Q → SameSets Q P
sets_flip f z = ((f z).1, (f z).0)

pub sets_then : {P Q R : Traces} → SameSets P Q → SameSets Q R → SameSets P R
sets_then f g z = (λ h. (g z).0 ((f z).0 h), λ h. (f z).1 ((g z).1 h))

pub within_self : (P : Pairs) → Within P P
within_self P x h = (h, sets_self (P.undo x h))

pub within_then : {P Q R : Pairs} → Within P Q → Within Q R → Within P R
within_then f g x h = let k = f x h in let l = g x k.0 in (l.0, sets_then k.1 l.1)

pub pairs_self : (P : Pairs) → SamePairs P P
pairs_self P = (within_self P, within_self P)

pub pairs_flip : {P Q : Pairs} → SamePairs P Q → SamePairs Q P
pairs_flip f = (f.1, f.0)

pub pairs_then : {P Q R : Pairs} → SamePairs P Q → SamePairs Q R → SamePairs P R
pairs_then f g = (within_then f.0 g.0, within_then g.1 f.1)

-- Operations on sets ------------------------------------------------------------------------------------------------------

-- each trace of P is one of Q
abbrev Part : Traces → Traces → Type 0
Part P Q = (z : Trace) → P z → Q z

one_way : {P Q : Traces} → SameSets P Q → Part P Q
one_way f z = (f z).0

other_way : {P Q : Traces} → SameSets P Q → Part Q P
other_way f z = (f z).1

module _ {P P' Q Q' : Traces} (f : Part P P') (g : Part Q Q') where
  then_part : {u : Closing} → Part (Then u P Q) (Then u P' Q')
  then_part z (stays {s} {w} h n) = stays (f (tr s w) h) n
  then_part {u} z (enters {s} {y} h k e) = enters (f (tr s u) h) (g y k) e

  beside_part : {j : Joint} → Part (Beside j P Q) (Beside j P' Q')
  beside_part z (beside {x} {y} h k m) = beside (f x h) (g y k) m

  either_part : (z : Trace) → P z ⊎ Q z → P' z ⊎ Q' z
  either_part z (inl h) = inl (f z h)
  either_part z (inr h) = inr (g z h)

module _ {P P' Q Q' : Traces} (f : SameSets P P') (g : SameSets Q Q') where
  pub then_cong : {u : Closing} → SameSets (Then u P Q) (Then u P' Q')
  then_cong z = (then_part (one_way f) (one_way g) z, then_part (other_way f) (other_way g) z)

  pub beside_cong : {j : Joint} → SameSets (Beside j P Q) (Beside j P' Q')
  beside_cong z = (beside_part (one_way f) (one_way g) z, beside_part (other_way f) (other_way g) z)

  pub either_cong : (z : Trace) → (P z ⊎ Q z) ↔ (P' z ⊎ Q' z)
  either_cong z = (either_part (one_way f) (one_way g) z, either_part (other_way f) (other_way g) z)

-- Operations on sets of pairs ---------------------------------------------------------------------------------------------

pub kept_cong : {Q Q' : Traces} → SameSets Q Q' → (x : Trace) → SameSets (kept_by Q x) (kept_by Q' x)
kept_cong g (tr s done) = g
kept_cong g (tr s withdrawn) = sets_self (only (tr [] done))
kept_cong g (tr s failed) = sets_self (only (tr [] done))

paired_within : {P P' Q Q' : Traces} → Part P P' → SameSets Q Q' → Within (Paired P Q) (Paired P' Q')
paired_within f g x h = (f x h, kept_cong g x)

pub paired_cong : {P P' Q Q' : Traces} → SameSets P P' → SameSets Q Q' → SamePairs (Paired P Q) (Paired P' Q')
paired_cong f g = (paired_within (one_way f) g, paired_within (other_way f) (sets_flip g))

module _ {P P' Q Q' : Pairs} (f : Within P P') (g : Within Q Q') where
  cthen_within : Within (CThen P Q) (CThen P' Q')
  cthen_within z (stays {s} {w} h n) = let k = f (tr s w) h in (stays k.0 n, k.1)
  cthen_within z (enters {s} {y} h l e) = let k = f (tr s done) h in let m = g y l in (enters k.0 m.0 e, then_cong m.1 k.1)

  ceither_within : Within (CEither P Q) (CEither P' Q')
  ceither_within z (inl h) = let k = f z h in (inl k.0, k.1)
  ceither_within z (inr h) = let k = g z h in (inr k.0, k.1)

  cbeside_within : {j : Joint} → Within (CBeside j P Q) (CBeside j P' Q')
  cbeside_within z (beside {x} {y} h l m) = let k = f x h in let n = g y l in (beside k.0 n.0 m, beside_cong k.1 n.1)

module _ {P P' Q Q' : Pairs} (f : SamePairs P P') (g : SamePairs Q Q') where
  pub cthen_cong : SamePairs (CThen P Q) (CThen P' Q')
  cthen_cong = (cthen_within f.0 g.0, cthen_within f.1 g.1)

  pub ceither_cong : SamePairs (CEither P Q) (CEither P' Q')
  ceither_cong = (ceither_within f.0 g.0, ceither_within f.1 g.1)

  pub cbeside_cong : {j : Joint} → SamePairs (CBeside j P Q) (CBeside j P' Q')
  cbeside_cong = (cbeside_within f.0 g.0, cbeside_within f.1 g.1)

holding_within : {Q Q' : Pairs} {R R' : Traces} → Within Q Q' → SameSets R R' → Within (Holding Q R) (Holding Q' R')
holding_within f g x h = let k = f x h in (k.0, then_cong k.1 g)

pub holding_cong : {Q Q' : Pairs} {R R' : Traces} → SamePairs Q Q' → SameSets R R' → SamePairs (Holding Q R) (Holding Q' R')
holding_cong f g = (holding_within f.0 g, holding_within f.1 (sets_flip g))

blocked_part : {P P' : Pairs} → Within P P' → Part (Blocked P) (Blocked P')
blocked_part f z (closed {s} h) = closed (f (tr s done) h).0
blocked_part f z (undone {s} {y} h u e) = let k = f (tr s failed) h in undone k.0 ((k.1 y).0 u) e

pub blocked_cong : {P P' : Pairs} → SamePairs P P' → SameSets (Blocked P) (Blocked P')
blocked_cong f z = (blocked_part f.0 z, blocked_part f.1 z)
