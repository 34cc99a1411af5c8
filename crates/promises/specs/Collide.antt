-- Names are counted, never joined: two entries, or two lists of entries, have the same bytes only if they are the same, so distinct
-- pairs of a step and a machine never collide. The comma is a byte like any other. Worked example: the washer 'W1,2' and drum 2 on
-- 'W1'. Assumes nothing.
use Rattle.std.specs.Prelude.{ℕ, false, List, [], ◌∷◌, ◌++◌, ◌≡◌, refl, length, take, drop}
use Rattle.std.proofs.Common.{append_assoc, ap, ap₂, sym, ◌∙◌, arith, take_at, drop_at}
use Rattle.format.specs.Format.{Entry, name_bytes, entry_bytes, entries_bytes}
use Rattle.format.specs.Sections.{same_bytes, same_step, same_entry, met}

head_of : List ℕ → ℕ
head_of [] = 0
head_of (x ∷ xs) = x

tail_of : List ℕ → List ℕ
tail_of [] = []
tail_of (x ∷ xs) = xs

-- a name is told from what follows it
pub name_apart : (a b xs ys : List ℕ) → name_bytes a ++ xs ≡ name_bytes b ++ ys → (a ≡ b) × (xs ≡ ys)
unfolding name_bytes head_of tail_of
name_apart a b xs ys e =
    let l : length a ≡ length b = ap head_of e in
    let t : a ++ xs ≡ b ++ ys = ap tail_of e in (
      sym (take_at a xs (length a) refl) ∙ ap₂ take l t ∙ take_at b ys (length b) refl,
      sym (drop_at a xs (length a) refl) ∙ ap₂ drop l t ∙ drop_at b ys (length b) refl,
    )

-- "Two entries are the same only if both names are equal byte by byte."
pub entry_apart : (e g : Entry) (xs ys : List ℕ) → entry_bytes e ++ xs ≡ entry_bytes g ++ ys → (e ≡ g) × (xs ≡ ys)
unfolding entry_bytes
entry_apart e g xs ys q =
    let a = name_apart e.step g.step (name_bytes e.machine ++ xs) (name_bytes g.machine ++ ys)
    (sym (append_assoc (name_bytes e.step) (name_bytes e.machine) xs) ∙ q ∙ append_assoc (name_bytes g.step) (name_bytes g.machine) ys) in
    let b = name_apart e.machine g.machine xs ys a.1 in
    (ap₂ (λ (x y : List ℕ). record { step = x; machine = y }) a.0 b.0, b.1)

-- distinct pairs never collide, whatever follows them
pub never_collide : (e g : Entry) (xs ys : List ℕ) → (e ≡ g → ⊥) → entry_bytes e ++ xs ≡ entry_bytes g ++ ys → ⊥
never_collide e g xs ys n q = n (entry_apart e g xs ys q).0

no_bytes : {x : ℕ} {xs : List ℕ} → ◌≡◌ {A = List ℕ} [] (x ∷ xs) → ⊥
no_bytes e = let z : ◌≡◌ {A = ℕ} 0 1 = cc in omega arith

-- nor do lists of them
pub entries_apart : (es gs : List Entry) → entries_bytes es ≡ entries_bytes gs → es ≡ gs
unfolding entries_bytes entry_bytes name_bytes
entries_apart [] [] q = refl
entries_apart [] (g ∷ gs) q = absurd (no_bytes q)
entries_apart (e ∷ es) [] q = absurd (no_bytes (sym q))
entries_apart (e ∷ es) (g ∷ gs) q =
    let a = entry_apart e g (entries_bytes es) (entries_bytes gs) q in
    ap₂ ◌∷◌ a.0 (entries_apart es gs a.1)

---- The washer 'W1,2' beside drum 2 on 'W1' ----

-- the step 'hold' on the washer 'W1,2'
abbrev pub washer : Entry
washer = record { step = 104 ∷ 111 ∷ 108 ∷ 100 ∷ []; machine = 87 ∷ 49 ∷ 44 ∷ 50 ∷ [] }

-- the step '2,hold', that of drum 2, on the machine 'W1'
abbrev pub drum : Entry
drum = record { step = 50 ∷ 44 ∷ 104 ∷ 111 ∷ 108 ∷ 100 ∷ []; machine = 87 ∷ 49 ∷ [] }

-- a key that joins machine and step by a comma
abbrev joined : Entry → List ℕ
joined e = e.machine ++ (44 ∷ e.step)

-- joined by commas the two are one
pub joined_collide : joined washer ≡ joined drum
joined_collide = refl

-- counted they are two: their bytes differ, whatever follows, and neither is met where the other stands
pub washer_apart : (xs ys : List ℕ) → entry_bytes washer ++ xs ≡ entry_bytes drum ++ ys → ⊥
washer_apart xs ys = never_collide washer drum xs ys (λ e. let z : ◌≡◌ {A = ℕ} 4 6 = ap (λ (g : Entry). length g.step) e in omega arith)

pub washer_new : met drum (washer ∷ []) ≡ false
unfolding met same_entry same_step same_bytes
washer_new = refl

pub drum_new : met washer (drum ∷ []) ≡ false
unfolding met same_entry same_step same_bytes
drum_new = refl
