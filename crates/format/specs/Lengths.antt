-- How many bytes a number has, so many numbers, a section of them, and the section of the sets, by whether there are any. Assumes nothing.
use Rattle.std.specs.Prelude.{ℕ, ◌+◌, ◌*◌, ◌≤◌, List, [], ◌∷◌, ◌++◌, ◌≡◌, refl, length}
use Rattle.std.proofs.Common.{ap, ◌∙◌, arith}
use Rattle.flow.specs.Legends.{set_count}
use Rattle.format.specs.Format.{number_bytes, numbers_bytes, numbers_section, sets_section}

pub number_bytes_length : (n : ℕ) → length (number_bytes n) ≡ 2
unfolding number_bytes
number_bytes_length n = refl

pub numbers_bytes_length : (ns : List ℕ) → length (numbers_bytes ns) ≡ 2 * length ns
unfolding numbers_bytes number_bytes
numbers_bytes_length [] = refl
numbers_bytes_length (n ∷ ns) = omega (arith, numbers_bytes_length ns)

pub section_length : (each : ℕ) (ns : List ℕ) → length (numbers_section each ns) ≡ 2 + 2 * length ns
unfolding numbers_section number_bytes
section_length each ns = omega (arith, numbers_bytes_length ns)

-- without sets there is no section
pub section_of_none : (sets : List ℕ) → length sets ≡ 0 → sets_section sets ≡ []
unfolding sets_section
section_of_none [] h = refl
section_of_none (b ∷ bs) h = absurd (omega arith)

pub section_of_some : (sets : List ℕ) → 1 ≤ length sets → sets_section sets ≡ number_bytes (set_count sets) ++ sets
unfolding sets_section number_bytes
section_of_some [] h = absurd (omega arith)
section_of_some (b ∷ bs) h = refl

pub sets_length : (sets : List ℕ) → 1 ≤ length sets → length (sets_section sets) ≡ 2 + length sets
unfolding number_bytes
sets_length sets h = ap length (section_of_some sets h) ∙ omega arith

pub sets_length_most : (sets : List ℕ) → length (sets_section sets) ≤ 2 + length sets
unfolding sets_section number_bytes
sets_length_most [] = omega arith
sets_length_most (b ∷ bs) = omega arith
