-- Definitions.
pub mod Capped
pub mod Formulas
pub mod Counts
pub mod Places
pub mod Grids
pub mod Sought
pub mod Bare
-- Laws.
pub mod CappedLaws
pub mod RankLaws
pub mod JoinLaws
pub mod SumsLaws
pub mod PlacesLaws
pub mod RuledOut
pub mod BareLaws
pub mod OwnLaws
