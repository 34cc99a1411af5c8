pub mod Beside
pub mod ClosedForms
-- Theorems that other crates cite.
pub mod CountsLaws
pub mod SeekLaws
pub mod StepLaws
