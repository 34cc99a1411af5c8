-- Definitions.
pub mod Memory
-- Laws.
pub mod MemoryLaws
