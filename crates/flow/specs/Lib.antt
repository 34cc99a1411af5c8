-- Definitions, in the order a reader needs them.
pub mod Shapes
pub mod Kinds
pub mod Records
pub mod Legends
pub mod Refusals
pub mod Earliest
pub mod Draws
-- Definitions that need not be believed.
pub mod Trees
pub mod Drawn
pub mod Cues
pub mod Checks
pub mod Forms
pub mod Fine
-- Theorems.
pub mod Nodes
pub mod Tests
pub mod EachKind
pub mod NodeChildren
pub mod FirstRefusal
pub mod Children
pub mod Closings
pub mod FineTable
pub mod OneFlow
pub mod EventLeaves
pub mod DrawnLeaves
pub mod RecordsFit
pub mod MaskLaws
pub mod CuedFlows
pub mod DeafFlows
