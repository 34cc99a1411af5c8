-- Definitions, in the order a reader needs them.
pub mod Report
pub mod Faults
-- Definitions that need not be believed.
pub mod Reading
pub mod Laying
-- Theorems on the way to the code.
pub mod LayoutLaws
pub mod ReaderLaws
