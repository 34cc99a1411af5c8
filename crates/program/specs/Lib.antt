-- Definitions, in the order a reader needs them.
pub mod Program
pub mod Listing
-- Definitions that need not be believed.
pub mod FileParts
pub mod FileTables
pub mod Answering
pub mod Rewriting
pub mod NextFile
-- Theorems on the way to the code.
pub mod ProgramLaws
pub mod RewritingLaws
pub mod ListingLaws
pub mod NextFileLaws
