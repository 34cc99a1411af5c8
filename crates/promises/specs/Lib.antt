-- Definitions that the theorems are stated with.
pub mod Plain
pub mod Stated
pub mod FileItems
pub mod Returned
pub mod Takers
pub mod FollowingStated
pub mod MeetingStated
-- Theorems about the contracts of the crates below.
-- Tables and the judge.
pub mod ExactlyWhen
pub mod PlainRows
pub mod Verdicts
pub mod Demands
pub mod RuledOut
pub mod Machines
pub mod NamedRuledOut
-- Where no sets are lent.
pub mod Unmet
-- The flow file.
pub mod SameNames
pub mod FileStands
pub mod FileExact
pub mod Reader
pub mod ContentRefusals
pub mod ReaderRefusals
pub mod Reads
pub mod ListRefusals
pub mod NamedDemands
pub mod SpelledFlows
pub mod Writer
pub mod RoundTrip
pub mod CutPlans
pub mod Cuts
pub mod Collide
pub mod Worked
pub mod WriterRuledOut
-- What may come next.
pub mod Listings
pub mod Beginnings
pub mod Following
pub mod NeverTen
pub mod NextAndJudge
pub mod FollowingRedrawn
pub mod SpelledSteps
pub mod FollowingSpelled
pub mod FollowingRuledOut
-- Two lines that meet.
pub mod Meeting
-- The program.
pub mod Once
pub mod Files
pub mod Rewritten
pub mod NextFiles
pub mod NamesShown
pub mod NextRuledOut
pub mod ProgramRuledOut
