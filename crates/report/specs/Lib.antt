-- The report of a session file, written part by part.
pub mod Replays
pub mod Ran
pub mod Whole
