-- What a run of octets, and plain lines, make of a state.
pub mod Runs
pub mod PlainRuns
