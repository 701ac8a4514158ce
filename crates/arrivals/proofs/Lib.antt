-- Laws that the proofs of this crate's functions, and of those above it, cite.
pub mod Going
pub mod Runs
mod Single
mod Parts
mod LineEnds
mod LentRuns
mod Keeping
mod PlainLines
mod PlainReplies
