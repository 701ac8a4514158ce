-- Laws that the proofs of this crate's functions, and of those above it, cite.
pub mod Stops
pub mod Fits
pub mod Quiet
pub mod Settles
pub mod Turns
pub mod Octets
pub mod Halves
pub mod Lent
pub mod Over
pub mod Nexts
pub mod Through
pub mod Telnets
