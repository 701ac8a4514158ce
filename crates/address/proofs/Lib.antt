-- Laws of this crate by subject; each function's own proof cites them.
pub mod Tests
pub mod Turns
pub mod Parts
pub mod Hex
pub mod Numbers
pub mod Halves
pub mod Wholes
pub mod Readings
pub mod Texts
