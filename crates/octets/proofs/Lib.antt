-- Laws of the rules' functions that the crates above cite: at an index, for loops over octets, for chains of tests, and of what passes.
pub mod Ranges
pub mod Runs
pub mod Words
pub mod Values
pub mod Joining
pub mod Choices
pub mod Passed
