-- Demand 3 for a host in C.
pub mod Hosts
mod Promises
mod Progress
