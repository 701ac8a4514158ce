-- The table of answers in words, and states at which the bounds on one octet are reached.
pub mod Table
pub mod Reached
