-- The client's lines octet by octet, and what the two readings of demand 3 have in common.
pub mod ByOctets
pub mod Readings
