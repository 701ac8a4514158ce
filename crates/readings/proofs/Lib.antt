-- The readings octet by octet (ByOctets, AuthAt), from a state on (Rest), what they have in common (Readings), and of long lines
-- (Exchanges).
pub mod ByOctets
pub mod AuthAt
pub mod Rest
pub mod Readings
pub mod Exchanges
