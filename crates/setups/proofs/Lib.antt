pub mod Flags
pub mod Octets
