-- Which records and calls are refused, on the declared structs, and how the record is laid out as octets.
pub mod Sound
pub mod Controls
pub mod Layout
