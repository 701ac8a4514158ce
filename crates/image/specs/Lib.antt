-- The record as octets in lent memory.
pub mod Image
pub mod Lent
