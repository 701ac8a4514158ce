-- For the reader: Whole (the parts joined are the report), Most (how long a part is), claims of specs/Whole. The others are laws that the proofs cite.
pub mod Due
pub mod Texts
pub mod Runs
pub mod Parts
pub mod Standing
pub mod Whole
pub mod Most
