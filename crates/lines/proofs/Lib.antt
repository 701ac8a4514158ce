-- Laws of the rules' functions, for loops and for the parts of a line.
pub mod Trims
pub mod Parts
