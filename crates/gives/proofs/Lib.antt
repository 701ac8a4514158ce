-- What is given, as a text, and texts with each 255 doubled.
pub mod Texts
pub mod Doubling
