-- Laws for functions that choose by tests, for the EPSV argument, for the word that a content begins with, and for a line by its parts.
pub mod Digits
pub mod Begins
pub mod Words
