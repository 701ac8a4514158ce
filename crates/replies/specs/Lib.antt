-- What the rules leave open for the code.
pub mod Numbers
