-- What the rules leave open for the code: a number within bounds, and what a test that is handed over tells.
pub mod Numbers
pub mod Tests
