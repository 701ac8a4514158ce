-- Laws of the queue that the crates above cite: its answers, its texts in a buffer, its array, and what leaves it.
pub mod Answers
pub mod Placing
pub mod Listed
pub mod Shifting
pub mod Still
pub mod Plans
