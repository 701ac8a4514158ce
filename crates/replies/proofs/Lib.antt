-- Laws of the rules about server lines.
pub mod Codes
pub mod Numbers
pub mod Reading
