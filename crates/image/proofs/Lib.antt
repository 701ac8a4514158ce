-- Laws of images: how one is written, how it is read, and that it is read back.
pub mod Writing
pub mod Reading
pub mod Patch
pub mod Arrivals
pub mod Back
pub mod Again
pub mod Changing
pub mod Endings
