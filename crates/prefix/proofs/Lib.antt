pub mod Puts
pub mod Placed
pub mod Told
pub mod Returns
pub mod Published
pub mod Widths
