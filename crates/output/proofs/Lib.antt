pub mod Decimal
pub mod Tenths
pub mod Placing
pub mod Front
