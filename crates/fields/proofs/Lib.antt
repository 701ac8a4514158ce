pub mod Printed
pub mod Fields
