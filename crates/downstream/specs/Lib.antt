pub mod Downstream
