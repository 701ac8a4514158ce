-- Document 02, request 6: addresses by prefix, what is promised of both directions together, the RFC's examples, and addresses in slices.
pub mod Prefix
pub mod Returns
pub mod Published
pub mod Slices
