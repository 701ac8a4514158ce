-- A host in C as a gateway of demand 3.
pub mod Memory
