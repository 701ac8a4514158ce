-- The session as a gateway of demand 3, and the exchanges through its calls.
pub mod Gateway
pub mod Exchanges
