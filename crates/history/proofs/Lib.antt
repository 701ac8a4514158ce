-- Demand 3, from the readings' side (Items), the record's side (Queue, Places, Settle, Steps, Calls, Counts) and both (Fresh, Demand3).
pub mod Queue
pub mod Places
pub mod Settle
pub mod Items
pub mod Steps
pub mod Counts
pub mod Calls
pub mod Fresh
pub mod Demand3
pub mod Consequences
pub mod Exchanges
