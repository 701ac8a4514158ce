-- The owed kinds as numbers of the record, and what comes first among them.
pub mod Kinds
pub mod Heads
