-- For the reader: Table (the table's rows), Bounds and Reached (how much one octet writes), Kept (no call makes a record that 4 refuses).
pub mod Lengths
pub mod Ports
pub mod Refusals
pub mod Bounds
pub mod Reached
pub mod Taking
pub mod Rows
pub mod Table
pub mod Kept
