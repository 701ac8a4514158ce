-- "Session files": the report of a file.
pub mod Report
pub mod Printed
pub mod Parts
