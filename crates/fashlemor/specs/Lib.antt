-- What the calls of a host in C do, and that its memory carries the record from call to call.
pub mod Host
pub mod Carried
