-- What an arrival and an end do to the record and the buffers, on the declared structs.
pub mod Calls
pub mod Bounds
