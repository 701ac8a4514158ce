-- Laws of this crate by subject; each function's own proof cites them.
mod Eprt
