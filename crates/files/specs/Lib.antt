-- "Session files": which files are refused.
pub mod Contents
