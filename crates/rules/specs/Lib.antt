-- Document 01 (docs/01-scope.md), as document 02 changes it, as definitions, in its order. Nothing here is code.
pub mod Octets
pub mod Answers
pub mod Setup
pub mod Lines
pub mod Telnet
pub mod Address
pub mod Commands
pub mod Replies
pub mod Edition
pub mod History
pub mod ToServer
pub mod ToClient
pub mod Items
pub mod Pieces
pub mod Demand3
pub mod Exchanges
