-- Laws of the Telnet layer, by what an octet is and by what it does.
pub mod Layers
