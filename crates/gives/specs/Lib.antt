-- What an octet gives, as a text.
pub mod Text
