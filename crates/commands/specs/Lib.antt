-- Lines of no word that the gateway looks for.
pub mod Plain
