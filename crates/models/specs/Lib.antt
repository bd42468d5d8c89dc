pub mod Meaning
pub mod Chains
pub mod Rows
pub mod Growth
pub mod Bases
pub mod BaseLaws
pub mod Layers
pub mod Writes
