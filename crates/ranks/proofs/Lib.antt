pub mod Facts
pub mod Searching
pub mod Going
