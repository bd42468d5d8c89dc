pub mod Filling
pub mod Tables
pub mod Steps
pub mod Views
pub mod Found
pub mod Refusals
