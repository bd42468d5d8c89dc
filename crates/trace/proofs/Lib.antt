pub mod Numbers
pub mod Keeping
pub mod Lanes
pub mod Fits
pub mod Accepting
pub mod Forming
pub mod Sources
