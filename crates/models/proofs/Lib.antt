pub mod Filling
pub mod Closing
pub mod Passing
pub mod Layering
