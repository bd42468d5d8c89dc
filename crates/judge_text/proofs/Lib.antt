pub mod Calling
pub mod Unique
pub mod Few
pub mod Viewing
pub mod Answered
pub mod Reaching
pub mod Settling
