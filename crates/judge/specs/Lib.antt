pub mod Answers
pub mod Runs
pub mod Law
pub mod Seen
pub mod States
