pub mod Lists
pub mod Tables
pub mod Orders
pub mod Starts
pub mod Findings
pub mod Inspecting
pub mod Verdicts
