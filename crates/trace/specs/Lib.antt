pub mod Calls
pub mod Completeness
pub mod Operations
pub mod Refusals
pub mod Tables
pub mod Traces
