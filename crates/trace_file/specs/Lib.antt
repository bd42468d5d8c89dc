pub mod Faults
pub mod Files
pub mod Reading
pub mod FirstFaults
pub mod Writing
pub mod Made
pub mod Outcomes
