pub mod Faults
pub mod Metric
pub mod Cover
pub mod Steps
pub mod Supported
