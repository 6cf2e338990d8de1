pub mod Bytes
pub mod Back
pub mod Streams
pub mod Cases
