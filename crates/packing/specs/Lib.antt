pub mod Packed
pub mod Run
