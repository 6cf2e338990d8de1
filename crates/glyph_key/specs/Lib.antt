pub mod Faults
pub mod Steps
pub mod Bucket
pub mod Joins
pub mod Keys
pub mod Once
