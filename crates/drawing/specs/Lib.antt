pub mod Shown
pub mod Between
