pub mod Lookups
pub mod Invariants
pub mod Placing
pub mod Sweeping
