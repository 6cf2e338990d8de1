pub mod Faults
pub mod Pictures
pub mod Slots
pub mod States
pub mod Sinks
pub mod Screens
