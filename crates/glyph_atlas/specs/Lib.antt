pub mod Faults
pub mod Shape
pub mod Atlases
pub mod Calls
pub mod Places
pub mod Queues
