pub mod Agrees
pub mod Nearer
pub mod Equality
pub mod Axes
pub mod Once
