pub mod Finite
pub mod Edges
pub mod Cut
pub mod Covering
pub mod Tests
