pub mod Stream
pub mod Reads
pub mod Writes
pub mod Means
pub mod Laws
pub mod Worked
