pub mod Cells
pub mod Cases
