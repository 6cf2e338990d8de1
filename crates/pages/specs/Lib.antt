pub mod Pages
pub mod Recorders
