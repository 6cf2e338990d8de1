pub mod Sets
pub mod AllPages
