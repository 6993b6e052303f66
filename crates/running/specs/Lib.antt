pub mod Sets
pub mod Running
