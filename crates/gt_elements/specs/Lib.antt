pub mod Elements
pub mod Naming
pub mod InHeap
