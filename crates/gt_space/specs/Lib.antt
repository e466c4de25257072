pub mod Range
pub mod Numbers
pub mod Laws
pub mod Memory
pub mod MemoryLends
