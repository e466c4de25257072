pub mod Graphs
pub mod Good
pub mod Grounds
