pub mod Graphs
pub mod Searches
pub mod TailGraphs
pub mod Cycles
