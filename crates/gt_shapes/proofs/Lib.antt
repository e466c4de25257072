mod CycleFlags
pub mod CycleLemmas
mod Depths
mod FilterMaps
pub mod SearchLemmas
mod TailLemmas
