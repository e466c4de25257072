pub mod Cuts
mod Determined
mod ItemEnds
pub mod Searched
mod Sound
mod Stacks
mod Turns
