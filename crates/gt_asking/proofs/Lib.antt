pub mod Starts
pub mod PartFits
pub mod Ends
pub mod Bindings
pub mod Showing
pub mod WholeBlocks
pub mod Judged
pub mod Sets
mod Founds
