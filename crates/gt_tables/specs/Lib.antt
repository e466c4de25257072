pub mod Ordered
pub mod Sharing
pub mod Building
pub mod Leaves
pub mod Naming
pub mod Chains
pub mod RootWords
pub mod Counting
