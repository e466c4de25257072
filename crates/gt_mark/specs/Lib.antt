pub mod Reached
pub mod Marks
pub mod Further
pub mod Rounds
pub mod Chains
pub mod Steps
pub mod Wide
