pub mod Programs
pub mod Steps
pub mod Chains
pub mod Making
