pub mod Members
pub mod Beginnings
pub mod Commons
pub mod Tables
