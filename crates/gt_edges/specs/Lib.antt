pub mod Numbers
pub mod Notes
pub mod Edges
pub mod Walks
pub mod Deletable
pub mod Tables
