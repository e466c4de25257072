pub mod Drafts
pub mod Redefinitions
pub mod Placings
pub mod Faults
pub mod Resolution
