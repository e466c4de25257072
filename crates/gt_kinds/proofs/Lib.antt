pub mod PlaceLemmas
pub mod Naming
pub mod Meant
pub mod TypeKinds
