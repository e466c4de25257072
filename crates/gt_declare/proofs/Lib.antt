pub mod PathLemmas
pub mod ChainLemmas
pub mod FieldTypes
pub mod CloseTypes
pub mod StructurePlanes
pub mod Ideals
pub mod LayingSteps
pub mod Wholes
