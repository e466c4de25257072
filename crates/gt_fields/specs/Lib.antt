pub mod Places
pub mod FieldNames
