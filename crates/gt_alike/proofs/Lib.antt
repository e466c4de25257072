pub mod Forms
pub mod Equal
