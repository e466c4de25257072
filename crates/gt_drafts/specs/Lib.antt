pub mod Amounts
pub mod Options
pub mod Sameness
pub mod Undefined
pub mod Shapes
pub mod FirstFaults
