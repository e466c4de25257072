pub mod Thirds
pub mod Totals
pub mod Bits
pub mod CellLemmas
pub mod Changes
