pub mod Knowing
pub mod Holding
pub mod Making
pub mod InBytes
pub mod Marks
pub mod Totals
