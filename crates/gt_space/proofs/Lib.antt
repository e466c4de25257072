pub mod RangeLemmas
pub mod NumberLemmas
pub mod MemorySteps
