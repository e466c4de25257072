pub mod NameTests
pub mod NameLists
pub mod TableLemmas
pub mod PlaceLemmas
pub mod IndexLemmas
