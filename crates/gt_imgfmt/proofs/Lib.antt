pub mod FieldLemmas
pub mod EntryLemmas
pub mod ReadLemmas
