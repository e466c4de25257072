pub mod ReadingLemmas
pub mod StageLemmas
