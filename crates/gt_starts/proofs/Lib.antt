pub mod BeginLemmas
pub mod LeadLemmas
pub mod TrieLemmas
pub mod EndLemmas
pub mod WayLemmas
