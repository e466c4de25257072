pub mod WordLemmas
pub mod OnesLemmas
pub mod SetLemmas
pub mod CountLemmas
pub mod RunLemmas
pub mod LowestLemmas
pub mod SummaryLemmas
