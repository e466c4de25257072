pub mod InnerLemmas
pub mod FirstLemmas
pub mod PartLemmas
pub mod MadeLemmas
pub mod WholeLemmas
