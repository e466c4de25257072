mod ReadingLemmas
mod ItemOutcomes
mod ReadOutcomes
mod SizeLemmas
mod SizePlaces
mod SettlingLemmas
mod SoundLemmas
mod Outcomes
mod SomeOutcomes
mod OptionFiles
pub mod FaultPlaces
pub mod LawLemmas
