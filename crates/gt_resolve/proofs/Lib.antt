mod Agreements
mod Classes
mod CycleFaults
mod DraftLemmas
pub mod FaultFiles
pub mod FaultPlaces
pub mod FewLemmas
mod Firsts
mod NameTests
pub mod Outcomes
mod PlacingLemmas
