mod AliasLists
mod Depths
mod First
pub mod ItemsLemmas
mod Parsed
mod UnmarkedLemmas
mod UnmarkedPlaces
