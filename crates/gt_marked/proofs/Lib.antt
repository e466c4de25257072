mod BoundLists
mod DeclaratorLists
mod Escapes
mod FieldLists
mod FieldsLemmas
pub mod GrammarWords
pub mod GroupsLemmas
pub mod Insides
mod KeptLemmas
pub mod MarkedLemmas
mod MarkersLemmas
mod OptionLists
pub mod PlacesLemmas
pub mod TypesLemmas
