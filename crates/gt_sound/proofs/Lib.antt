mod Lists
mod Names
mod There
mod Distinct
mod Shapes
mod Types
mod Made
mod Whole
mod Words
mod Expressions
mod ReadMarkers
mod ReadFields
mod ReadItems
mod Tokens
mod Headers
pub mod LawLemmas
