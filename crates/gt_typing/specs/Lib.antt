pub mod SmallTypes
