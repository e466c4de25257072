pub mod WellMade
