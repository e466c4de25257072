pub mod Taking
pub mod Runs
pub mod RowEdges
pub mod Silence
pub mod Arms
pub mod Measures
pub mod Visits
pub mod PlainRows
