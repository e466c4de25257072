pub mod Results
pub mod Checks
pub mod Pasts
pub mod Turning
pub mod Changes
