mod Bools
mod Runs
mod Numbers
mod Comments
mod Literals
mod Opening
mod Parts
mod Again
mod Offsets
mod SeenTokens
mod Directives
mod Front
mod Scanning
mod Unique
pub mod Outcomes
mod Total
pub mod Slices
pub mod Names
