mod Found
mod Runs
