mod Counted
mod Decimals
