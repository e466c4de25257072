mod Adding
mod Decimals
mod Commands
mod Nodes
