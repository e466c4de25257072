mod Digits
mod Names
mod Ours
mod InRange
