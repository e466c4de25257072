mod ManyWords
mod Walks
mod Decoding
mod AsciiNames
mod Comments
mod Outcomes
mod WordsSpelled
mod NamesSpelled
mod NumbersSpelled
mod PathsSpelled
mod StepTexts
mod FormsSpelled
pub mod Settled
mod TextBytes
mod Boundaries
