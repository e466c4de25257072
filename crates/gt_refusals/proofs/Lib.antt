mod Suiting
mod FirstMade
mod FirstCauses
mod AnswersMade
mod AnswersThere
