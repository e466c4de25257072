mod Again
mod CharactersLemmas
mod Derived
pub mod ExpressionLemmas
mod IntegersLemmas
mod Lines
mod PartsLemmas
mod Spelled
