mod ChainLemmas
pub mod DeclaredFiles
mod DeclaringLemmas
mod KindLemmas
mod NamedValues
mod Progresses
mod ScopeLemmas
mod TableLemmas
mod TargetLemmas
