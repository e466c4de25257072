mod LookupLemmas
pub mod Firsts
mod WalkingLemmas
mod KindLemmas
mod MarkerLemmas
mod MemberLemmas
mod FieldLemmas
