pub mod NameLemmas
pub mod FewFields
