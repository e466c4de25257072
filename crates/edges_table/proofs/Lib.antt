pub mod FewFields
pub mod Sites
