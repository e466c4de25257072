pub mod LeafBits
pub mod LeafLists
pub mod LeafRules
pub mod OneList
