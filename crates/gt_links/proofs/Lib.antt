pub mod RingLemmas
pub mod Among
pub mod Chains
pub mod Made
pub mod Changed
pub mod Empty
pub mod Calls
