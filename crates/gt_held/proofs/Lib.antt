pub mod ZeroBlocks
pub mod TypeLemmas
pub mod TailLemmas
pub mod NoughtsThere
pub mod Commons
pub mod SomeBytes
pub mod PlainZeros
