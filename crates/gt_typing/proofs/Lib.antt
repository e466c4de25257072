pub mod SizeLemmas
pub mod SoundLemmas
