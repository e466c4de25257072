pub mod Shown
pub mod Parts
pub mod BlockTexts
pub mod BlockParts
pub mod StaticTexts
