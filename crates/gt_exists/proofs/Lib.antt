mod NotNot
mod FirstPlaces
mod Readings
mod Meanings
mod Flags
mod Resolutions
