pub mod Storages
pub mod Places
pub mod Growths
pub mod Planes
pub mod Excess
pub mod Capacity
pub mod Laws
pub mod Progress
