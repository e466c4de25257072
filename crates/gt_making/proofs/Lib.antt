mod BoundNames
mod Sizing
mod Binds
mod Asked
mod Single
