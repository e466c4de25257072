pub mod Alone
pub mod Tellings
pub mod Rereads
