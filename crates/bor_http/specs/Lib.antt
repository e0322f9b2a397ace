pub mod Incoming
pub mod Routes
