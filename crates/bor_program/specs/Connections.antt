-- Many clients, served at once.
pub mod Limits
pub mod Places
pub mod Times
pub mod Serving
pub mod Watching
pub mod Streams
pub mod Phases
pub mod Servers
