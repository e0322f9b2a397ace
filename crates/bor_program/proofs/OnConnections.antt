pub mod Watching
pub mod Phases
pub mod Servers
pub mod Running
pub mod Streams
pub mod Places
pub mod Waits
pub mod Remaining
