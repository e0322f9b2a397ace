pub mod Told
pub mod Moving
