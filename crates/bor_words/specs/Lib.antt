pub mod Words
pub mod Tables
pub mod Joined
pub mod Values
pub mod Asked
pub mod Unread
pub mod Help
