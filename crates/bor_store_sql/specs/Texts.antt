pub mod Tables
pub mod Queries
pub mod Changes
pub mod Meanings
