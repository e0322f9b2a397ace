pub mod Room
pub mod Telling
pub mod Stopping
pub mod Opening
pub mod Migrating
pub mod Tables
pub mod Laws
