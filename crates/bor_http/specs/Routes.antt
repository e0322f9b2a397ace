pub mod Routes
pub mod Paths
pub mod Routers
