pub mod Found
pub mod Reading
pub mod Lists
pub mod FoundAgents
pub mod FoundFilings
pub mod FoundStatements
pub mod Declared
