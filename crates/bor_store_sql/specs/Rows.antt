pub mod Placed
pub mod Encoding
pub mod Stored
pub mod Reading
pub mod RowForms
pub mod Seen
