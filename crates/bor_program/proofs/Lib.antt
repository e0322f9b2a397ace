pub mod KnownWords
pub mod KnownBytes
pub mod Ends
pub mod Unread
pub mod Replies
pub mod Performed
pub mod OnConnections
pub mod Carried
