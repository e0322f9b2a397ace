pub mod OnIncoming
pub mod OnRoutes
