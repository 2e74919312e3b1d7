pub mod Rooms
pub mod Tallies
pub mod Seas
pub mod Rows
pub mod Holdings
pub mod Exchanges
pub mod Journeys
pub mod Laws
