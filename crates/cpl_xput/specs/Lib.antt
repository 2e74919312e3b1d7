pub mod Places
pub mod Sums
pub mod Exchanges
pub mod Laws
