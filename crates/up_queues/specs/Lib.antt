pub mod Queue
pub mod Laws
pub mod Lists
pub mod Seats
