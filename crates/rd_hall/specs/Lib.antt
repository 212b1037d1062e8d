-- What the contracts of the hall cite.
pub mod Setups
pub mod SeatView
pub mod Seats
pub mod Looks
pub mod Account
