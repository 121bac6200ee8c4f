pub mod Walks
pub mod Offers
pub mod Stages
pub mod Openings
pub mod Reached
pub mod Steps
pub mod Rounds
