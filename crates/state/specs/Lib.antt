pub mod Quiet
pub mod Channels
pub mod Slots
pub mod Reach
pub mod Seats
pub mod Answers
pub mod Board
pub mod Internal
