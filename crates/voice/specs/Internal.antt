-- Definitions that serve contracts inside the crates alone. What a host's contract rests on stands beside this folder.
pub mod Calm
pub mod Frames
pub mod Pace
pub mod Reading
pub mod Rounds
pub mod Sides
pub mod Stages
pub mod Stretch
pub mod Sums
pub mod Wait
pub mod Way
