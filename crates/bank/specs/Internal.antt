-- Definitions that serve contracts inside the crates alone. What a host's contract rests on stands beside this folder.
pub mod Bounds
pub mod Past
pub mod Rates
