-- Definitions that serve contracts inside the crates alone. What a host's contract rests on stands beside this folder.
pub mod Hash
