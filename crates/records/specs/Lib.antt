pub mod Chunks
pub mod Sides
pub mod Looking
pub mod Zones
pub mod Headers
pub mod Windows
pub mod Memory
pub mod Internal
