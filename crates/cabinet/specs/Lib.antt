pub mod Twins
pub mod Keeping
pub mod Steps
pub mod Questions
pub mod Files
pub mod Presets
