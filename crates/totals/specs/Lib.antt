pub mod Settings
pub mod Values
pub mod Internal
