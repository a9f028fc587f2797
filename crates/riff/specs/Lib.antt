pub mod Chunks
pub mod Form
pub mod Faults
pub mod Places
pub mod Written
pub mod Internal
