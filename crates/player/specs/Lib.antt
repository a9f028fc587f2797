pub mod Acting
pub mod Cues
pub mod Pauses
pub mod Playing
pub mod Stepping
pub mod Asking
