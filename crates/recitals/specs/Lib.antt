pub mod Turns
pub mod Counts
pub mod Borders
pub mod Parts
pub mod Recital
pub mod Endings
