pub mod Keys
pub mod Controls
pub mod Programs
pub mod Bends
pub mod Starting
pub mod Striking
pub mod Internal
