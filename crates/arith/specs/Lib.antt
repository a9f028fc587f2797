pub mod Bytes
pub mod Floors
pub mod Holds
pub mod Words
pub mod Lists
pub mod Within
pub mod Floats
pub mod Internal
