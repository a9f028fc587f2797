pub mod Library
pub mod LibraryExample
