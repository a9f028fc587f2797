pub mod ReaderLaws
pub mod ShelfLaws
