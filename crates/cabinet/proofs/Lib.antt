pub mod TwinsLaws
