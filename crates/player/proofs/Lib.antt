pub mod CuesLaws
pub mod PlayingLaws
