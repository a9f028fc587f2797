pub mod AnswersLaws
pub mod SeatsLaws
pub mod SlotLoopLaws
pub mod SlotsLaws
pub mod ToldLaws
