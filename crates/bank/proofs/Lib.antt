pub mod AdmissionLaws
pub mod AdmittedLaws
pub mod IndexesLaws
pub mod OnePassLaws
pub mod PastLaws
pub mod RulesLaws
