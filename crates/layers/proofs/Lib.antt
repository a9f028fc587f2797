pub mod AdmittedVoices
pub mod BarrenLaws
pub mod ExtentLaws
pub mod LayerSearchLaws
pub mod SpanKeysLaws
pub mod SpansLaws
pub mod StruckLaws
pub mod VoicingLaws
