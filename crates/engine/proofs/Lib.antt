pub mod CutLaws
pub mod MixerLaws
pub mod RenderingLaws
pub mod SummingLaws
