pub mod StepLemmas
pub mod StartLemmas
pub mod BerthLemmas
pub mod EndLemmas
