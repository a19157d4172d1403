pub mod Costs
pub mod BoundsTexts
pub mod LinkVerdicts
pub mod Verdicts
pub mod LinkTexts
