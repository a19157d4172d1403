pub mod Judged
pub use Rattle.stab_report.specs.Reports
pub use Rattle.stab_report.specs.EndedNodes
pub mod Obeys
pub mod NodeBounds
pub mod JudgeInside
