pub mod CommonLabels
pub mod EssentialLabels
pub mod LabelTimes
pub mod NamedLabels
pub mod RarestLabels
pub mod SharedLabels
