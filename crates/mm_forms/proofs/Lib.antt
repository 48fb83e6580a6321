pub mod PackedProofs
pub mod TreeBuilding
pub mod FullSharing
pub mod SmallProofs
