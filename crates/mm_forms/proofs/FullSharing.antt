-- Proofs that share those subtrees that a property picks, by trees and visits, and fully shared ones
-- among them: each tree that fits has one, and no proof has fewer steps than the fully shared one.
-- Begin with `OneSharing`: steps that share those and make the same trees are the same.
-- `SomeSharing`: each tree has such steps. `FewestSteps`: no proof has fewer. `SharedMoves`: the
-- moves that do given visits. `OneSharedProof`: a tree that fits has one such proof, and is told by
-- the fully shared one. The laws `one_packed`, `some_packed`, `told_by_packed`,
-- `steps_make_children` and `fewest_steps` rest on it.
pub mod OneSharing
pub mod SomeSharing
pub mod FewestSteps
pub mod SharedMoves
pub mod OneSharedProof
