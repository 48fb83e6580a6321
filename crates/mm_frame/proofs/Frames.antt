-- The frame of an assertion: its hypotheses, pairs and patterns.
-- `FrameLaws` first: there is one frame, and it stays what it is as statements are added. The
-- others say how it is made: its hypotheses, their typings and patterns, and its pairs;
-- `FurtherDistinct`, which `$d` say more than these; `EssentialHypotheses`, which hypotheses are
-- essential. `Frame` and `Signature` rest on them, with the law
-- `one_frame`.
pub mod FrameLaws
pub mod MandatoryHypotheses
pub mod FrameTypings
pub mod VariableIndices
pub mod FramePatterns
pub mod MandatoryPairs
pub mod FurtherDistinct
pub mod EssentialHypotheses
