-- Steps of a proof and what trees derive, by names, as the definitions have them; no number of the
-- code stands here. Begin with `OneStep`: a step as a relation on stacks, which makes one thing
-- only. `Derivations`: what trees derive their spelling does, and moves make one row of trees.
-- `Replacements`: what the entries of hypotheses replace. `PassedStep`: a step by a label that
-- breaks no rule carries passed moves on. `FirstAtStep`: the first rule that a step breaks.
pub mod OneStep
pub mod Derivations
pub mod Replacements
pub mod PassedStep
pub mod FirstAtStep
