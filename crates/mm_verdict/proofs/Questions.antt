-- From what is kept of a database to what is asked of a theorem. Begin with `AskedTheorems`: what
-- stands under a label, and its proof. `TheoremsAgain` has the theorems in turn, `TextTokens` the
-- tokens of a text, `TestedTokens` a test of each of them, `HandedProofs` the tokens of a proof that
-- is handed in. On this room rest the contracts of the methods of `Checked`; what single questions need stands in the crates that
-- answer them.
pub mod AskedTheorems
pub mod TestedTokens
pub mod TextTokens
pub mod HandedProofs
pub mod FewLabels
pub mod TheoremsAgain
