-- What the code does by numbers is what the definitions say by names. Begin with `NumberedSymbols`:
-- entries, replacement, type codes, patterns. `SharedVariables`: the distinct pairs of `pairs`;
-- `EntryVariables`: the different variables of each entry, which stand for the entries there.
-- `StepByAssertion`: which rule `apply` finds broken, and what it makes. `CalledAssertions`: the
-- numbers that `used` picks. Clauses of `Store::conclude`, and in the crates above those of
-- `verify`, `Prover::prove`, `asked_by`, `shared_variables` and `missing_pairs`, rest on it.
pub mod NumberedEntries
pub mod NumberedSymbols
pub mod SharedVariables
pub mod VariablesOfLists
pub mod RisingVariables
pub mod EntryVariables
pub mod StepByAssertion
pub mod OneIndex
pub mod CalledAssertions
pub mod NamedEntries
