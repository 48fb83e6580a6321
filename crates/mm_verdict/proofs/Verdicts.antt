-- From the statements of the files to their verdict, and to the list of all faults.
-- Begin with `OneVerdict`: there is one verdict over files, and always one. `LoopOverStatements` says
-- what the loop keeps, which `check`, `faults` and saving share. On this room rest the contracts
-- of `check`, `check_with` and `all_faults`, and the laws on verdicts, profiles and faults.
pub mod StatementByStatement
pub mod RankedRules
pub mod AcceptedStatements
pub mod OneVerdict
pub mod FaultLists
pub mod LoopOverStatements
