-- From items to statements: the plain reader, and that what it computes is the one reading.
-- Begin with `OneToken` for a step of the reader, with `OneReading` for how reader and grammar are
-- joined, with `WholeReadings` for what holds of whole readings. On this room rest the contracts of
-- `parts` and `statements`, and the laws `one_reading`, `beginnings_begin_statements` and
-- `faults_end_longest_prefixes`.
pub mod OneToken
pub mod Unfinished
pub mod SpelledStatements
pub mod OpenBlocks
pub mod OneReading
pub mod WholeReadings
