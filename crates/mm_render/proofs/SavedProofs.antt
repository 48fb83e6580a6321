-- A file with one proof replaced.
pub mod FileTotals
