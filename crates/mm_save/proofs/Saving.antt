-- Files in which proofs are written anew, as the code makes them: statement by statement. Begin
-- with `FilesUnderWay`, on which the proofs of `saved_all` and of shortened files stand.
-- `FileSpans`: the spans of a file's theorems rise; `ReplacedSpans`: bytes in which several of them
-- are replaced. What holds of the new files as databases is in `SavingLaws` of `mm_laws`.
pub mod FileSpans
pub mod ReplacedSpans
pub mod FilesUnderWay
pub mod WrittenFiles
