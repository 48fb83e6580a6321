-- Files that show the same tokens, but for positions, are read alike; so what comments say may be
-- left out. Begin with `AlikeItems`, whose last lemma is the law `alike_files_are_read_alike`. On
-- `StrippedFiles` rest the contracts of `stripped`, and with them `read_stripped`.
pub mod StrippedFiles
pub mod AlikeReadings
pub mod AlikeItems
