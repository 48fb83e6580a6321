-- From what a file shows to its items: what stands outside and inside of `$[ .. $]`, and the files
-- that are put in. Begin with `FilePieces` for one file, with `OpenFiles` for files in files.
-- On this room rest the contracts of `nest`, `names` and `included`, and the laws `inclusions_end`
-- and `alike_files_leave_out_the_same`.
pub mod FilePieces
pub mod OpenFiles
pub mod EachOnce
pub mod ItemTokens
pub mod FilesLeftOut
pub mod ItemOrder
