-- From the bytes of a file to its tokens, and past white space and comments.
-- Begin with `WordsAndComments`: one token, one comment at a time. `StepByStep` says once what each
-- step from bytes to items keeps of the whole. On this room rest the contracts of `scan`, `sought`
-- and `comments`.
pub mod StepByStep
pub mod ManyBytes
pub mod WordsAndComments
pub mod WordBytes
pub mod CutTokens
