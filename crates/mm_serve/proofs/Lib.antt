pub mod FilesRead
pub mod AnsweredWords
pub mod ComparedVersions
pub mod NotedReplies
