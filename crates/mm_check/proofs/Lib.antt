pub mod AlikeReplies
pub mod KnownSteps
pub mod AnswersTold
pub mod OwnProofs
pub mod ToldComments
pub mod ToldTheorems
