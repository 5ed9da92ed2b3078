mod MovedParts
pub mod PageCalls
pub mod AnswerLists
pub mod DeskAnswers
pub mod DeskFound
mod JoinedLists
pub mod StoppedDesks
