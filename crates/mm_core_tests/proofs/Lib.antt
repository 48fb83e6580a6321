pub mod LastTaken
