pub mod Characters
pub mod FeedTexts
pub mod Lines
