pub mod Shapes
pub mod Variants
pub mod TypeTables
pub mod Queries
pub mod Assertions
pub mod AssertionLines
pub mod Listings
pub mod Replies
