pub mod Alike
pub mod Feeds
