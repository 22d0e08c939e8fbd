mod Feeds
mod Names
