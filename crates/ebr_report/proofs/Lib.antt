mod Additions
mod Summaries
