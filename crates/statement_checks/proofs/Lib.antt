mod Counting
mod Seen
