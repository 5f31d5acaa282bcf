mod Copies
mod Repeating
