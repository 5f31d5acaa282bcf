mod Starting
mod Records
mod Counting
