mod Givings
mod Walking
mod Attempting
