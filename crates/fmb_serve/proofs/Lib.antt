mod Counting
mod Doors
mod Loops
mod Ran
