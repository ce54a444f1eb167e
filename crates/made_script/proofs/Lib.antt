mod Bytes
mod Loops
mod MadeScript
mod Sound
mod Turns
