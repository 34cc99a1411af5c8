mod Turns
mod Stretches
mod Numbers
mod OneRecord
mod Asks
mod Memories
mod Deeper
pub mod Clearing
