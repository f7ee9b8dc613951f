mod Lawful
mod Decided
mod Placed
