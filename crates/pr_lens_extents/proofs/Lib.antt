mod Joins
mod Layers
mod Loops
