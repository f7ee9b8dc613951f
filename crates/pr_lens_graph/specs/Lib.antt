pub mod Arrows
pub mod Graphs
pub mod Layouts
pub mod Names
pub mod Nodes
pub mod Reads
