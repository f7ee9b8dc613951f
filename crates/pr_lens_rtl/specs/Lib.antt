pub mod Clocked
pub mod Verilog
pub mod Module
pub mod Kept
pub mod Traces
pub mod Driven
