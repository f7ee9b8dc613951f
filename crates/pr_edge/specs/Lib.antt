pub mod Count
pub mod Files
pub mod Named
pub mod Tape
pub mod MemShelf
pub mod SureShelf
pub mod MemSink
pub mod SureSink
