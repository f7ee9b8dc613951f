pub mod Lines
pub mod Fed
pub mod Scan
pub mod Items
pub mod Got
pub mod Feed
pub mod Stall
pub mod Results
