pub mod Notes
pub mod Printed
pub mod Signs
pub mod Ports
pub mod Limits
pub mod Modules
pub mod Uncommented
