pub mod Notes
pub mod Noted
pub mod Requests
pub mod Words
pub mod Calls
