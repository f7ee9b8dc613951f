pub mod Puts
pub mod Lists
pub mod Lexed
pub mod Plain
pub mod Spelled
pub mod Back
