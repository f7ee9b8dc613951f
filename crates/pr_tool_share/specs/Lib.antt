pub mod Entries
pub mod EntryLines
pub mod Lists
pub mod Ends
pub mod Items
pub mod Shares
pub mod Lines
