pub mod Statuses
pub mod Owed
