pub mod Constants
pub mod Needs
pub mod Lines
pub mod Comparisons
pub mod Shifts
pub mod Warnings
pub mod Texts
pub mod Findings
