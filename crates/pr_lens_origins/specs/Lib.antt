pub mod Numbers
pub mod Spots
pub mod Origins
