mod Bytes
mod Examples
