pub mod Outputs
pub mod Results
