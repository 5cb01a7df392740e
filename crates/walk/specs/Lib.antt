pub mod Taking
pub mod Walk
