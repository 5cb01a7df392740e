pub mod Clear
pub mod Order
