pub mod Chain
pub mod Counting
pub mod Finishing
pub mod Keep
pub mod Section
pub mod Words
