pub mod Answers
pub mod HouseRead
pub mod QueryParts
