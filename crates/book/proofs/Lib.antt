pub mod Conditions
pub mod Heading
pub mod Locals
pub mod Naming
pub mod RuleParts
pub mod Whole
