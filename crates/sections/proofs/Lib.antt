pub mod ThreeSections
