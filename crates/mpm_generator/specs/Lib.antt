pub mod Draws
pub mod Sizes
pub mod Programs
pub mod Images
pub mod Machines
pub mod Putting
pub mod Generating
