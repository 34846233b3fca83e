pub mod SpoolLists
pub mod Listing
pub mod Spoolers
pub mod Printed
