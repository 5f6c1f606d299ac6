pub mod Initialise
