-- What the program prints, by the work of its text.
pub mod Printed
