pub mod Divisors
pub mod Fractions
pub mod Choice
pub mod Vectors
