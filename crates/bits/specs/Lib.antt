-- Numbers as rows of bits. `Digits` has the definitions, the others laws, for any width.
pub mod Digits
pub mod Xor
pub mod Parity
pub mod Bit
pub mod Parts
pub mod Ones
