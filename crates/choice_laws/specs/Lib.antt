-- Laws of the choice (01, The basis and the matrix): the order, the choice among candidates, and the chosen numbers.
pub mod Order
pub mod Choice
pub mod Chosen
