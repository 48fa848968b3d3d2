pub mod Laws
pub mod Ring
pub mod Order
pub mod Tests
pub mod Quotients
pub mod Squares
