pub mod Literal
pub mod Rectangles
pub mod Painting
pub mod Tracing
pub mod One
