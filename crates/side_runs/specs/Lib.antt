pub mod OwnSide
pub mod Sides
pub mod SideStrokes
pub mod Alone
pub mod TileStretches
pub mod TiledSide
