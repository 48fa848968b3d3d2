pub mod ProgramLaws
pub mod HoleLaws
pub mod TiledLaws
