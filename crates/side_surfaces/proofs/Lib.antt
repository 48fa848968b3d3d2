pub mod FlatLaws
pub mod AloneTiles
pub mod GridPlaces
pub mod LevelledWords
pub mod LevelledLaws
