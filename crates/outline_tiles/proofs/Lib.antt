pub mod OutlineLaws
