-- Cells that meet.
use Rattle.board_base.specs.declared.places.Cell.{Cell}
use Rattle.board_base.specs.Lattice.{IsBeside}
pub use Rattle.board_base.proofs.LatticeLaws.{cell, same_cell}

pub beside_sym : (a b : Cell) → IsBeside a b → IsBeside b a
beside_sym a b s = record { west = s.east; east = s.west; south = s.north; north = s.south }
