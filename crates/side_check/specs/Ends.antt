-- Where the moves of a run begin and end.
use Rattle.board_base.specs.declared.places.Move.{Move}
use Rattle.board_base.specs.Places.{IsNearPlace}
use Rattle.program_check.specs.Deep.{point_under}

-- the points under both ends of the move are near the board
pub record HasNearEnds (m : Move) : Type 0 where
  pub from : IsNearPlace (point_under m.from)
  pub to : IsNearPlace (point_under m.to)
