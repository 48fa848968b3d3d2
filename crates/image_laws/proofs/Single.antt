-- An image has one frame, one limit at most, one numbering of its islands and one list of groups.
use Rattle.std.proofs.Common.{◌≡◌, true}
use Rattle.mill_plan.proofs.OneFrame.{one_frame}
use Rattle.mill_plan.proofs.LimitLaws.{one_limit}
use Rattle.one_programs.proofs.Numbering.{one_numbering}
use Rattle.one_programs.proofs.Grouping.{one_grouping}
use Rattle.image_laws.specs.One.{OneImage}

pub one_image : OneImage
one_image = record {
  frame = one_frame;
  limit = one_limit;
  numbers = λ kept cells p q n m listed a b. one_numbering kept cells listed p q n m a b;
  groups = λ free. one_grouping (λ c. free c ≡ true);
}
