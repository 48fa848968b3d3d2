use Rattle.std.proofs.Common.{◌≡◌, ◌≤◌, Option, drop}
use Rattle.board_base.specs.declared.places.Role.{Role}
use Rattle.board_base.specs.Files.{Files}
use Rattle.endings.specs.Outputs.{outputs_of, all_stored, IsStopped}
use Rattle.endings.proofs.delivery.deliver.Given as goal

-- to write what is left leads where all leads, and stops where all may stop
abbrev pub invariant-loop-file : goal.invariant-loop-file
invariant-loop-file g l =
    let state = g.S.Shelf.state in
    let left = outputs_of (drop l.file-index l.files) in
    record {
      whole : all_stored left (state l.shelf).files ≡ all_stored (outputs_of l.files) (state l.fn.shelf).files;
      stops : (role : Role) (now : Option Files) → IsStopped role left (state l.shelf).files now → IsStopped role (outputs_of l.files) (state l.fn.shelf).files now;
      read_faults : (state l.shelf).read_faults ≡ (state l.fn.shelf).read_faults;
      taken : (state l.fn.shelf).taken ≤ (state l.shelf).taken;
      write_faults : (state l.fn.shelf).write_faults ≤ (state l.shelf).write_faults;
      writes : (state l.fn.shelf).writes ≤ (state l.shelf).writes;
    }
