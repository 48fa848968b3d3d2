-- Words of `check`, worked out by hand.
use Rattle.std.proofs.Common.{◌≡◌, refl, [], ◌∷◌, Some, None, Ok, Err}
use Rattle.std.specs.Prelude.{codes}
use Rattle.board_base.specs.declared.places.Side.TheVariants.{Front, Back}
use Rattle.text_cut.specs.Split.{halves}
use Rattle.checking.specs.Words.{words_of}

-- no file for the job, no answers, and a line of the job
plain : words_of (codes "check" ∷ codes "-" ∷ codes "front" ∷ codes "p" ∷ codes "--front=a" ∷ []) ≡ Ok (record { job = None; side = Front; files = record { program = codes "p"; probes = None } })
unfolding words_of halves
plain = refl

-- a job's file and answers
probed : words_of (codes "check" ∷ codes "j" ∷ codes "back" ∷ codes "p" ∷ codes "x" ∷ []) ≡ Ok (record { job = Some (codes "j"); side = Back; files = record { program = codes "p"; probes = Some (codes "x") } })
unfolding words_of halves
probed = refl

-- one name too many
one_more : words_of (codes "check" ∷ codes "j" ∷ codes "front" ∷ codes "p" ∷ codes "x" ∷ codes "y" ∷ []) ≡ Err 6
unfolding words_of halves
one_more = refl

-- no program
none_named : words_of (codes "check" ∷ codes "j" ∷ codes "front" ∷ []) ≡ Err 4
unfolding words_of halves
none_named = refl

-- a line of the job in the place of the program
line_for_program : words_of (codes "check" ∷ codes "j" ∷ codes "front" ∷ codes "--front=a" ∷ []) ≡ Err 4
unfolding words_of halves
line_for_program = refl

-- dashes without a value
no_value : words_of (codes "check" ∷ codes "j" ∷ codes "front" ∷ codes "p" ∷ codes "--x" ∷ []) ≡ Err 5
unfolding words_of halves
no_value = refl

-- a side that there isn't
no_side : words_of (codes "check" ∷ codes "j" ∷ codes "top" ∷ codes "p" ∷ []) ≡ Err 3
unfolding words_of halves
no_side = refl

-- no job
no_job : words_of (codes "check" ∷ []) ≡ Err 2
unfolding words_of halves
no_job = refl
