-- Words, and a line.
use Rattle.std.proofs.Common.{◌≡◌, refl, [], ◌∷◌, Ok, Err}
use Rattle.std.specs.Prelude.{codes}
use Rattle.sampling.specs.Words.{words_of}
use Rattle.sampling.specs.Sampled.{summary_line}

two_hundred : words_of (codes "sample" ∷ codes "200" ∷ []) ≡ Ok 200
unfolding words_of Rattle.sampling.specs.Words.pads_of Rattle.std.specs.Fmt.digits
two_hundred = refl

-- a leading zero, and more than the most
led_by_zero : words_of (codes "sample" ∷ codes "01" ∷ []) ≡ Err 2
unfolding words_of Rattle.sampling.specs.Words.pads_of Rattle.std.specs.Fmt.digits
led_by_zero = refl

too_many : words_of (codes "sample" ∷ codes "401" ∷ []) ≡ Err 2
unfolding words_of Rattle.sampling.specs.Words.pads_of Rattle.std.specs.Fmt.digits
too_many = refl

a_third_word : words_of (codes "sample" ∷ codes "1" ∷ codes "2" ∷ []) ≡ Err 3
unfolding words_of Rattle.sampling.specs.Words.pads_of Rattle.std.specs.Fmt.digits
a_third_word = refl

a_line : summary_line (record { pads = 200; islands = 120; listed = 0; holes = 200; chains = 1 }) ≡ codes "sample 200 islands 120 listed 0 holes 200 chains 1\n"
unfolding Rattle.std.specs.Fmt.digits
a_line = refl
