use Rattle.std.proofs.Common.{sym, ◌∙◌, subst}
use Rattle.std.specs.Char.{is_ascii_digit}
use Rattle.std.specs.Str.Parse.{AllDigits}
use Rattle.rs274_sim.specs.Reading.{front}
use Rattle.rs274_sim.proofs.FoundLaws.{front_passes, pass_digits}
use Rattle.ngc_reader.proofs.numbers.parameter_at.Goals as goal

pub small_number-requires : goal.small_number-requires
small_number-requires c =
    let bytes = c.args.bytes.now in
    subst (AllDigits 10) (sym (c.split_at.ensures.front ∙ c.front_length.ensures.front)) (pass_digits (front is_ascii_digit bytes) (front_passes is_ascii_digit bytes))
