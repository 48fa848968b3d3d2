-- The values that are read of decimals that are short enough.
use Rattle.std.proofs.Common.{◌≡◌, ℕ, ◌≤◌, List, Some, false, cond, Ok, Err, length, arith, ap, ◌∙◌}
use Rattle.std.specs.Prelude.{nat_lt}
use Rattle.std.proofs.lemmas.Grind.{common_steps}
use Rattle.fixed_num.specs.Decimal.{Decimal, value_at}
use Rattle.fixed_num.specs.Spelled.{decimal_of}
use Rattle.fixed_num.specs.declared.number.NumError.TheVariants.{TooLong}
use Rattle.board_base.specs.Binds.{◌>>=◌}
use Rattle.fixed_num.specs.Values.{a_number, not_long, short_of, cut_at}

in_length : (n : ℕ) → n ≤ 18 → nat_lt 18 n ≡ false
in_length n h = grind (arith, common_steps)

-- a decimal of at most 18 digits before the point is cut at any scale
pub cut_value : (scale : ℕ) (bytes : List ℕ) (d : Decimal) → decimal_of bytes ≡ Some d → length d.whole ≤ 18 → cut_at scale bytes ≡ Ok (value_at scale d)
unfolding cut_at short_of
cut_value scale bytes d e short =
    ap (λ o. (a_number o >>= not_long) >>= (λ s. Ok (value_at scale s))) e
    ∙ ap (λ b. cond b (Err TooLong) (Ok d) >>= (λ s. Ok (value_at scale s))) (in_length (length d.whole) short)
