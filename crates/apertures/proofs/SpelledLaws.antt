-- How texts are cut into a name and values.
use Rattle.std.proofs.Common.{◌≡◌, refl, ℕ, suc, ◌+◌, ◌<◌, List, [], ◌∷◌, ◌++◌, Err, length, take, drop, arith, ap, ◌∙◌}
use Rattle.std.specs.List.{All, position_or_len, before_first, after_first, slice_split, join_with_byte}
use Rattle.std.proofs.lemmas.Grind.{common_steps}
use Rattle.std.proofs.lemmas.List.Splits.{slice_split_at, slice_split_none}
use Rattle.std.proofs.Math.Seq.{take-append_seam}
use Rattle.fixed_num.specs.Values.{cut_at, short_of}
use Rattle.fixed_num.specs.Spelled.{parts_of}
use Rattle.apertures.specs.declared.aperture.ApertureError.TheVariants.{Syntax}
use Rattle.apertures.specs.Texts.{is_comma, is_times, named, template_of, value_of, values_of, values_in, values_behind}
use Rattle.apertures.specs.Spelled.{IsValueText, IsName, spelled, TextLaw}

name_tail : (b : ℕ) (name : List ℕ) → IsName (b ∷ name) → IsName name
name_tail b name all = λ k d h. all (suc k) d (omega (arith, h))

texts_tail : (text : List ℕ) (texts : List (List ℕ)) → All IsValueText (text ∷ texts) → All IsValueText texts
texts_tail text texts all = λ k d h. all (suc k) d (omega (arith, h))

texts_head : (text : List ℕ) (texts : List (List ℕ)) → All IsValueText (text ∷ texts) → IsValueText text
texts_head text texts all = all 0 [] (omega arith)

-- the comma stands behind the name
comma_behind : (name rest : List ℕ) → IsName name → position_or_len is_comma (name ++ 44 ∷ rest) ≡ length name
comma_behind [] rest all = refl
comma_behind (b ∷ name) rest all = let behind = comma_behind name rest (name_tail b name all) in rw (all 0 0 (omega arith)) (omega (arith, behind))

-- and nowhere without one
no_comma : (name : List ℕ) → IsName name → position_or_len is_comma name ≡ length name
no_comma [] all = refl
no_comma (b ∷ name) all = let behind = no_comma name (name_tail b name all) in rw (all 0 0 (omega arith)) (omega (arith, behind))

drop_name : (name rest : List ℕ) (c : ℕ) → drop (suc (length name)) (name ++ c ∷ rest) ≡ rest
drop_name [] rest c = refl
drop_name (b ∷ name) rest c = drop_name name rest c

take_whole : (name : List ℕ) → take (length name) name ≡ name
take_whole name = grind (arith, common_steps)

drop_whole : (name : List ℕ) → drop (length name + 1) name ≡ []
drop_whole name = grind (arith, common_steps)

name_found : (name rest : List ℕ) → IsName name → before_first is_comma (name ++ 44 ∷ rest) ≡ name
name_found name rest all = ap (λ k. take k (name ++ 44 ∷ rest)) (comma_behind name rest all) ∙ take-append_seam name (44 ∷ rest)

rest_found : (name rest : List ℕ) → IsName name → after_first is_comma (name ++ 44 ∷ rest) ≡ rest
rest_found name rest all =
    let next : length name + 1 ≡ suc (length name) = omega arith in
    ap (λ k. drop (k + 1) (name ++ 44 ∷ rest)) (comma_behind name rest all) ∙ ap (λ k. drop k (name ++ 44 ∷ rest)) next ∙ drop_name name rest 44

-- texts that are joined are cut where they were joined
split_joined : (texts : List (List ℕ)) → All IsValueText texts → 0 < length texts → slice_split is_times (join_with_byte 88 texts) ≡ texts
split_joined [] all some = absurd (omega (arith, some))
split_joined (text ∷ []) all some = slice_split_none is_times text (texts_head text [] all)
split_joined (text ∷ other ∷ texts) all some =
    slice_split_at is_times text 88 (join_with_byte 88 (other ∷ texts)) (texts_head text (other ∷ texts) all) refl
    ∙ ap (λ l. text ∷ l) (split_joined (other ∷ texts) (texts_tail text (other ∷ texts) all) (omega arith))

template_found : (name : List ℕ) (texts : List (List ℕ)) → IsName name → template_of (spelled name texts) ≡ named name
unfolding template_of
template_found name texts all = ap named (name_found name (join_with_byte 88 texts) all)

values_found : (name : List ℕ) (texts : List (List ℕ)) → IsName name → All IsValueText texts → 0 < length texts → values_behind (spelled name texts) ≡ values_of texts
unfolding values_behind values_in
values_found name texts all sizes some =
    ap (λ bytes. values_of (slice_split is_times bytes)) (rest_found name (join_with_byte 88 texts) all) ∙ ap values_of (split_joined texts sizes some)

bare_template_found : (name : List ℕ) → IsName name → template_of name ≡ named name
unfolding template_of
bare_template_found name all = ap (λ k. named (take k name)) (no_comma name all) ∙ ap named (take_whole name)

-- nothing is no value
no_value : values_of (slice_split is_times []) ≡ Err Syntax
unfolding value_of cut_at short_of parts_of
no_value = refl

no_values_found : (name : List ℕ) → IsName name → values_behind name ≡ Err Syntax
unfolding values_behind values_in
no_values_found name all =
    ap (λ k. values_of (slice_split is_times (drop (k + 1) name))) (no_comma name all) ∙ ap (λ bytes. values_of (slice_split is_times bytes)) (drop_whole name) ∙ no_value

pub text_law : TextLaw
text_law = record { template = template_found; values = values_found; bare_template = bare_template_found; bare_values = no_values_found }
