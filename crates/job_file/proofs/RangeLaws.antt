-- The values of a job are in their ranges.
use Rattle.std.proofs.Common.{◌≡◌, ℕ, Bool, true, false, cond, List, [], ◌∷◌, ◌++◌, Option, Some, None, Result, Ok, Err, refl, sym, subst, ◌∙◌, arith, ℤ, pos}
use Rattle.std.specs.Prelude.{◌==◌, ◌*ℤ◌, IfSome, is_some}
use Rattle.std.specs.Int.{int_div_euclid}
use Rattle.std.proofs.lemmas.Int.{ints}
use Rattle.number_laws.proofs.Quotients.{rounded_low, rounded_high}
use Rattle.board_base.specs.Lattice.{IsPitch}
use Rattle.job_file.specs.declared.job.Job.{Job}
use Rattle.std.specs.Option.{option_map, option_or}
use Rattle.std.proofs.lemmas.Grind.{common_steps}
use Rattle.job_file.specs.declared.error.JobKind.{JobKind}
use Rattle.job_file.specs.declared.error.JobError.{JobError}
use Rattle.job_file.specs.declared.keys.Kind.{Kind}
use Rattle.job_file.specs.declared.keys.Kind.TheVariants as kinds
use Rattle.job_file.specs.declared.value.Value.{Value}
use Rattle.job_file.specs.declared.value.Value.TheVariants as values
use Rattle.job_file.specs.declared.value.Given.{Given}
use Rattle.job_file.specs.declared.given.Sheets.{Sheets}
use Rattle.job_file.specs.Keys.{keys, kind_of, number_of, micrometres}
use Rattle.job_file.specs.Lines.{Line, Said, nothing, no_key, gives, said}
use Rattle.job_file.specs.Numbers.{is_between, is_counted, is_even}
use Rattle.job_file.specs.Reads.{value_read}
use Rattle.job_file.specs.Values.{given, given_by, default_of, value_of, text_in, size_in, count_in, truth_in, lengths_in}
use Rattle.job_file.specs.Reading.{lines_give}
use Rattle.job_file.specs.Behind.{valued, keyed, said_behind, behind, behind_all}
use Rattle.job_file.specs.Job.{job_of}
use Rattle.job_file.specs.Ranges.{IsLength, IsEvenLength, AreLengths, IsFeed, IsCount, IsFileName, IsBaseName, IsInRanges}
use Rattle.job_file.specs.Fits.{Fits, GivenFits, AllFit, GivesFit}
use Rattle.job_file.proofs.FitLaws.{step, is_length, is_even_length, is_feed, is_count, value_fits_key}
use Rattle.job_file.proofs.ReadingLaws.{lines_kept}

-- one more that fits
fits_more : (before : List Given) (g : Given) → AllFit before → GivenFits g → AllFit (before ++ g ∷ [])
fits_more [] g all one = (one, tt)
fits_more (h ∷ before) g all one = (all.0, fits_more before g all.1 one)

abbrev pub Kept : Result (List Given) JobError → Type 0
Kept r = (after : List Given) → r ≡ Ok after → AllFit after

abbrev done : List Given → Result (List Given) JobError
done x = Ok x

ok_is : (x y : List Given) → done x ≡ done y → x ≡ y
ok_is x y e = cc

valued_fits : (before : List Given) (key place : ℕ) (r : Result Value JobKind) → AllFit before → ((v : Value) → r ≡ Ok v → Fits (kind_of key) v) → Kept (valued before key place r)
valued_fits before key place (Ok value) all fits after e = subst AllFit (ok_is (before ++ record { key = key; value = value; place = place } ∷ []) after e) (fits_more before (record { key = key; value = value; place = place }) all (fits value refl))
valued_fits before key place (Err kind) all fits after e = absurd cc

once_fits : (b : Bool) (x : JobError) (r : Result (List Given) JobError) → Kept r → Kept (cond b (Err x) r)
once_fits true x r h after e = absurd cc
once_fits false x r h after e = h after e

keyed_fits : (before : List Given) (place : ℕ) (text : List ℕ) (key : Option ℕ) → AllFit before → Kept (keyed before place text key)
keyed_fits before place text None all after e = absurd cc
keyed_fits before place text (Some key) all after e =
    once_fits (is_some (given key before)) _ (valued before key place (value_read key text)) (valued_fits before key place (value_read key text) all (value_fits_key key text)) after e

said_fits : (before : List Given) (place : ℕ) (s : Said) → AllFit before → Kept (said_behind before place s)
said_fits before place nothing all after e = subst AllFit (ok_is before after e) all
said_fits before place no_key all after e = absurd cc
said_fits before place (gives name text) all after e = keyed_fits before place text (number_of name) all after e

behind_fits : (before : List Given) (line : Line) → AllFit before → Kept (behind before line)
unfolding behind
behind_fits before line all = said_fits before line.place (said line.text) all

-- what lines give fits
pub all_fit : (before : List Given) (lines : List Line) → AllFit before → Kept (behind_all before lines)
all_fit before [] all after e = subst AllFit (ok_is before after e) all
all_fit before (line ∷ lines) all after e =
    let s = step (behind before line) (λ more. behind_all more lines) after e in
    all_fit s.0 lines (behind_fits before line all s.0 s.1) after s.2

pub lines_fit : (lines : List Line) → Kept (lines_give lines)
lines_fit lines after e = all_fit [] lines tt after (sym (lines_kept lines) ∙ e)

-- a value fits, or there is none where none is needed
abbrev FitsOption : Kind → Option Value → Type 0
FitsOption kinds.Name None = Unit {0}
FitsOption kinds.BaseName None = Unit {0}
FitsOption kind None = ⊥
FitsOption kind (Some v) = Fits kind v

some_fits : (kind : Kind) (v : Value) → Fits kind v → FitsOption kind (Some v)
some_fits kind v h = h

abbrev FoundFits : ℕ → Option Given → Type 0
FoundFits number None = Unit {0}
FoundFits number (Some g) = Fits (kind_of number) g.value

found_if : (number : ℕ) (g : Given) (rest : Option Given) (b : Bool) → b ≡ (g.key == number) → GivenFits g → FoundFits number rest → FoundFits number (cond b (Some g) rest)
found_if number g rest true e fits h = let same : g.key ≡ number = grind (arith, common_steps, e) in subst (λ n. Fits (kind_of n) g.value) same fits
found_if number g rest false e fits h = h

found_fits : (number : ℕ) (lines : List Given) → AllFit lines → FoundFits number (given number lines)
found_fits number [] all = tt
found_fits number (g ∷ lines) all = found_if number g (given number lines) (g.key == number) refl all.0 (found_fits number lines all.1)

either_fits : (number : ℕ) (a b : Option Given) → FoundFits number a → FoundFits number b → FoundFits number (option_or a b)
either_fits number None b ha hb = hb
either_fits number (Some g) b ha hb = ha

or_default : (number : ℕ) (o : Option Given) (d : Option Value) → FoundFits number o → FitsOption (kind_of number) d → FitsOption (kind_of number) (option_or (option_map (λ g. g.value) o) d)
or_default number None d h hd = hd
or_default number (Some g) d h hd = some_fits (kind_of number) g.value h

value_fits : (sheets : Sheets) → GivesFit sheets → (number : ℕ) (kind : Kind) → kind_of number ≡ kind → FitsOption kind (default_of kind) → FitsOption kind (value_of sheets number)
unfolding value_of
value_fits sheets g number kind e default =
    subst (λ k. FitsOption k (value_of sheets number)) e
    (or_default number (given_by sheets number) (default_of (kind_of number))
    (either_fits number (given number sheets.words) (given number sheets.file) (found_fits number sheets.words g.words_fit) (found_fits number sheets.file g.file_fits))
    (subst (λ k. FitsOption k (default_of k)) (sym e) default))

-- the values of fields

length_in : (least most d : ℤ) (o : Option Value) → FitsOption (kinds.Length least most d) o → IsLength least most (size_in o)
length_in least most d (Some (values.Size v)) h = h
length_in least most d _ h = absurd h

even_in : (least most d : ℤ) (o : Option Value) → FitsOption (kinds.EvenLength least most d) o → IsEvenLength least most (size_in o)
even_in least most d (Some (values.Size v)) h = h
even_in least most d _ h = absurd h

feed_in : (d : ℤ) (o : Option Value) → FitsOption (kinds.Feed d) o → IsFeed (size_in o)
feed_in d (Some (values.Size v)) h = h
feed_in d _ h = absurd h

whole_in : (least most d : ℕ) (o : Option Value) → FitsOption (kinds.Whole least most d) o → IsCount least most (count_in o)
whole_in least most d (Some (values.Count n)) h = h
whole_in least most d _ h = absurd h

percent_in : (least most d : ℕ) (o : Option Value) → FitsOption (kinds.Percent least most d) o → IsCount least most (count_in o)
percent_in least most d (Some (values.Count n)) h = h
percent_in least most d _ h = absurd h

only_in : (only : Bool) (o : Option Value) → FitsOption (kinds.Only only) o → truth_in o ≡ only
only_in only (Some (values.Truth b)) h = h
only_in only _ h = absurd h

name_in : (o : Option Value) → FitsOption kinds.Name o → IfSome (text_in o) IsFileName
name_in None h = tt
name_in (Some (values.Text t)) h = h
name_in _ h = absurd h

base_in : (o : Option Value) → FitsOption kinds.BaseName o → IfSome (text_in o) IsBaseName
base_in None h = tt
base_in (Some (values.Text t)) h = h
base_in _ h = absurd h

some_lengths_in : (few : ℕ) (least most : ℤ) (d : Option ℤ) (o : Option Value) → FitsOption (kinds.Lengths few least most d) o → AreLengths few least most (lengths_in o)
some_lengths_in few least most d (Some (values.Lengths vs)) h = h
some_lengths_in few least most d _ h = absurd h

length_at : {sheets : Sheets} (g : GivesFit sheets) (n : ℕ) {least most d : ℤ} → kind_of n ≡ kinds.Length least most d → is_between least most d ≡ true → IsLength least most (size_in (value_of sheets n))
length_at {sheets = sheets} g n {least = least} {most = most} {d = d} e fits =
    length_in least most d (value_of sheets n) (value_fits sheets g n (kinds.Length least most d) e (is_length least most d fits))

even_at : {sheets : Sheets} (g : GivesFit sheets) (n : ℕ) {least most d : ℤ} → kind_of n ≡ kinds.EvenLength least most d → is_even d ≡ true → is_between least most d ≡ true → IsEvenLength least most (size_in (value_of sheets n))
even_at {sheets = sheets} g n {least = least} {most = most} {d = d} e even fits =
    even_in least most d (value_of sheets n) (value_fits sheets g n (kinds.EvenLength least most d) e (is_even_length least most d even fits))

feed_at : {sheets : Sheets} (g : GivesFit sheets) (n : ℕ) {d : ℤ} → kind_of n ≡ kinds.Feed d → is_between (pos 1000) (pos 6000000) (micrometres d) ≡ true → IsFeed (size_in (value_of sheets n))
feed_at {sheets = sheets} g n {d = d} e fits =
    feed_in d (value_of sheets n) (value_fits sheets g n (kinds.Feed d) e (is_feed (micrometres d) fits))

count_at : {sheets : Sheets} (g : GivesFit sheets) (n : ℕ) {least most d : ℕ} → kind_of n ≡ kinds.Whole least most d → is_counted least most d ≡ true → IsCount least most (count_in (value_of sheets n))
count_at {sheets = sheets} g n {least = least} {most = most} {d = d} e fits =
    whole_in least most d (value_of sheets n) (value_fits sheets g n (kinds.Whole least most d) e (is_count least most d fits))

percent_at : {sheets : Sheets} (g : GivesFit sheets) (n : ℕ) {least most d : ℕ} → kind_of n ≡ kinds.Percent least most d → is_counted least most d ≡ true → IsCount least most (count_in (value_of sheets n))
percent_at {sheets = sheets} g n {least = least} {most = most} {d = d} e fits =
    percent_in least most d (value_of sheets n) (value_fits sheets g n (kinds.Percent least most d) e (is_count least most d fits))

only_at : {sheets : Sheets} (g : GivesFit sheets) (n : ℕ) {only : Bool} → kind_of n ≡ kinds.Only only → truth_in (value_of sheets n) ≡ only
only_at {sheets = sheets} g n {only = only} e = only_in only (value_of sheets n) (value_fits sheets g n (kinds.Only only) e refl)

name_at : {sheets : Sheets} (g : GivesFit sheets) (n : ℕ) → kind_of n ≡ kinds.Name → IfSome (text_in (value_of sheets n)) IsFileName
name_at {sheets = sheets} g n e = name_in (value_of sheets n) (value_fits sheets g n kinds.Name e tt)

base_at : {sheets : Sheets} (g : GivesFit sheets) (n : ℕ) → kind_of n ≡ kinds.BaseName → IfSome (text_in (value_of sheets n)) IsBaseName
base_at {sheets = sheets} g n e = base_in (value_of sheets n) (value_fits sheets g n kinds.BaseName e tt)

lengths_at : {sheets : Sheets} (g : GivesFit sheets) (n : ℕ) {few : ℕ} {least most : ℤ} → kind_of n ≡ kinds.Lengths few least most None → AreLengths few least most (lengths_in (value_of sheets n))
lengths_at {sheets = sheets} g n {few = few} {least = least} {most = most} e =
    some_lengths_in few least most None (value_of sheets n) (value_fits sheets g n (kinds.Lengths few least most None) e (record { few_of = omega arith; each = tt }))

-- the job of such values is in its ranges
pub in_ranges : (sheets : Sheets) → GivesFit sheets → IsInRanges (job_of (value_of sheets))
unfolding job_of kind_of keys
in_ranges sheets g = record {
  front = name_at g 1 refl;
  back = name_at g 2 refl;
  drill = name_at g 3 refl;
  outline = name_at g 4 refl;
  basename = base_at g 5 refl;
  metric = only_at g 6 refl;
  metricoutput = only_at g 7 refl;
  zwork = length_at g 8 refl refl;
  zsafe = length_at g 9 refl refl;
  zchange = length_at g 10 refl refl;
  mill_feed = feed_at g 11 refl refl;
  mill_vertfeed = feed_at g 12 refl refl;
  mill_speed = count_at g 13 refl refl;
  mill_diameters = length_at g 14 refl refl;
  extra_passes = count_at g 15 refl refl;
  isolation_width = length_at g 16 refl refl;
  milling_overlap = percent_at g 17 refl refl;
  cutter_diameter = length_at g 18 refl refl;
  zcut = length_at g 19 refl refl;
  cut_feed = feed_at g 20 refl refl;
  cut_vertfeed = feed_at g 21 refl refl;
  cut_speed = count_at g 22 refl refl;
  cut_infeed = length_at g 23 refl refl;
  bridges = length_at g 24 refl refl;
  bridgesnum = count_at g 25 refl refl;
  zbridges = length_at g 26 refl refl;
  zdrill = length_at g 27 refl refl;
  drill_feed = feed_at g 28 refl refl;
  drill_speed = count_at g 29 refl refl;
  drills_available = lengths_at g 30 refl;
  tile_x = count_at g 31 refl refl;
  tile_y = count_at g 32 refl refl;
  al_x = length_at g 34 refl refl;
  al_y = length_at g 35 refl refl;
  al_probefeed = feed_at g 36 refl refl;
  al_range = length_at g 37 refl refl;
  voronoi = only_at g 38 refl;
  pitch = even_at g 40 refl refl refl;
  tolerance = length_at g 41 refl refl;
}

-- a pitch in its range is one of the lattice
pub is_pitch : (p : ℤ) → IsEvenLength (pos 2) (pos 200) p → IsPitch p
is_pitch p h =
    let whole = h.even in
    record {
      even = even_half p (int_div_euclid p (pos 2000)) whole;
      low = omega (arith, ints, h.low);
      high = omega (arith, ints, h.high);
    }
  where
    even_half : (p q : ℤ) → p ≡ pos 2000 *ℤ q → p ≡ pos 2 *ℤ int_div_euclid p (pos 2)
    even_half p q e =
        let low = rounded_low p (pos 2) (int_div_euclid p (pos 2)) (omega (arith, ints)) refl in
        let high = rounded_high p (pos 2) (int_div_euclid p (pos 2)) (omega (arith, ints)) refl in
        omega (arith, ints, e, low, high)

-- the job of what the lines and the words give
pub reads_in_ranges : (sheets : Sheets) (job : Job) → GivesFit sheets → job ≡ job_of (value_of sheets) → IsInRanges job
reads_in_ranges sheets job g e = subst IsInRanges (sym e) (in_ranges sheets g)
