-- What the machine does at a line (NISTIR 6556, section 3): positions in 10^-12 mm, speeds in turns a minute, feeds in 10^-3 mm a minute.
use Rattle.std.specs.Prelude.{ℕ, ◌+◌, ◌*◌, ◌/◌, ℤ, pos, neg_ℤ, ◌*ℤ◌, unsigned_abs, length, slice_get, Bool, true, false, ◌&&◌, ◌||◌, not, List, [], ◌∷◌, Option, Some, None, unwrap_or, is_some, is_none, Result, Ok, Err, ◌==◌, nat_lt, if◌then◌else◌, int_le, int_lt}
use Rattle.std.specs.List.{list_all, list_any, find, count_by}
use Rattle.std.specs.Option.{option_map}
use Rattle.std.specs.Int.{int_div_euclid}
use Rattle.std.specs.Ordering.{int_eq}
use Rattle.board_base.specs.declared.places.Pos.{Pos}
use Rattle.board_base.specs.declared.places.Move.{Move}
use Rattle.board_base.specs.declared.places.MoveKind.{MoveKind}
use Rattle.board_base.specs.declared.places.MoveKind.TheVariants.{Rapid, Feed, Probe}
use Rattle.board_base.specs.Binds.{◌>>=◌}
use Rattle.rs274_sim.specs.declared.fault.SimFault.{SimFault}
use Rattle.rs274_sim.specs.declared.fault.SimFault.TheVariants.{UnknownWord, TwoWords, MissingWord, NoMotion, NoFeed, SpindleRange, FinePosition, OutOfRange, ProbeMissed, NoProbeAnswer, NoEnd}
use Rattle.rs274_sim.specs.declared.said.Said.{Said}
use Rattle.rs274_sim.specs.declared.line.Word.{Word}
use Rattle.rs274_sim.specs.declared.line.Line.{Line}
use Rattle.rs274_sim.specs.declared.line.Value.{Value, Num, Param, Expr'}
pub use Rattle.rs274_sim.specs.Evaluation.{one, is_whole}
use Rattle.rs274_sim.specs.Evaluation.{Parameters, valued, set_values}

-- the machine between two lines; `used` counts the answers of the probe that were used
pub record Machine : Type 0 where
  pub at : Pos
  pub turning : Bool
  pub speed : ℕ
  pub feed_rate : ℤ
  pub tool : ℕ
  pub pending : Option ℕ
  pub motion : Option MoveKind
  pub params : Parameters
  pub used : ℕ

-- the machine before the first line
abbrev pub start : Machine
start = record {
  at = record { x = pos 0; y = pos 0; z = pos 0 };
  turning = false;
  speed = 0;
  feed_rate = pos 0;
  tool = 0;
  pending = None;
  motion = None;
  params = λ n. pos 0;
  used = 0;
}

-- ---- letters, by their codes

-- feed
abbrev pub F : ℕ
F = 70

-- motion, dwell and modes
abbrev pub G : ℕ
G = 71

-- spindle, tool change and end
abbrev pub M : ℕ
M = 77

-- the time of a dwell
abbrev pub P : ℕ
P = 80

-- speed
abbrev pub S : ℕ
S = 83

-- tool
abbrev pub T : ℕ
T = 84

-- the axis X
abbrev pub X : ℕ
X = 88

-- the axis Y
abbrev pub Y : ℕ
Y = 89

-- the axis Z
abbrev pub Z : ℕ
Z = 90

-- ---- the words of a line

-- the number behind a letter, where it stands as a plain decimal, in 10^-12
abbrev pub number : Value → ℤ
number (Num n) = n
number (Param n) = pos 0
number (Expr' shape inner) = pos 0

-- the value is this number, as a plain decimal
abbrev pub is_number : ℤ → Value → Bool
is_number z (Num n) = int_eq n z
is_number z (Param n) = false
is_number z (Expr' shape inner) = false

-- the whole part of a number's size
abbrev pub whole_part : ℤ → ℕ
whole_part z = unsigned_abs z / one

-- the word has this letter
abbrev pub is_letter : ℕ → Word → Bool
is_letter letter word = word.letter == letter

-- the word has this letter and this whole number, as G1
abbrev pub is_code : ℕ → ℕ → Word → Bool
is_code letter code word = is_letter letter word && is_number (pos (code * one)) word.value

-- the word is G38.2, a probe
abbrev pub is_probe : Word → Bool
is_probe word = is_letter G word && is_number (pos 38200000000000) word.value

-- the line has that word
abbrev pub has : ℕ → ℕ → List Word → Bool
has letter code words = list_any (is_code letter code) words

-- the line has a probe
abbrev pub has_probe : List Word → Bool
has_probe words = list_any is_probe words

-- the number behind a letter, where it stands on the line
abbrev pub given : ℕ → List Word → Option ℤ
given letter words = option_map (λ w. number w.value) (find (is_letter letter) words)

-- the line has an axis word
abbrev pub has_axis : List Word → Bool
has_axis words = is_some (given X words) || is_some (given Y words) || is_some (given Z words)

-- what the words of a line say: their codes as the words stand, and the numbers of their values
abbrev pub said_of : List Word → List Word → Said
said_of words numbers = record {
  goes_rapid = has G 0 words;
  goes_feed = has G 1 words;
  cancels = has G 80 words;
  probes = has_probe words;
  turns = has M 3 words;
  stands = has M 5 words;
  changes = has M 6 words;
  x = given X numbers;
  y = given Y numbers;
  z = given Z numbers;
  feed = given F numbers;
  speed = given S numbers;
  tool = given T numbers;
  time = given P numbers;
}

-- ---- what a line leads to

-- the line has an axis word
abbrev pub names_axis : Said → Bool
names_axis s = is_some s.x || is_some s.y || is_some s.z

-- the quotient of a number that is not below 0, rounded up
abbrev pub rounded_up : ℤ → ℕ → ℤ
rounded_up z n = neg_ℤ (int_div_euclid (neg_ℤ z) (pos n))

-- the motion in force; none is behind a probe
abbrev pub motion_after : Said → Machine → Option MoveKind
motion_after s m =
    if s.goes_rapid then Some Rapid
    else if s.goes_feed then Some Feed
    else if s.cancels || s.probes then None
    else m.motion

-- how the machine moves to the axis words of the line
abbrev pub kind_of : Said → Machine → Option MoveKind
kind_of s m = if s.probes then Some Probe else motion_after s m

-- the feed, the next higher whole thousandth of what is given
abbrev pub feed_after : Said → Machine → ℤ
feed_after s m = unwrap_or (option_map (λ f. rounded_up f 1000000000) s.feed) m.feed_rate

-- the speed
abbrev pub speed_after : Said → Machine → ℕ
speed_after s m = unwrap_or (option_map whole_part s.speed) m.speed

-- the tool that the next M6 takes
abbrev pub pending_after : Said → Machine → Option ℕ
pending_after s m = if is_some s.tool then option_map whole_part s.tool else m.pending

-- the tool; where none is pending it stays
abbrev pub tool_after : Said → Machine → ℕ
tool_after s m = if s.changes then unwrap_or (pending_after s m) m.tool else m.tool

-- whether the spindle turns
abbrev pub turning_after : Said → Machine → Bool
turning_after s m = if s.turns then true else if s.stands then false else m.turning

-- the next answer of the probe, in nanometres
abbrev pub next_answer : List ℤ → Machine → Option ℤ
next_answer answers m = slice_get answers m.used

-- the height of the next contact
abbrev pub contact : List ℤ → Machine → ℤ
contact answers m = unwrap_or (next_answer answers m) (pos 0) *ℤ pos 1000000

-- the position that the line asks for; an axis that isn't given stays
abbrev pub target : Said → Machine → Pos
target s m = record { x = unwrap_or s.x m.at.x; y = unwrap_or s.y m.at.y; z = unwrap_or s.z m.at.z }

-- the position; a probe stops where it meets something
abbrev pub place_after : List ℤ → Said → Machine → Pos
place_after answers s m = if s.probes then record { x = m.at.x; y = m.at.y; z = contact answers m } else target s m

-- a parameter is set
abbrev pub set_parameter : Parameters → ℕ → ℤ → Parameters
set_parameter ps n v = λ k. if k == n then v else ps k

-- parameters are set in this order, so that the last setting of a number counts
abbrev pub all_set : List (ℕ × ℤ) → Parameters → Parameters
all_set [] ps = ps
all_set (s ∷ settings) ps = all_set settings (set_parameter ps s.0 s.1)

-- where a probe stopped
abbrev pub contact_settings : Pos → List (ℕ × ℤ)
contact_settings at = (5061, at.x) ∷ (5062, at.y) ∷ (5063, at.z) ∷ []

-- the parameters: a probe's come before the settings of its line
abbrev pub params_after : List ℤ → Said → List (ℕ × ℤ) → Machine → Parameters
params_after answers s settings m =
    all_set settings (if s.probes then all_set (contact_settings (place_after answers s m)) m.params else m.params)

-- the machine after a line
abbrev pub after : List ℤ → Said → List (ℕ × ℤ) → Machine → Machine
after answers s settings m = record {
  at = place_after answers s m;
  turning = turning_after s m;
  speed = speed_after s m;
  feed_rate = feed_after s m;
  tool = tool_after s m;
  pending = pending_after s m;
  motion = motion_after s m;
  params = params_after answers s settings m;
  used = if s.probes then m.used + 1 else m.used;
}

-- the move that the line of this number makes, with what is then in force
abbrev pub move_of : List ℤ → ℕ → Said → Machine → Option Move
move_of answers line s m =
    if names_axis s
    then option_map (λ kind. record {
      from = m.at;
      to = place_after answers s m;
      kind = kind;
      turning = turning_after s m;
      speed = speed_after s m;
      feed = feed_after s m;
      tool = tool_after s m;
      line = line;
    }) (kind_of s m)
    else None

-- ---- the faults of words, before the numbers of their values are found

-- the codes of G and of M that the machine knows
abbrev pub known_codes : ℕ → List ℕ
known_codes letter =
    if letter == G then 0 ∷ 1 ∷ 4 ∷ 17 ∷ 21 ∷ 40 ∷ 49 ∷ 54 ∷ 61 ∷ 80 ∷ 90 ∷ 94 ∷ []
    else if letter == M then 0 ∷ 2 ∷ 3 ∷ 5 ∷ 6 ∷ 7 ∷ 8 ∷ 9 ∷ 30 ∷ []
    else []

-- the letters that may stand once on a line, before any number
abbrev pub plain_letters : List ℕ
plain_letters = F ∷ P ∷ S ∷ T ∷ X ∷ Y ∷ Z ∷ []

-- the machine knows the word
abbrev pub is_known : Word → Bool
is_known word = list_any (λ l. is_letter l word) plain_letters || list_any (λ c. is_code word.letter c word) (known_codes word.letter) || is_probe word

-- a word that the machine doesn't know, or X or Y at a probe
abbrev pub has_unknown : List Word → Bool
has_unknown words = not (list_all is_known words) || (has_probe words && (is_some (given X words) || is_some (given Y words)))

-- two words or more pass the test
abbrev pub many : (Word → Bool) → List Word → Bool
many test words = nat_lt 1 (count_by test words)

-- two words or more have this letter and one of these codes
abbrev pub clash : ℕ → List ℕ → List Word → Bool
clash letter codes words = many (λ w. list_any (λ c. is_code letter c w) codes) words

-- the word sets how the machine moves
abbrev pub is_motion : Word → Bool
is_motion word = list_any (λ c. is_code G c word) (0 ∷ 1 ∷ 80 ∷ []) || is_probe word

-- words that bar one another
abbrev pub has_two : List Word → Bool
has_two words =
    list_any (λ l. many (is_letter l) words) plain_letters
    || many is_motion words || clash M (3 ∷ 5 ∷ []) words || clash M (0 ∷ 2 ∷ 30 ∷ []) words
    || (has G 4 words && has_axis words)

-- a probe without its depth, a dwell without its time, or a time without its dwell
abbrev pub lacks_word : List Word → Bool
lacks_word words = (has_probe words && is_none (given Z words)) || (has G 4 words && is_none (given P words)) || (is_some (given P words) && not (has G 4 words))

-- the first of these that holds
abbrev pub first_fault : List (Bool × SimFault) → Option SimFault
first_fault [] = None
first_fault (f ∷ fs) = if f.0 then Some f.1 else first_fault fs

-- the first fault of words, before the numbers of their values are found
abbrev pub form_fault : List Word → Option SimFault
form_fault words = first_fault ((has_unknown words, UnknownWord) ∷ (has_two words, TwoWords) ∷ (lacks_word words, MissingWord) ∷ [])

-- ---- the faults of numbers

-- from low to high
abbrev pub within : ℤ → ℤ → ℤ → Bool
within low high z = int_le low z && int_le z high

-- the number passes, where there is one
abbrev pub passes : (ℤ → Bool) → Option ℤ → Bool
passes test number = unwrap_or (option_map test number) true

-- the range of an axis: 500 mm
abbrev pub in_reach : ℤ → Bool
in_reach z = within (neg_ℤ (pos 500000000000000)) (pos 500000000000000) z

-- a whole number from 0 to the limit
abbrev pub is_count : ℕ → ℤ → Bool
is_count limit z = is_whole one z && within (pos 0) (pos (limit * one)) z

-- X and Y are whole nanometres
abbrev pub is_coarse : Said → Bool
is_coarse s = passes (is_whole 1000000) s.x && passes (is_whole 1000000) s.y

-- the axes, F, P and T are in their ranges
abbrev pub in_range : Said → Bool
in_range s =
    passes in_reach s.x && passes in_reach s.y && passes in_reach s.z
    && passes (within (pos 0) (pos (100000 * one))) s.feed && passes (int_le (pos 0)) s.time && passes (is_count 9999) s.tool

-- a motion at the feed
abbrev pub is_feed : Option MoveKind → Bool
is_feed (Some Feed) = true
is_feed (Some Probe) = true
is_feed kind = false

-- the next answer lies below the depth that the probe goes to, or above where it begins
abbrev pub is_missed : List ℤ → Said → Machine → Bool
is_missed answers s m = int_lt (contact answers m) (target s m).z || int_lt m.at.z (contact answers m)

-- the first fault of what a line says, in the order in which faults are looked for
abbrev pub fault_of : List ℤ → Said → Machine → Option SimFault
fault_of answers s m = first_fault (
    (not (is_coarse s), FinePosition)
    ∷ (not (in_range s), OutOfRange)
    ∷ (not (passes (is_count 100000) s.speed), SpindleRange)
    ∷ (names_axis s && is_none (kind_of s m), NoMotion)
    ∷ (names_axis s && is_feed (kind_of s m) && int_le (feed_after s m) (pos 0), NoFeed)
    ∷ (s.probes && is_none (next_answer answers m), NoProbeAnswer (length answers))
    ∷ (s.probes && is_missed answers s m, ProbeMissed (target s m).z (unwrap_or (next_answer answers m) (pos 0)))
    ∷ [])

-- ---- runs

-- the fault, or what follows where there is none
abbrev pub unless : {A : Type 0} → Option SimFault → Result A SimFault → Result A SimFault
unless (Some fault) next = Err fault
unless None next = next

-- what a line does by what it says, with the settings that it makes at its end
abbrev pub carried_out : List ℤ → ℕ → Machine → Said → List (ℕ × ℤ) → Result (Machine × Option Move) SimFault
carried_out answers line m s settings = unless (fault_of answers s m) (Ok (after answers s settings m, move_of answers line s m))

-- The machine after the line of this number and its move, or its fault. The faults are looked for in this order: those
-- of the words, those of the values, and those of the numbers.
abbrev pub step : List ℤ → ℕ → Line → Machine → Result (Machine × Option Move) SimFault
step answers number line m =
    unless (form_fault line.words)
    (valued m.params line.words >>= (λ numbers. set_values m.params line.settings >>= (λ settings. carried_out answers number m (said_of line.words numbers) settings)))

-- M2 or M30 stands on the line
abbrev pub is_end : List Word → Bool
is_end words = has M 2 words || has M 30 words

-- a move, if any, and those after it
abbrev pub with_move : Option Move → Result (List Move) (SimFault × ℕ) → Result (List Move) (SimFault × ℕ)
with_move None rest = rest
with_move (Some move) (Ok moves) = Ok (move ∷ moves)
with_move (Some move) (Err e) = Err e

-- what the step of the line of this number leads to: its fault, or its move and those of the rest
abbrev pub then_run : ℕ → Bool → (Machine → Result (List Move) (SimFault × ℕ)) → Result (Machine × Option Move) SimFault → Result (List Move) (SimFault × ℕ)
then_run line ends rest (Err fault) = Err (fault, line)
then_run line ends rest (Ok done) = with_move done.1 (if ends then Ok [] else rest done.0)

-- The moves of some lines up to their first M2 or M30, or the first fault and its line. So many lines stand before them.
abbrev pub run_from : List ℤ → ℕ → Machine → List Line → Result (List Move) (SimFault × ℕ)
run_from answers before m [] = Err (NoEnd, before)
run_from answers before m (line ∷ lines) =
    then_run (before + 1) (is_end line.words) (λ next. run_from answers (before + 1) next lines) (step answers (before + 1) line m)

-- the moves of a program with these answers of the probe, or its first fault and the number of its line
unfoldable pub run_of : List ℤ → List Line → Result (List Move) (SimFault × ℕ)
run_of answers lines = run_from answers 0 start lines
