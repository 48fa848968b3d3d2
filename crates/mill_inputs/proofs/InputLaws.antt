-- The files that a job names, read one after another.
use Rattle.std.proofs.Common.{◌≡◌, ◌⊎◌, ℕ, List, Option, Result, Ok, Err, Bool, true, false, inl, inr, refl, sym, ◌∙◌, subst}
use Rattle.std.specs.Prelude.{IfErr}
use Rattle.board_base.specs.declared.places.Role.{Role}
use Rattle.board_base.specs.declared.places.Role.TheVariants as roles
use Rattle.board_base.specs.Shelf.{ShelfState, OnlyReads}
use Rattle.board_base.specs.Binds.{◌>>=◌}
use Rattle.job_file.specs.declared.job.Job.{Job}
use Rattle.endings.specs.declared.status.Status.{Status}
use Rattle.endings.specs.declared.status.Status.TheVariants.{ReadFault}
use Rattle.endings.specs.Reads.{Reading, MayRead, without}
use Rattle.endings.specs.Works.{Refuses}
use Rattle.endings.proofs.RunLaws.{refuses_weaker}
use Rattle.mill_inputs.specs.Accepted.{job_bytes, input_if, Inputs, inputs_of}
use Rattle.mill_inputs.proofs.StepLaws.{Apart, both, refuses_first, refuses_second, gives_both, if_err_then, err_is}
use Rattle.mill_inputs.proofs.ReadLaws.{same_input, same_job, IsReadOf, input_refused}

-- ---- two by two

-- the files of both sides
pub record Sides : Type 0 where
  pub front : Option (List ℕ)
  pub back : Option (List ℕ)

abbrev pub with_sides : Option (List ℕ) → Option (List ℕ) → Sides
with_sides front back = record { front = front; back = back }

abbrev pub sides_of : Job → Reading → Result Sides Status
sides_of job given = both (input_if roles.Front job.front) (input_if roles.Back job.back) with_sides given

-- the files of what goes through the board
pub record Through : Type 0 where
  pub drill : Option (List ℕ)
  pub outline : Option (List ℕ)

abbrev pub with_through : Option (List ℕ) → Option (List ℕ) → Through
with_through drill outline = record { drill = drill; outline = outline }

abbrev pub through_of : Job → Reading → Result Through Status
through_of job given = both (input_if roles.Drill job.drill) (input_if roles.Outline job.outline) with_through given

-- all of them
abbrev pub all_of : Sides → Through → Inputs
all_of sides through = record { front = sides.front; back = sides.back; drill = through.drill; outline = through.outline }

inputs_by : (job : Job) (given : Reading) → inputs_of job given ≡ both (sides_of job) (through_of job) all_of given
unfolding inputs_of
inputs_by job given = by (input_if roles.Front job.front given) (input_if roles.Back job.back given) (input_if roles.Drill job.drill given) (input_if roles.Outline job.outline given)
  where
    by : (f b d o : Result (Option (List ℕ)) Status)
        → (f >>= (λ front. b >>= (λ back. d >>= (λ drill. o >>= (λ outline. Ok (let all : Inputs = record { front = front; back = back; drill = drill; outline = outline } in all))))))
        ≡ ((f >>= (λ front. b >>= (λ back. Ok (with_sides front back)))) >>= (λ sides. (d >>= (λ drill. o >>= (λ outline. Ok (with_through drill outline)))) >>= (λ through. Ok (all_of sides through))))
    by (Err e) b d o = refl
    by (Ok front) (Err e) d o = refl
    by (Ok front) (Ok back) (Err e) o = refl
    by (Ok front) (Ok back) (Ok drill) (Err e) = refl
    by (Ok front) (Ok back) (Ok drill) (Ok outline) = refl

-- ---- which inputs they are

same_sides : (job : Job) (g h : Reading) → ((name : List ℕ) → g roles.Front name ≡ h roles.Front name) → ((name : List ℕ) → g roles.Back name ≡ h roles.Back name) → sides_of job g ≡ sides_of job h
same_sides job g h front back = rw (same_input roles.Front job.front g h front, same_input roles.Back job.back g h back) refl

same_through : (job : Job) (g h : Reading) → ((name : List ℕ) → g roles.Drill name ≡ h roles.Drill name) → ((name : List ℕ) → g roles.Outline name ≡ h roles.Outline name) → through_of job g ≡ through_of job h
same_through job g h drill outline = rw (same_input roles.Drill job.drill g h drill, same_input roles.Outline job.outline g h outline) refl

-- a refusal of the input of one of two roles
abbrev IsReadOfTwo : Role → Role → Status → Type 0
IsReadOfTwo one other status = IsReadOf one status ⊎ IsReadOf other status

both_refused : {Z : Type 0} (one other : Role) (a b : Option (List ℕ)) (make : Option (List ℕ) → Option (List ℕ) → Z) (given : Reading) → IfErr (both (input_if one a) (input_if other b) make given) (IsReadOfTwo one other)
both_refused one other a b make given =
    if_err_then (IsReadOfTwo one other) (input_if one a given) _ (weaker (IsReadOf one) (λ s h. inl h) (input_if one a given) (input_refused one a given)) (λ x.
    if_err_then (IsReadOfTwo one other) (input_if other b given) _ (weaker (IsReadOf other) (λ s h. inr h) (input_if other b given) (input_refused other b given)) (λ y. tt))
  where
    weaker : (P : Status → Type 0) → ((s : Status) → P s → IsReadOfTwo one other s) → (r : Result (Option (List ℕ)) Status) → IfErr r P → IfErr r (IsReadOfTwo one other)
    weaker P more (Ok x) h = tt
    weaker P more (Err s) h = more s h

-- a refusal of one of the files
abbrev pub IsOfFiles : Status → Type 0
IsOfFiles status = IsReadOfTwo roles.Front roles.Back status ⊎ IsReadOfTwo roles.Drill roles.Outline status

pub inputs_refused : (job : Job) (given : Reading) → IfErr (inputs_of job given) IsOfFiles
inputs_refused job given = subst (λ r. IfErr r IsOfFiles) (sym (inputs_by job given)) (by (sides_of job given) (through_of job given) (both_refused roles.Front roles.Back job.front job.back with_sides given) (both_refused roles.Drill roles.Outline job.drill job.outline with_through given))
  where
    by : (s : Result Sides Status) (t : Result Through Status) → IfErr s (IsReadOfTwo roles.Front roles.Back) → IfErr t (IsReadOfTwo roles.Drill roles.Outline)
        → IfErr (s >>= (λ sides. t >>= (λ through. Ok (all_of sides through)))) IsOfFiles
    by (Err e) t h k = inl h
    by (Ok sides) (Err e) h k = inr k
    by (Ok sides) (Ok through) h k = tt

-- two inputs of other roles
named_apart : (mine : Role → Bool) (one other : Role) (a b : Option (List ℕ)) → mine one ≡ true → mine other ≡ false → ((g : Reading) (name : List ℕ) → without other g one name ≡ g one name)
    → Apart mine (input_if one a) (input_if other b)
named_apart mine one other a b is isnt kept = record {
  own = λ g h same. same_input one a g h (same one is);
  others = λ g h same. same_input other b g h (same other isnt);
  fault = λ g role e.
      subst (λ r. input_if one a (without r g) ≡ input_if one a g) (sym (err_is (IsReadOf other) (input_if other b (without role g)) (ReadFault role) (input_refused other b (without role g)) e))
      (same_input one a (without other g) g (kept g));
}

abbrev is_front : Role → Bool
is_front roles.Front = true
is_front role = false

front_apart : (job : Job) → Apart is_front (input_if roles.Front job.front) (input_if roles.Back job.back)
front_apart job = named_apart is_front roles.Front roles.Back job.front job.back refl refl (λ g name. refl)

abbrev is_drill : Role → Bool
is_drill roles.Drill = true
is_drill role = false

drill_apart : (job : Job) → Apart is_drill (input_if roles.Drill job.drill) (input_if roles.Outline job.outline)
drill_apart job = named_apart is_drill roles.Drill roles.Outline job.drill job.outline refl refl (λ g name. refl)

abbrev is_side : Role → Bool
is_side roles.Front = true
is_side roles.Back = true
is_side role = false

sides_apart : (job : Job) → Apart is_side (sides_of job) (through_of job)
sides_apart job = record {
  own = λ g h same. same_sides job g h (same roles.Front refl) (same roles.Back refl);
  others = λ g h same. same_through job g h (same roles.Drill refl) (same roles.Outline refl);
  fault = λ g role e.
      by_role g role (err_is (IsReadOfTwo roles.Drill roles.Outline) (through_of job (without role g)) (ReadFault role) (both_refused roles.Drill roles.Outline job.drill job.outline with_through (without role g)) e);
}
  where
    by_role : (g : Reading) (role : Role) → IsReadOfTwo roles.Drill roles.Outline (ReadFault role) → sides_of job (without role g) ≡ sides_of job g
    by_role g role (inl drill) = subst (λ r. sides_of job (without r g) ≡ sides_of job g) (sym drill) (same_sides job (without roles.Drill g) g (λ name. refl) (λ name. refl))
    by_role g role (inr outline) = subst (λ r. sides_of job (without r g) ≡ sides_of job g) (sym outline) (same_sides job (without roles.Outline g) g (λ name. refl) (λ name. refl))

-- ---- what the reads of all give

-- the refusals of two steps are those of all
by_both : (job : Job) (status : Status) (before now : ShelfState) → Refuses (λ given s. both (sides_of job) (through_of job) all_of given ≡ Err s) status before now → Refuses (λ given s. inputs_of job given ≡ Err s) status before now
by_both job status before now r =
    refuses_weaker (λ given s. both (sides_of job) (through_of job) all_of given ≡ Err s) (λ given s. inputs_of job given ≡ Err s) status before now (λ given s e. inputs_by job given ∙ e) r

-- a side is refused
refuses_sides : (job : Job) (status : Status) (before now : ShelfState) → Refuses (λ given s. sides_of job given ≡ Err s) status before now → Refuses (λ given s. inputs_of job given ≡ Err s) status before now
refuses_sides job status before now r = by_both job status before now (refuses_first (sides_of job) (through_of job) all_of status before now r)

pub refuses_front : (job : Job) (status : Status) (before now : ShelfState) → Refuses (λ given s. input_if roles.Front job.front given ≡ Err s) status before now → Refuses (λ given s. inputs_of job given ≡ Err s) status before now
refuses_front job status before now r = refuses_sides job status before now (refuses_first (input_if roles.Front job.front) (input_if roles.Back job.back) with_sides status before now r)

pub refuses_back : (job : Job) (front : Option (List ℕ)) (status : Status) (before between now : ShelfState) → OnlyReads before between
    → (given : Reading) × MayRead before.files given × (input_if roles.Front job.front given ≡ Ok front)
    → Refuses (λ given s. input_if roles.Back job.back given ≡ Err s) status between now → Refuses (λ given s. inputs_of job given ≡ Err s) status before now
refuses_back job front status before between now keeps given r =
    refuses_sides job status before now
    (refuses_second is_front (input_if roles.Front job.front) front (input_if roles.Back job.back) with_sides (front_apart job) status before between now keeps given r)

-- both sides are read
pub gives_sides : (job : Job) (front back : Option (List ℕ)) (before between : ShelfState) → OnlyReads before between
    → (given : Reading) × MayRead before.files given × (input_if roles.Front job.front given ≡ Ok front)
    → (given : Reading) × MayRead between.files given × (input_if roles.Back job.back given ≡ Ok back)
    → (given : Reading) × MayRead before.files given × (sides_of job given ≡ Ok (with_sides front back))
gives_sides job front back before between keeps first second =
    gives_both is_front (input_if roles.Front job.front) front (input_if roles.Back job.back) back with_sides (front_apart job) before between keeps first second

-- what goes through the board is refused, behind the sides
refuses_through : (job : Job) (sides : Sides) (status : Status) (before between now : ShelfState) → OnlyReads before between → (given : Reading) × MayRead before.files given × (sides_of job given ≡ Ok sides)
    → Refuses (λ given s. through_of job given ≡ Err s) status between now → Refuses (λ given s. inputs_of job given ≡ Err s) status before now
refuses_through job sides status before between now keeps given r =
    by_both job status before now (refuses_second is_side (sides_of job) sides (through_of job) all_of (sides_apart job) status before between now keeps given r)

pub refuses_drill : (job : Job) (sides : Sides) (status : Status) (before between now : ShelfState) → OnlyReads before between → (given : Reading) × MayRead before.files given × (sides_of job given ≡ Ok sides)
    → Refuses (λ given s. input_if roles.Drill job.drill given ≡ Err s) status between now → Refuses (λ given s. inputs_of job given ≡ Err s) status before now
refuses_drill job sides status before between now keeps given r =
    refuses_through job sides status before between now keeps given (refuses_first (input_if roles.Drill job.drill) (input_if roles.Outline job.outline) with_through status between now r)

pub refuses_outline : (job : Job) (sides : Sides) (drill : Option (List ℕ)) (status : Status) (before between later now : ShelfState) → OnlyReads before between → OnlyReads between later
    → (given : Reading) × MayRead before.files given × (sides_of job given ≡ Ok sides) → (given : Reading) × MayRead between.files given × (input_if roles.Drill job.drill given ≡ Ok drill)
    → Refuses (λ given s. input_if roles.Outline job.outline given ≡ Err s) status later now → Refuses (λ given s. inputs_of job given ≡ Err s) status before now
refuses_outline job sides drill status before between later now keeps further given holes r =
    refuses_through job sides status before between now keeps given
    (refuses_second is_drill (input_if roles.Drill job.drill) drill (input_if roles.Outline job.outline) with_through (drill_apart job) status between later now further holes r)

-- all are read
pub gives_all : (job : Job) (sides : Sides) (drill outline : Option (List ℕ)) (before between later : ShelfState) → OnlyReads before between → OnlyReads between later
    → (given : Reading) × MayRead before.files given × (sides_of job given ≡ Ok sides)
    → (given : Reading) × MayRead between.files given × (input_if roles.Drill job.drill given ≡ Ok drill)
    → (given : Reading) × MayRead later.files given × (input_if roles.Outline job.outline given ≡ Ok outline)
    → (given : Reading) × MayRead before.files given × (inputs_of job given ≡ Ok (all_of sides (with_through drill outline)))
gives_all job sides drill outline before between later keeps further first holes last =
    let through = gives_both is_drill (input_if roles.Drill job.drill) drill (input_if roles.Outline job.outline) outline with_through (drill_apart job) between later further holes last in
    let r = gives_both is_side (sides_of job) sides (through_of job) (with_through drill outline) all_of (sides_apart job) before between keeps first through in
    (r.0, r.1, inputs_by job r.0 ∙ r.2)

-- ---- the job's file and the files that it names

abbrev pub is_job : Role → Bool
is_job roles.Job = true
is_job role = false

same_inputs : (job : Job) (g h : Reading) → ((role : Role) → is_job role ≡ false → (name : List ℕ) → g role name ≡ h role name) → inputs_of job g ≡ inputs_of job h
same_inputs job g h same =
    inputs_by job g
    ∙ rw (same_sides job g h (same roles.Front refl) (same roles.Back refl), same_through job g h (same roles.Drill refl) (same roles.Outline refl)) refl
    ∙ sym (inputs_by job h)

pub job_apart : (place : Option (List ℕ)) (job : Job) → Apart is_job (job_bytes place) (inputs_of job)
job_apart place job = record {
  own = λ g h same. same_job place g h (same roles.Job refl);
  others = same_inputs job;
  fault = λ g role e. by_file g role (err_is IsOfFiles (inputs_of job (without role g)) (ReadFault role) (inputs_refused job (without role g)) e);
}
  where
    of_file : (g : Reading) (role file : Role) → role ≡ file → job_bytes place (without file g) ≡ job_bytes place g → job_bytes place (without role g) ≡ job_bytes place g
    of_file g role file is same = subst (λ r. job_bytes place (without r g) ≡ job_bytes place g) (sym is) same

    by_file : (g : Reading) (role : Role) → IsOfFiles (ReadFault role) → job_bytes place (without role g) ≡ job_bytes place g
    by_file g role (inl (inl front)) = of_file g role roles.Front front (same_job place (without roles.Front g) g (λ name. refl))
    by_file g role (inl (inr back)) = of_file g role roles.Back back (same_job place (without roles.Back g) g (λ name. refl))
    by_file g role (inr (inl drill)) = of_file g role roles.Drill drill (same_job place (without roles.Drill g) g (λ name. refl))
    by_file g role (inr (inr outline)) = of_file g role roles.Outline outline (same_job place (without roles.Outline g) g (λ name. refl))
