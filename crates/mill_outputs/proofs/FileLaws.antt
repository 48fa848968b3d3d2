-- The files of what is made: their order, their names and their roles.
use Rattle.std.proofs.Common.{◌≡◌, inl, inr, ℕ, List, [], ◌∷◌, ◌++◌, Bool, true, false, Option, Some, None, codes, append_assoc, refl, sym, ◌∙◌, subst}
use Rattle.std.specs.Str.{bytes_eq}
use Rattle.std.proofs.lemmas.List.{append_cancel_left}
use Rattle.std.proofs.lemmas.Slice.Eq.{bytes_eq-Decides}
use Rattle.board_base.specs.declared.places.Role.{Role}
use Rattle.board_base.specs.declared.places.Role.TheVariants as roles
use Rattle.job_file.specs.declared.job.Job.{Job}
use Rattle.endings.specs.Outputs.{Output, Writes}
use Rattle.mill_outputs.specs.declared.plans.Programs.{Programs}
use Rattle.mill_outputs.specs.Written.{Made}
use Rattle.mill_outputs.specs.Mill.{named, file_if, program_file, report_file, files_of}
use Rattle.mill_outputs.proofs.StoredLaws.{Lacks, AreApart}

-- ---- in a row

-- the files, each before those behind it
abbrev pub files_in_row : Job → Made → List Output
files_in_row job made =
    program_file job.basename roles.Front (codes "front.ngc") (made.programs).front
    ++ (program_file job.basename roles.Back (codes "back.ngc") (made.programs).back
    ++ (program_file job.basename roles.Drill (codes "drill.ngc") (made.programs).drill
    ++ (program_file job.basename roles.Outline (codes "outline.ngc") (made.programs).outline ++ report_file job.basename made.plans ∷ [])))

pub files_are : (job : Job) (made : Made) → files_of job made ≡ files_in_row job made
unfolding files_of
files_are job made =
    let front = program_file job.basename roles.Front (codes "front.ngc") (made.programs).front in
    let back = program_file job.basename roles.Back (codes "back.ngc") (made.programs).back in
    let drill = program_file job.basename roles.Drill (codes "drill.ngc") (made.programs).drill in
    let outline = program_file job.basename roles.Outline (codes "outline.ngc") (made.programs).outline in
    let report = report_file job.basename made.plans ∷ [] in
    append_assoc ((front ++ back) ++ drill) outline report ∙ append_assoc (front ++ back) drill (outline ++ report) ∙ append_assoc front back (drill ++ (outline ++ report))

-- ---- names

is_not : (xs ys : List ℕ) (b : Bool) → bytes_eq xs ys ≡ b → (xs ≡ ys → ⊥) → b ≡ false
is_not xs ys true e differ = absurd (differ ((bytes_eq-Decides xs ys).0 e))
is_not xs ys false e differ = refl

differ_named : (base : Option (List ℕ)) (one other : List ℕ) → (one ≡ other → ⊥) → named base one ≡ named base other → ⊥
differ_named None one other differ same = differ same
differ_named (Some base) one other differ same = differ (append_cancel_left (base ++ codes "_") one other same)

-- names that differ do so behind the base name
named_apart : (base : Option (List ℕ)) (one other : List ℕ) → bytes_eq one other ≡ false → bytes_eq (named base one) (named base other) ≡ false
named_apart base one other apart = is_not (named base one) (named base other) _ refl (differ_named base one other (λ same. true_not_false ((bytes_eq-Decides one other).1 same)))
  where
    flips : (b : Bool) → b ≡ true → b ≡ false → ⊥
    flips b e f = cc

    true_not_false : bytes_eq one other ≡ true → ⊥
    true_not_false e = flips _ e apart

-- a name that a file hasn't, where what comes behind lacks it too
lacks_file : {A : Type 0} (base : Option (List ℕ)) (name other : List ℕ) (role : Role) (bytes : A → List ℕ) (plan : Option A) (rest : List Output) → bytes_eq name other ≡ false → Lacks (named base name) rest
    → Lacks (named base name) (file_if role (named base other) bytes plan ++ rest)
lacks_file base name other role bytes None rest apart lacks = lacks
lacks_file base name other role bytes (Some plan) rest apart lacks = (named_apart base name other apart, lacks)

-- a file before others that haven't its name
apart_file : {A : Type 0} (name : List ℕ) (role : Role) (bytes : A → List ℕ) (plan : Option A) (rest : List Output) → Lacks name rest → AreApart rest → AreApart (file_if role name bytes plan ++ rest)
apart_file name role bytes None rest lacks apart = apart
apart_file name role bytes (Some plan) rest lacks apart = (lacks, apart)

row_apart : (job : Job) (made : Made) → AreApart (files_in_row job made)
row_apart job made =
    let base = job.basename in
    let report = report_file base made.plans ∷ [] in
    let outline = program_file base roles.Outline (codes "outline.ngc") (made.programs).outline ++ report in
    let holes = program_file base roles.Drill (codes "drill.ngc") (made.programs).drill ++ outline in
    apart_file (named base (codes "front.ngc")) roles.Front _ (made.programs).front (program_file base roles.Back (codes "back.ngc") (made.programs).back ++ holes)
    (lacks_file base (codes "front.ngc") (codes "back.ngc") roles.Back _ (made.programs).back holes refl (behind_sides (codes "front.ngc") refl refl refl))
    (apart_file (named base (codes "back.ngc")) roles.Back _ (made.programs).back holes (behind_sides (codes "back.ngc") refl refl refl)
    (apart_file (named base (codes "drill.ngc")) roles.Drill _ (made.programs).drill outline (behind_holes (codes "drill.ngc") refl refl)
    (apart_file (named base (codes "outline.ngc")) roles.Outline _ (made.programs).outline report (named_apart base (codes "outline.ngc") (codes "report.txt") refl, tt) (tt, tt))))
  where
    behind_holes : (name : List ℕ) → bytes_eq name (codes "outline.ngc") ≡ false → bytes_eq name (codes "report.txt") ≡ false
        → Lacks (named job.basename name) (program_file job.basename roles.Outline (codes "outline.ngc") (made.programs).outline ++ report_file job.basename made.plans ∷ [])
    behind_holes name outline report = lacks_file job.basename name (codes "outline.ngc") roles.Outline _ (made.programs).outline (report_file job.basename made.plans ∷ []) outline (named_apart job.basename name (codes "report.txt") report, tt)

    behind_sides : (name : List ℕ) → bytes_eq name (codes "drill.ngc") ≡ false → bytes_eq name (codes "outline.ngc") ≡ false → bytes_eq name (codes "report.txt") ≡ false
        → Lacks (named job.basename name) (program_file job.basename roles.Drill (codes "drill.ngc") (made.programs).drill
        ++ (program_file job.basename roles.Outline (codes "outline.ngc") (made.programs).outline ++ report_file job.basename made.plans ∷ []))
    behind_sides name drill outline report =
        lacks_file job.basename name (codes "drill.ngc") roles.Drill _ (made.programs).drill
        (program_file job.basename roles.Outline (codes "outline.ngc") (made.programs).outline ++ report_file job.basename made.plans ∷ []) drill (behind_holes name outline report)

-- no two files have one name
pub files_apart : (job : Job) (made : Made) → AreApart (files_of job made)
files_apart job made = subst AreApart (sym (files_are job made)) (row_apart job made)

-- ---- roles

-- a file has its role whatever comes behind it
file_writes : {A : Type 0} (role own : Role) (name : List ℕ) (bytes : A → List ℕ) (program : Option A) (rest more : List Output) → (Writes role rest → Writes role more)
    → Writes role (file_if own name bytes program ++ rest) → Writes role (file_if own name bytes program ++ more)
file_writes role own name bytes None rest more later w = later w
file_writes role own name bytes (Some program) rest more later (inl here) = inl here
file_writes role own name bytes (Some program) rest more later (inr w) = inr (later w)

-- the same programs with another report are files of the same roles
pub same_writes : (role : Role) (job : Job) (one other : Made) → one.programs ≡ other.programs → Writes role (files_of job one) → Writes role (files_of job other)
same_writes role job one other same w =
    subst (Writes role) (sym (files_are job other))
    (subst (λ (programs : Programs). Writes role (files_in_row job (record { plans = other.plans; programs = programs }))) same (in_row (subst (Writes role) (files_are job one) w)))
  where
    in_row : Writes role (files_in_row job one) → Writes role (files_in_row job (record { plans = other.plans; programs = one.programs }))
    in_row =
        file_writes role roles.Front _ _ (one.programs).front _ _
        (file_writes role roles.Back _ _ (one.programs).back _ _
        (file_writes role roles.Drill _ _ (one.programs).drill _ _
        (file_writes role roles.Outline _ _ (one.programs).outline (report_file job.basename one.plans ∷ []) (report_file job.basename other.plans ∷ []) (λ w. w))))

-- a file hasn't the role of the lines
file_not_lines : {A : Type 0} (own : Role) (name : List ℕ) (bytes : A → List ℕ) (plan : Option A) (rest : List Output) → (own ≡ roles.Lines → ⊥) → (Writes roles.Lines rest → ⊥) → Writes roles.Lines (file_if own name bytes plan ++ rest) → ⊥
file_not_lines own name bytes None rest other none w = none w
file_not_lines own name bytes (Some plan) rest other none (inl here) = other here
file_not_lines own name bytes (Some plan) rest other none (inr later) = none later

-- no file has the role of the lines
pub files_not_of_lines : (job : Job) (made : Made) → Writes roles.Lines (files_of job made) → ⊥
files_not_of_lines job made w =
    file_not_lines roles.Front _ _ (made.programs).front _ not_front
    (file_not_lines roles.Back _ _ (made.programs).back _ not_back
    (file_not_lines roles.Drill _ _ (made.programs).drill _ not_drill
    (file_not_lines roles.Outline _ _ (made.programs).outline (report_file job.basename made.plans ∷ []) not_outline last)))
    (subst (Writes roles.Lines) (files_are job made) w)
  where
    not_front : roles.Front ≡ roles.Lines → ⊥
    not_front e = cc

    not_back : roles.Back ≡ roles.Lines → ⊥
    not_back e = cc

    not_drill : roles.Drill ≡ roles.Lines → ⊥
    not_drill e = cc

    not_outline : roles.Outline ≡ roles.Lines → ⊥
    not_outline e = cc

    not_report : roles.Report ≡ roles.Lines → ⊥
    not_report e = cc

    last : Writes roles.Lines (report_file job.basename made.plans ∷ []) → ⊥
    last (inl here) = not_report here
    last (inr none) = none
