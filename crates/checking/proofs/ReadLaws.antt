-- The files of `check`, read one after another.
use Rattle.std.proofs.Common.{◌≡◌, ◌⊎◌, ℕ, List, Option, Some, None, Result, Ok, Err, Bool, true, false, inl, inr, refl, sym, ap, ◌∙◌, subst}
use Rattle.std.specs.Prelude.{IfErr}
use Rattle.board_base.specs.declared.places.Side.{Side}
use Rattle.board_base.specs.declared.places.Side.TheVariants.{Front, Back}
use Rattle.board_base.specs.declared.places.Role.{Role}
use Rattle.board_base.specs.declared.places.Role.TheVariants as roles
use Rattle.board_base.specs.Shelf.{ShelfState, OnlyReads}
use Rattle.job_file.specs.declared.job.Job.{Job}
use Rattle.endings.specs.declared.status.Status.{Status}
use Rattle.endings.specs.declared.status.Status.TheVariants.{ReadFault}
use Rattle.endings.specs.Reads.{Reading, MayRead, without, accepted_bytes, input}
use Rattle.endings.specs.Works.{Refuses}
use Rattle.endings.proofs.RunLaws.{refuses_weaker}
use Rattle.mill_inputs.specs.Accepted.{job_bytes}
use Rattle.mill_inputs.proofs.StepLaws.{Apart, both, refuses_first, refuses_second, gives_both, if_err_then, err_is}
use Rattle.mill_inputs.proofs.ReadLaws.{same_job, IsReadOf, bytes_refused}
use Rattle.mill_inputs.proofs.InputLaws.{is_job}
use Rattle.simulation.specs.Words.{Named}
use Rattle.simulation.specs.Simulated.{Sources, probe_bytes, sources_in}
use Rattle.checking.specs.Words.{CheckWords}
use Rattle.checking.specs.Accepted.{layer_role, layer_of, Inputs, inputs_of}

-- ---- the program and the answers

abbrev with_sources : List ℕ → List ℕ → Sources
with_sources program probes = record { program = program; probes = probes }

sources_by : (names : Named) (given : Reading) → sources_in names given ≡ both (input roles.Ngc names.program) (probe_bytes names.probes) with_sources given
unfolding sources_in
sources_by names given = refl

same_probes : (o : Option (List ℕ)) (g h : Reading) → ((name : List ℕ) → g roles.Probes name ≡ h roles.Probes name) → probe_bytes o g ≡ probe_bytes o h
same_probes None g h same = refl
same_probes (Some name) g h same = ap (accepted_bytes roles.Probes) (same name)

-- two steps that give the same each
same_both : {X Y Z : Type 0} (first : Reading → Result X Status) (second : Reading → Result Y Status) (make : X → Y → Z) (g h : Reading) → first g ≡ first h → second g ≡ second h
    → both first second make g ≡ both first second make h
same_both first second make g h e f = rw (e, f) refl

same_sources : (names : Named) (g h : Reading) → ((name : List ℕ) → g roles.Ngc name ≡ h roles.Ngc name) → ((name : List ℕ) → g roles.Probes name ≡ h roles.Probes name)
    → sources_in names g ≡ sources_in names h
same_sources names g h program probes =
    sources_by names g
    ∙ same_both (input roles.Ngc names.program) (probe_bytes names.probes) with_sources g h (ap (accepted_bytes roles.Ngc) (program names.program)) (same_probes names.probes g h probes)
    ∙ sym (sources_by names h)

-- a refusal of one of the two
abbrev pub IsOfSources : Status → Type 0
IsOfSources status = IsReadOf roles.Ngc status ⊎ IsReadOf roles.Probes status

probes_refused : (o : Option (List ℕ)) (given : Reading) → IfErr (probe_bytes o given) (IsReadOf roles.Probes)
probes_refused None given = tt
probes_refused (Some name) given = bytes_refused roles.Probes (given roles.Probes name)

if_err_weaker : {A : Type 0} (P Q : Status → Type 0) → ((s : Status) → P s → Q s) → (r : Result A Status) → IfErr r P → IfErr r Q
if_err_weaker P Q weaker (Ok x) h = tt
if_err_weaker P Q weaker (Err s) h = weaker s h

sources_refused : (names : Named) (given : Reading) → IfErr (sources_in names given) IsOfSources
unfolding sources_in
sources_refused names given =
    if_err_then IsOfSources (input roles.Ngc names.program given) _
    (if_err_weaker (IsReadOf roles.Ngc) IsOfSources (λ s h. inl h) (input roles.Ngc names.program given) (bytes_refused roles.Ngc (given roles.Ngc names.program))) (λ program.
    if_err_then IsOfSources (probe_bytes names.probes given) _
    (if_err_weaker (IsReadOf roles.Probes) IsOfSources (λ s h. inr h) (probe_bytes names.probes given) (probes_refused names.probes given)) (λ probes. tt))

-- ---- the layer and both of them

abbrev layer_in : Side → Job → Reading → Result (List ℕ) Status
layer_in side job given = input (layer_role side) (layer_of side job) given

abbrev with_layer : List ℕ → Sources → Inputs
with_layer layer sources = record { layer = layer; sources = sources }

inputs_by : (w : CheckWords) (job : Job) (given : Reading) → inputs_of w job given ≡ both (layer_in w.side job) (sources_in w.files) with_layer given
unfolding inputs_of
inputs_by w job given = refl

abbrev is_layer : Role → Bool
is_layer roles.Front = true
is_layer roles.Back = true
is_layer role = false

same_layer : (side : Side) (job : Job) (g h : Reading) → ((role : Role) → is_layer role ≡ true → (name : List ℕ) → g role name ≡ h role name) → layer_in side job g ≡ layer_in side job h
same_layer Front job g h same = ap (accepted_bytes roles.Front) (same roles.Front refl (layer_of Front job))
same_layer Back job g h same = ap (accepted_bytes roles.Back) (same roles.Back refl (layer_of Back job))

-- the layer is there without the two
layer_without : (side : Side) (job : Job) (g : Reading) (role : Role) → IsOfSources (ReadFault role) → layer_in side job (without role g) ≡ layer_in side job g
layer_without Front job g role (inl is) = subst (λ r. layer_in Front job (without r g) ≡ layer_in Front job g) (sym is) refl
layer_without Front job g role (inr is) = subst (λ r. layer_in Front job (without r g) ≡ layer_in Front job g) (sym is) refl
layer_without Back job g role (inl is) = subst (λ r. layer_in Back job (without r g) ≡ layer_in Back job g) (sym is) refl
layer_without Back job g role (inr is) = subst (λ r. layer_in Back job (without r g) ≡ layer_in Back job g) (sym is) refl

layer_apart : (side : Side) (job : Job) (names : Named) → Apart is_layer (layer_in side job) (sources_in names)
layer_apart side job names = record {
  own = same_layer side job;
  others = λ g h same. same_sources names g h (same roles.Ngc refl) (same roles.Probes refl);
  fault = λ g role e. layer_without side job g role (err_is IsOfSources (sources_in names (without role g)) (ReadFault role) (sources_refused names (without role g)) e);
}

-- the refusals of both steps are those of the whole
by_both : (w : CheckWords) (job : Job) (status : Status) (before now : ShelfState) → Refuses (λ given s. both (layer_in w.side job) (sources_in w.files) with_layer given ≡ Err s) status before now
    → Refuses (λ given s. inputs_of w job given ≡ Err s) status before now
by_both w job status before now r =
    refuses_weaker (λ given s. both (layer_in w.side job) (sources_in w.files) with_layer given ≡ Err s) (λ given s. inputs_of w job given ≡ Err s) status before now (λ given s e. inputs_by w job given ∙ e) r

-- the layer is refused
pub refuses_layer : (w : CheckWords) (job : Job) (status : Status) (before now : ShelfState) → Refuses (λ given s. input (layer_role w.side) (layer_of w.side job) given ≡ Err s) status before now
    → Refuses (λ given s. inputs_of w job given ≡ Err s) status before now
refuses_layer w job status before now r = by_both w job status before now (refuses_first (layer_in w.side job) (sources_in w.files) with_layer status before now r)

-- the program or the answers are refused
pub refuses_sources : (w : CheckWords) (job : Job) (layer : List ℕ) (status : Status) (before between now : ShelfState) → OnlyReads before between
    → (given : Reading) × MayRead before.files given × (input (layer_role w.side) (layer_of w.side job) given ≡ Ok layer)
    → Refuses (λ given s. sources_in w.files given ≡ Err s) status between now → Refuses (λ given s. inputs_of w job given ≡ Err s) status before now
refuses_sources w job layer status before between now keeps given r =
    by_both w job status before now
    (refuses_second is_layer (layer_in w.side job) layer (sources_in w.files) with_layer (layer_apart w.side job w.files) status before between now keeps given r)

-- all are read
pub gives_inputs : (w : CheckWords) (job : Job) (layer : List ℕ) (sources : Sources) (before between : ShelfState) → OnlyReads before between
    → (given : Reading) × MayRead before.files given × (input (layer_role w.side) (layer_of w.side job) given ≡ Ok layer)
    → (given : Reading) × MayRead between.files given × (sources_in w.files given ≡ Ok sources)
    → (given : Reading) × MayRead before.files given × (inputs_of w job given ≡ Ok (record { layer = layer; sources = sources }))
gives_inputs w job layer sources before between keeps first second =
    let r = gives_both is_layer (layer_in w.side job) layer (sources_in w.files) sources with_layer (layer_apart w.side job w.files) before between keeps first second in
    (r.0, r.1, inputs_by w job r.0 ∙ r.2)

-- ---- the job's file and those

-- a refusal of one of them
abbrev pub IsOfInputs : Status → Type 0
IsOfInputs status = (IsReadOf roles.Front status ⊎ IsReadOf roles.Back status) ⊎ IsOfSources status

layer_refused : (side : Side) (job : Job) (given : Reading) → IfErr (layer_in side job given) (λ s. IsReadOf roles.Front s ⊎ IsReadOf roles.Back s)
layer_refused Front job given =
    if_err_weaker (IsReadOf roles.Front) (λ s. IsReadOf roles.Front s ⊎ IsReadOf roles.Back s) (λ s h. inl h) (layer_in Front job given) (bytes_refused roles.Front (given roles.Front (layer_of Front job)))
layer_refused Back job given =
    if_err_weaker (IsReadOf roles.Back) (λ s. IsReadOf roles.Front s ⊎ IsReadOf roles.Back s) (λ s h. inr h) (layer_in Back job given) (bytes_refused roles.Back (given roles.Back (layer_of Back job)))

pub inputs_refused : (w : CheckWords) (job : Job) (given : Reading) → IfErr (inputs_of w job given) IsOfInputs
unfolding inputs_of
inputs_refused w job given =
    if_err_then IsOfInputs (layer_in w.side job given) _
    (if_err_weaker (λ s. IsReadOf roles.Front s ⊎ IsReadOf roles.Back s) IsOfInputs (λ s h. inl h) (layer_in w.side job given) (layer_refused w.side job given)) (λ layer.
    if_err_then IsOfInputs (sources_in w.files given) _
    (if_err_weaker IsOfSources IsOfInputs (λ s h. inr h) (sources_in w.files given) (sources_refused w.files given)) (λ sources. tt))

same_inputs : (w : CheckWords) (job : Job) (g h : Reading) → ((role : Role) → is_job role ≡ false → (name : List ℕ) → g role name ≡ h role name) → inputs_of w job g ≡ inputs_of w job h
same_inputs w job g h same =
    inputs_by w job g
    ∙ same_both (layer_in w.side job) (sources_in w.files) with_layer g h (by_side w.side) (same_sources w.files g h (same roles.Ngc refl) (same roles.Probes refl))
    ∙ sym (inputs_by w job h)
  where
    by_side : (side : Side) → layer_in side job g ≡ layer_in side job h
    by_side Front = ap (accepted_bytes roles.Front) (same roles.Front refl (layer_of Front job))
    by_side Back = ap (accepted_bytes roles.Back) (same roles.Back refl (layer_of Back job))

pub job_apart : (place : Option (List ℕ)) (w : CheckWords) (job : Job) → Apart is_job (job_bytes place) (inputs_of w job)
job_apart place w job = record {
  own = λ g h same. same_job place g h (same roles.Job refl);
  others = same_inputs w job;
  fault = λ g role e. by_file g role (err_is IsOfInputs (inputs_of w job (without role g)) (ReadFault role) (inputs_refused w job (without role g)) e);
}
  where
    of_file : (g : Reading) (role file : Role) → role ≡ file → job_bytes place (without file g) ≡ job_bytes place g → job_bytes place (without role g) ≡ job_bytes place g
    of_file g role file is same = subst (λ r. job_bytes place (without r g) ≡ job_bytes place g) (sym is) same

    by_file : (g : Reading) (role : Role) → IsOfInputs (ReadFault role) → job_bytes place (without role g) ≡ job_bytes place g
    by_file g role (inl (inl front)) = of_file g role roles.Front front (same_job place (without roles.Front g) g (λ name. refl))
    by_file g role (inl (inr back)) = of_file g role roles.Back back (same_job place (without roles.Back g) g (λ name. refl))
    by_file g role (inr (inl program)) = of_file g role roles.Ngc program (same_job place (without roles.Ngc g) g (λ name. refl))
    by_file g role (inr (inr probes)) = of_file g role roles.Probes probes (same_job place (without roles.Probes g) g (λ name. refl))
