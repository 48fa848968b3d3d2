-- What a file's refusal is to the command, and where there is what it stands for.
use Rattle.std.proofs.Common.{◌≡◌, ℕ, List, Option, Some, None, Result, Ok, Err, refl, ap, sym, ◌∙◌, subst}
use Rattle.std.specs.Prelude.{IfErr, is_some}
use Rattle.std.specs.Option.{option_map}
use Rattle.board_base.specs.declared.places.Role.{Role}
use Rattle.board_base.specs.declared.places.Role.TheVariants as roles
use Rattle.shape_parts.specs.declared.shape.Painted.{Painted}
use Rattle.gerber_image.specs.declared.refusal.GerberKind.{GerberKind}
use Rattle.gerber_image.specs.declared.refusal.GerberKind.TheVariants as kinds
use Rattle.gerber_image.specs.Gerber.{Outcome}
use Rattle.gerber_image.specs.Outcome.{outcome_of}
use Rattle.excellon.specs.declared.file.DrillFile.{DrillFile}
use Rattle.excellon.specs.declared.file.DrillKind.{DrillKind}
use Rattle.excellon.specs.declared.file.DrillKind.TheVariants as drills
use Rattle.excellon.specs.declared.file.DrillError.{DrillError}
use Rattle.excellon.specs.Drill.{drill_of}
use Rattle.job_file.specs.declared.job.Job.{Job}
use Rattle.job_file.proofs.FitLaws.{step}
use Rattle.endings.specs.declared.status.Status.{Status}
use Rattle.mill_inputs.specs.Accepted.{Accepts, Inputs, IsDrillOf, refused_as, painted_or_refused, image, image_if, mirrored, drill_refused, drilled_or_refused, drilled, drilled_if, contents_of}
use Rattle.mill_inputs.proofs.StepLaws.{IsOfBytes, if_err_then}

-- ---- what an image is refused for

refused_of_image : (role : Role) (kind : GerberKind) (at : ℕ) → IsOfBytes (refused_as role kind at)
refused_of_image role kinds.Syntax at = tt
refused_of_image role kinds.Unsupported at = tt
refused_of_image role kinds.NoFormat at = tt
refused_of_image role kinds.NoUnit at = tt
refused_of_image role kinds.NoAperture at = tt
refused_of_image role kinds.OpenRegion at = tt
refused_of_image role kinds.OpenRepeat at = tt
refused_of_image role kinds.OpenArc at = tt
refused_of_image role (kinds.Macro fault) at = tt
refused_of_image role kinds.OutOfRange at = tt
refused_of_image role kinds.TooManyObjects at = tt
refused_of_image role kinds.TooManyVertices at = tt
refused_of_image role kinds.NoEnd at = tt
refused_of_image role kinds.Memory at = tt

pub painted_refused : (role : Role) (outcome : Outcome) → IfErr (painted_or_refused role outcome) IsOfBytes
painted_refused role (Ok painted) = tt
painted_refused role (Err refusal) = refused_of_image role refusal.0 refusal.1

image_refused : (role : Role) (bytes : Option (List ℕ)) → IfErr (image_if role bytes) IsOfBytes
image_refused role None = tt
image_refused role (Some bytes) = if_err_then IsOfBytes (image role bytes) (λ painted. Ok (Some painted)) (painted_refused role (outcome_of bytes)) (λ painted. tt)

-- ---- what a drill file is refused for

refused_of_drill : (kind : DrillKind) (at : ℕ) → IsOfBytes (drill_refused kind at)
refused_of_drill drills.Syntax at = tt
refused_of_drill drills.Unsupported at = tt
refused_of_drill drills.NoUnit at = tt
refused_of_drill drills.NoTool at = tt
refused_of_drill drills.NoDiameter at = tt
refused_of_drill drills.OutOfRange at = tt
refused_of_drill drills.TooMany at = tt
refused_of_drill drills.NoEnd at = tt
refused_of_drill drills.Memory at = tt

file_refused : (outcome : Result DrillFile DrillError) → IfErr (drilled_or_refused outcome) IsOfBytes
file_refused (Ok file) = tt
file_refused (Err error) = refused_of_drill error.kind error.at

holes_refused : (bytes : Option (List ℕ)) → IfErr (drilled_if bytes) IsOfBytes
holes_refused None = tt
holes_refused (Some bytes) = if_err_then IsOfBytes (drilled bytes) (λ file. Ok (Some file)) (file_refused (drill_of bytes)) (λ file. tt)

pub contents_refused : (job : Job) (raw : Inputs) → IfErr (contents_of job raw) IsOfBytes
unfolding contents_of
contents_refused job raw =
    if_err_then IsOfBytes (image_if roles.Front raw.front) _ (image_refused roles.Front raw.front) (λ front.
    if_err_then IsOfBytes (image_if roles.Back raw.back) _ (image_refused roles.Back raw.back) (λ back.
    if_err_then IsOfBytes (drilled_if raw.drill) _ (holes_refused raw.drill) (λ drill.
    if_err_then IsOfBytes (image_if roles.Outline raw.outline) _ (image_refused roles.Outline raw.outline) (λ outline. tt))))

-- ---- what there is

pub ok_is : {A : Type 0} (a b : A) → ◌≡◌ {A = Result A Status} (Ok a) (Ok b) → a ≡ b
ok_is a b e = cc

image_there : (role : Role) (bytes : Option (List ℕ)) (painted : Option (List Painted)) → image_if role bytes ≡ Ok painted → is_some painted ≡ is_some bytes
image_there role None painted e = ap is_some (sym (ok_is None painted e))
image_there role (Some bytes) painted e = let s = step (image role bytes) (λ painted. Ok (Some painted)) painted e in ap is_some (sym (ok_is (Some s.0) painted s.2))

there_mapped : (o : Option (List Painted)) → is_some (option_map mirrored o) ≡ is_some o
there_mapped None = refl
there_mapped (Some painted) = refl

holes_there : (bytes : Option (List ℕ)) (drill : Option DrillFile) → drilled_if bytes ≡ Ok drill → is_some drill ≡ is_some bytes
holes_there None drill e = ap is_some (sym (ok_is None drill e))
holes_there (Some bytes) drill e = let s = step (drilled bytes) (λ file. Ok (Some file)) drill e in ap is_some (sym (ok_is (Some s.0) drill s.2))

file_as : (outcome : Result DrillFile DrillError) (file : DrillFile) → drilled_or_refused outcome ≡ Ok file → outcome ≡ Ok file
file_as (Ok x) file e = ap Ok (ok_is x file e)
file_as (Err error) file e = absurd (cc)

holes_stand : (bytes : Option (List ℕ)) (drill : Option DrillFile) → drilled_if bytes ≡ Ok drill → IsDrillOf drill
holes_stand None drill e = subst IsDrillOf (ok_is None drill e) tt
holes_stand (Some bytes) drill e = let s = step (drilled bytes) (λ file. Ok (Some file)) drill e in subst IsDrillOf (ok_is (Some s.0) drill s.2) (bytes, file_as (drill_of bytes) s.0 s.1)

-- what there is is that of the files that were read
pub record AreOf (job : Job) (raw : Inputs) (x : Accepts) : Type 0 where
  pub job_is : x.job ≡ job
  pub front : is_some x.front ≡ is_some raw.front
  pub back : is_some x.back ≡ is_some raw.back
  pub drill : is_some x.drill ≡ is_some raw.drill
  pub outline : is_some x.outline ≡ is_some raw.outline
  pub stands : IsDrillOf x.drill

pub contents_there : (job : Job) (raw : Inputs) (x : Accepts) → contents_of job raw ≡ Ok x → AreOf job raw x
unfolding contents_of
contents_there job raw x e =
    let f = step (image_if roles.Front raw.front) _ x e in
    let b = step (image_if roles.Back raw.back) _ x f.2 in
    let d = step (drilled_if raw.drill) _ x b.2 in
    let o = step (image_if roles.Outline raw.outline) _ x d.2 in
    let is = ok_is (record { job = job; front = f.0; back = option_map mirrored b.0; drill = d.0; outline = o.0 }) x o.2 in
    record {
      job_is = ap (λ x. x.job) (sym is);
      front = ap (λ x. is_some x.front) (sym is) ∙ image_there roles.Front raw.front f.0 f.1;
      back = ap (λ x. is_some x.back) (sym is) ∙ there_mapped b.0 ∙ image_there roles.Back raw.back b.0 b.1;
      drill = ap (λ x. is_some x.drill) (sym is) ∙ holes_there raw.drill d.0 d.1;
      outline = ap (λ x. is_some x.outline) (sym is) ∙ image_there roles.Outline raw.outline o.0 o.1;
      stands = subst (λ x. IsDrillOf x.drill) is (holes_stand raw.drill d.0 d.1);
    }
