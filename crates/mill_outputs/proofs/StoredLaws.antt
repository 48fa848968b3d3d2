-- What the files hold once all of some outputs are stored.
use Rattle.std.proofs.Common.{◌≡◌, ℕ, zero, suc, ◌<◌, List, [], ◌∷◌, length, false, cond, Some, slice_index_or, refl, ap, ◌∙◌, subst, arith}
use Rattle.std.specs.List.{Contains, AllByRecursion}
use Rattle.std.specs.FinMap.{get, insert, get-insert}
use Rattle.std.specs.Str.{bytes_eq}
use Rattle.std.proofs.lemmas.Cmp.{nat_list_cmp_total}
use Rattle.std.proofs.lemmas.Map.Text.{is_eq-slice_cmp}
use Rattle.std.proofs.lemmas.Slice.Eq.{bytes_eq-Decides}
use Rattle.board_base.specs.Files.{Files}
use Rattle.endings.specs.Outputs.{Output, all_stored}

-- ---- files by their names

-- told files with all outputs stored
abbrev pub all_in : List Output → Files → Files
all_in [] files = files
all_in (output ∷ outputs) files = all_in outputs (insert files output.name output.bytes)

pub stored_in : (outputs : List Output) (files : Files) → all_stored outputs (Some files) ≡ Some (all_in outputs files)
stored_in [] files = refl
stored_in (output ∷ outputs) files = stored_in outputs (insert files output.name output.bytes)

-- no output has this name
abbrev pub Lacks : List ℕ → List Output → Type 0
Lacks name outputs = AllByRecursion (λ (o : Output). bytes_eq name o.name ≡ false) outputs

-- no two outputs have one name
abbrev pub AreApart : List Output → Type 0
AreApart [] = Unit {0}
AreApart (output ∷ outputs) = Lacks output.name outputs × AreApart outputs

-- a name under another one's file
get_beside : (files : Files) (name other bytes : List ℕ) → bytes_eq name other ≡ false → get (insert files other bytes) name ≡ get files name
get_beside files name other bytes apart =
    get-insert nat_list_cmp_total files other bytes name
    ∙ ap (λ b. cond b (Some bytes) (get files name)) (is_eq-slice_cmp name other ∙ apart)

get_stored : (files : Files) (name bytes : List ℕ) → get (insert files name bytes) name ≡ Some bytes
get_stored files name bytes =
    get-insert nat_list_cmp_total files name bytes name
    ∙ ap (λ b. cond b (Some bytes) (get files name)) (is_eq-slice_cmp name name ∙ (bytes_eq-Decides name name).1 refl)

get_left : (outputs : List Output) (files : Files) (name : List ℕ) → Lacks name outputs → get (all_in outputs files) name ≡ get files name
get_left [] files name lacks = refl
get_left (output ∷ outputs) files name lacks =
    get_left outputs (insert files output.name output.bytes) name lacks.1 ∙ get_beside files name output.name output.bytes lacks.0

-- the output in this place is held under its name
held_at : (outputs : List Output) (files : Files) (file : Output) (k : ℕ) → AreApart outputs → k < length outputs → slice_index_or outputs k file ≡ file → get (all_in outputs files) file.name ≡ Some file.bytes
held_at [] files file k apart within here = absurd (omega arith)
held_at (output ∷ outputs) files file zero apart within here =
    subst (λ (o : Output). get (all_in outputs (insert files output.name output.bytes)) o.name ≡ Some o.bytes) here
    (get_left outputs (insert files output.name output.bytes) output.name apart.0 ∙ get_stored files output.name output.bytes)
held_at (output ∷ outputs) files file (suc k) apart within here = held_at outputs (insert files output.name output.bytes) file k apart.1 (omega arith) here

-- each of some outputs with different names is held under its own
pub each_held : (outputs : List Output) (files : Files) (file : Output) → AreApart outputs → Contains outputs file → get (all_in outputs files) file.name ≡ Some file.bytes
each_held outputs files file apart (k, within, here) = held_at outputs files file k apart within here
