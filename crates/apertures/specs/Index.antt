-- An index of macros by their names.
use Rattle.std.specs.Prelude.{◌≡◌, ℕ, ◌<◌, List, length, slice_get, option_map, Option, Some, None, IfSome, Vec}
use Rattle.std.specs.declared.alloc.Global.{Global}
use Rattle.std.specs.Ordering.{nat_cmp}
use Rattle.std.specs.Cmp.Lexicographic.{slice_cmp}
use Rattle.std.specs.BTreeMap.{BTreeMap, get_by}
use Rattle.macro_eval.specs.Trees.{Statement}
use Rattle.apertures.specs.declared.macros.NamedMacro.{NamedMacro}
use Rattle.apertures.specs.Defined.{macro_named}

-- the place that the index has for a name
unfoldable pub place_for : BTreeMap (Vec ℕ Global) ℕ → List ℕ → Option ℕ
place_for index name = get_by (λ key. slice_cmp nat_cmp name key.items) index

-- the body of the macro at a place
abbrev pub body_at : List NamedMacro → Option ℕ → Option (List Statement)
body_at macros (Some place) = option_map (λ m. m.body) (slice_get macros place)
body_at macros None = None

-- the index leads each name to a macro of the list, the last one of that name, if there is one
pub record IsIndex (macros : List NamedMacro) (index : BTreeMap (Vec ℕ Global) ℕ) : Type 0 where
  pub inside : (name : List ℕ) → IfSome (place_for index name) (λ place. place < length macros)
  pub last : (name : List ℕ) → body_at macros (place_for index name) ≡ macro_named name macros
