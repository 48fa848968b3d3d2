-- An index of macros by their names, as a macro is added.
use Rattle.std.proofs.Common.{◌≡◌, ℕ, ◌<◌, ◌-◌, take, Vec, List, [], ◌∷◌, ◌++◌, length, get_or, cond, Bool, true, false, Option, Some, None, IfSome, Result, Ok, Err, OnOk, OnErr, refl, sym, ap, subst, ◌∙◌, arith}
use Rattle.std.specs.Prelude.{option_map}
use Rattle.std.specs.declared.alloc.Global.{Global}
use Rattle.std.specs.declared.cmp.Ordering.{Ordering}
use Rattle.std.specs.Result.{is_err}
use Rattle.std.specs.Ordering.{nat_cmp, is_eq, eq_by_cmp}
use Rattle.std.specs.Cmp.Lexicographic.{slice_cmp}
use Rattle.std.specs.BTreeMap.{BTreeMap, get_by, UpdatesBy, is_at}
use Rattle.std.specs.Map.{lookup, IsKeyTest, AreApart, KeepsOthers}
use Rattle.std.specs.Str.{bytes_eq}
use Rattle.std.proofs.lemmas.Bool.{false≢true}
use Rattle.std.proofs.lemmas.Cmp.{nat_list_cmp_total, eq_by_cmp_equiv}
use Rattle.std.proofs.lemmas.Slice.Eq.{bytes_eq-Decides}
use Rattle.std.proofs.lemmas.Map.Text.{is_eq-slice_cmp}
use Rattle.std.proofs.lemmas.List.{length_push}
use Rattle.std.proofs.lemmas.List.Sums.{fold-append}
use Rattle.std.proofs.lemmas.Option.{slice_get-get_or, slice_get_read}
use Rattle.std.proofs.Math.ListN.{get_or-append}
use Rattle.std.proofs.Math.Seq.{get_or-append_seam, take-append_seam}
use Rattle.number_laws.proofs.Tests.{by_bool}
use Rattle.macro_eval.specs.Trees.{Statement}
use Rattle.apertures.specs.declared.macros.NamedMacro.{NamedMacro}
use Rattle.apertures.specs.Defined.{macro_named}
use Rattle.apertures.specs.Index.{place_for, body_at, IsIndex}

-- the order of names
abbrev by_bytes : Vec ℕ Global → Vec ℕ Global → Ordering
by_bytes a b = slice_cmp nat_cmp a.items b.items

same_place : (old new : BTreeMap (Vec ℕ Global) ℕ) (name : List ℕ) → new.entries ≡ old.entries → place_for new name ≡ place_for old name
unfolding place_for
same_place old new name e = ap (lookup (is_at (λ key. slice_cmp nat_cmp name key.items))) e

none_for : (index : BTreeMap (Vec ℕ Global) ℕ) (name : List ℕ) → index.entries ≡ [] → place_for index name ≡ None
unfolding place_for
none_for index name e = ap (lookup (is_at (λ key. slice_cmp nat_cmp name key.items))) e

-- without a macro
pub index_begun : (index : BTreeMap (Vec ℕ Global) ℕ) → index.entries ≡ [] → IsIndex [] index
index_begun index e = record {
  inside = λ name. subst (λ place. IfSome place (λ k. k < 0)) (sym (none_for index name e)) tt;
  last = λ name. ap (body_at []) (none_for index name e);
}

-- where the entries stay
pub index_kept : (macros : List NamedMacro) (old new : BTreeMap (Vec ℕ Global) ℕ) → new.entries ≡ old.entries → IsIndex macros old → IsIndex macros new
index_kept macros old new e p = record {
  inside = λ name. subst (λ place. IfSome place (λ k. k < length macros)) (sym (same_place old new name e)) (p.inside name);
  last = λ name. ap (body_at macros) (same_place old new name e) ∙ p.last name;
}

others_stay : {K X : Type 0} (eq : K → K → Bool) (test : K → Bool) (old new : List (K × X)) → KeepsOthers eq test old new → (other : K → Bool) → IsKeyTest eq other → AreApart test other → lookup other new ≡ lookup other old
unfolding KeepsOthers
others_stay eq test old new h = h

same_bytes : (a b : List ℕ) → bytes_eq a b ≡ true → a ≡ b
same_bytes a b = (bytes_eq-Decides a b).0

other_way : (a b : List ℕ) → bytes_eq a b ≡ false → bytes_eq b a ≡ false
other_way a b e = by_bool (bytes_eq b a) (λ t. absurd (false≢true (sym e ∙ ap (bytes_eq a) (same_bytes b a t) ∙ (bytes_eq-Decides a a).1 refl))) (λ f. f)

are_apart : (key name : List ℕ) → bytes_eq key name ≡ false → AreApart (λ (k : Vec ℕ Global). is_eq (slice_cmp nat_cmp key k.items)) (λ k. is_eq (slice_cmp nat_cmp name k.items))
are_apart key name e k t =
    let same : key ≡ k.items = same_bytes key k.items (sym (is_eq-slice_cmp key k.items) ∙ t) in
    is_eq-slice_cmp name k.items ∙ ap (bytes_eq name) (sym same) ∙ other_way key name e

place_added : (old new : BTreeMap (Vec ℕ Global) ℕ) (key : Vec ℕ Global) (place : ℕ) (name : List ℕ) → UpdatesBy by_bytes (by_bytes key) old new (Some place)
    → place_for new name ≡ cond (bytes_eq key.items name) (Some place) (place_for old name)
unfolding place_for
place_added old new key place name u = by_bool (bytes_eq key.items name)
    (λ t. subst (λ bytes. place_for new bytes ≡ Some place) (same_bytes key.items name t) u.1 ∙ sym (ap (λ here. cond here (Some place) (place_for old name)) t))
    (λ f. others_stay (eq_by_cmp by_bytes) (is_at (by_bytes key)) old.entries new.entries u.3 (is_at (λ k. slice_cmp nat_cmp name k.items))
    (λ x y. (eq_by_cmp_equiv nat_list_cmp_total).congr name x.items y.items) (are_apart key.items name f)
    ∙ sym (ap (λ here. cond here (Some place) (place_for old name)) f))

stays : (macros : List NamedMacro) (m : NamedMacro) (place : Option ℕ) → IfSome place (λ k. k < length macros) → body_at (macros ++ m ∷ []) place ≡ body_at macros place
stays macros m None inside = refl
stays macros m (Some k) inside = ap (option_map (λ (m : NamedMacro). m.body)) (slice_get-get_or (macros ++ m ∷ []) k m longer ∙ ap Some (get_or-append macros (m ∷ []) m k inside) ∙ sym (slice_get-get_or macros k m inside))
  where
    longer : k < length (macros ++ m ∷ [])
    longer = omega (arith, inside, length_push macros m)

still_inside : (macros : List NamedMacro) (m : NamedMacro) (place : Option ℕ) → IfSome place (λ k. k < length macros) → IfSome place (λ k. k < length (macros ++ m ∷ []))
still_inside macros m None inside = inside
still_inside macros m (Some k) inside = omega (arith, inside, length_push macros m)

at_the_end : (macros : List NamedMacro) (m : NamedMacro) → body_at (macros ++ m ∷ []) (Some (length macros)) ≡ Some m.body
at_the_end macros m =
    ap (option_map (λ (m : NamedMacro). m.body)) (slice_get_read (macros ++ m ∷ []) (length (macros ++ m ∷ [])) (length macros) m refl (omega (arith, length_push macros m)) (sym (get_or-append_seam macros m [] m)))

named_added : (macros : List NamedMacro) (m : NamedMacro) (name : List ℕ) → macro_named name (macros ++ m ∷ []) ≡ cond (bytes_eq m.name name) (Some m.body) (macro_named name macros)
named_added macros m name = fold-append (λ (found : Option (List Statement)) (m : NamedMacro). cond (bytes_eq m.name name) (Some m.body) found) None macros (m ∷ [])

-- with a macro more
pub index_added : (macros : List NamedMacro) (m : NamedMacro) (old new : BTreeMap (Vec ℕ Global) ℕ) (key : Vec ℕ Global) → key.items ≡ m.name → IsIndex macros old
    → (place : ℕ) → place ≡ length macros → UpdatesBy by_bytes (by_bytes key) old new (Some place) → IsIndex (macros ++ m ∷ []) new
index_added macros m old new key same p place last u = record {
  inside = λ name. by_bool (bytes_eq m.name name)
      (λ t. subst (λ place. IfSome place (λ k. k < length (macros ++ m ∷ []))) (sym (at name true t)) (omega (arith, length_push macros m)))
      (λ f. subst (λ place. IfSome place (λ k. k < length (macros ++ m ∷ []))) (sym (at name false f)) (still_inside macros m (place_for old name) (p.inside name)));
  last = λ name. by_bool (bytes_eq m.name name)
      (λ t. ap (body_at (macros ++ m ∷ [])) (at name true t) ∙ at_the_end macros m ∙ sym (named name true t))
      (λ f. ap (body_at (macros ++ m ∷ [])) (at name false f) ∙ stays macros m (place_for old name) (p.inside name) ∙ p.last name ∙ sym (named name false f));
}
  where
    at : (name : List ℕ) (here : Bool) → bytes_eq m.name name ≡ here → place_for new name ≡ cond here (Some (length macros)) (place_for old name)
    at name here e =
        place_added old new key (length macros) name (subst (λ k. UpdatesBy by_bytes (by_bytes key) old new (Some k)) last u) ∙ ap (λ bytes. cond (bytes_eq bytes name) (Some (length macros)) (place_for old name)) same
        ∙ ap (λ (b : Bool). cond b (Some (length macros)) (place_for old name)) e

    named : (name : List ℕ) (here : Bool) → bytes_eq m.name name ≡ here → macro_named name (macros ++ m ∷ []) ≡ cond here (Some m.body) (macro_named name macros)
    named name here e = named_added macros m name ∙ ap (λ (b : Bool). cond b (Some m.body) (macro_named name macros)) e

-- ---- what the index finds

pub place_is : (index : BTreeMap (Vec ℕ Global) ℕ) (name : List ℕ) (found : Option ℕ) → found ≡ get_by (λ key. slice_cmp nat_cmp name key.items) index → place_for index name ≡ found
unfolding place_for
place_is index name found e = sym e

pub found_inside : (macros : List NamedMacro) (index : BTreeMap (Vec ℕ Global) ℕ) (name : List ℕ) (place : ℕ) → IsIndex macros index → place_for index name ≡ Some place → place < length macros
found_inside macros index name place p e = subst (λ found. IfSome found (λ k. k < length macros)) e (p.inside name)

pub found_body : (macros : List NamedMacro) (index : BTreeMap (Vec ℕ Global) ℕ) (name : List ℕ) (place : ℕ) (m : NamedMacro) → IsIndex macros index → place_for index name ≡ Some place → m ≡ get_or macros place m
    → Some m.body ≡ macro_named name macros
found_body macros index name place m p e here =
    sym (ap (option_map (λ (m : NamedMacro). m.body)) (slice_get_read macros (length macros) place m refl (found_inside macros index name place p e) here)) ∙ sym (ap (body_at macros) e) ∙ p.last name

pub found_none : (macros : List NamedMacro) (index : BTreeMap (Vec ℕ Global) ℕ) (name : List ℕ) → IsIndex macros index → place_for index name ≡ None → None ≡ macro_named name macros
found_none macros index name p e = sym (ap (body_at macros) e) ∙ p.last name

-- what is said of a result that is known
pub where_ok : {A B P : Type 0} (r : Result A B) → false ≡ is_err r → OnOk r P → P
where_ok (Ok a) e p = p
where_ok (Err b) e p = absurd cc

pub where_err : {A B P : Type 0} (r : Result A B) → true ≡ is_err r → OnErr r P → P
where_err (Ok a) e p = absurd cc
where_err (Err b) e p = p

-- the list without the item that was added last
pub without_last : {X : Type 0} (xs ys zs : List X) (m : X) (n : ℕ) → zs ≡ take (n - 1) ys → n ≡ length ys → ys ≡ xs ++ m ∷ [] → zs ≡ xs
without_last xs ys zs m n e l a =
    let k : n - 1 ≡ length xs = omega (arith, l, ap length a, length_push xs m) in
    e ∙ ap (λ i. take i ys) k ∙ ap (take (length xs)) a ∙ take-append_seam xs (m ∷ [])
