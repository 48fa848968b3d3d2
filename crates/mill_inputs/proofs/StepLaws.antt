-- Steps that read, one after another: what they give and refuse comes of one reading.
use Rattle.std.proofs.Common.{◌≡◌, ℕ, ◌+◌, List, Option, Some, None, Result, Ok, Err, Bool, true, false, cond, inl, inr, refl, sym, ap, ◌∙◌, subst, arith}
use Rattle.std.specs.Prelude.{IsNone, IfErr}
use Rattle.std.specs.Str.{bytes_eq}
use Rattle.board_base.specs.declared.places.Role.{Role}
use Rattle.board_base.specs.Files.{Files}
use Rattle.board_base.specs.Shelf.{ShelfState, OnlyReads}
use Rattle.board_base.specs.Binds.{◌>>=◌}
use Rattle.endings.specs.declared.status.Status.{Status}
use Rattle.endings.specs.declared.status.Status.TheVariants.{Done, Usage, Job, Gerber, Drill, Outline, TooLong, Limit, ReadFault, WriteFault, Ngc, Watch, Cell, Memory}
use Rattle.endings.specs.Limits.{most_bytes}
use Rattle.endings.specs.Lines.{role_name}
use Rattle.endings.specs.Reads.{Reading, held_in, MayRead, without}
use Rattle.endings.specs.Answers.{ToldAnd, MakesOf}
use Rattle.endings.specs.Works.{Refuses}
use Rattle.endings.proofs.TellLaws.{rose_before}
use Rattle.endings.proofs.RunLaws.{refuses_weaker}

-- ---- from what one step refuses to what all do

-- Whatever R says of some reads, Q says of some reads too; also where the input of a role isn't there.
pub record Carries (o : Option Files) (R Q : Reading → Status → Type 0) : Type 0 where
  pub answer : (given : Reading) → MayRead o given → (s : Status) → R given s → (g : Reading) × MayRead o g × Q g s
  pub fault : (given : Reading) → MayRead o given → (role : Role) → R (without role given) (ReadFault role) → (g : Reading) × MayRead o g × Q (without role g) (ReadFault role)

-- what holds of all reads alike
pub carries_all : (o : Option Files) (R Q : Reading → Status → Type 0) → ((given : Reading) (s : Status) → R given s → Q given s) → Carries o R Q
carries_all o R Q all = record {
  answer = λ given may s r. (given, may, all given s r);
  fault = λ given may role r. (given, may, all (without role given) (ReadFault role) r);
}

carried : (o later : Option Files) (P Q : Reading → Type 0) → later ≡ o → ((given : Reading) → MayRead o given → P given → (g : Reading) × MayRead o g × Q g)
    → (given : Reading) × MayRead later given × P given → (g : Reading) × MayRead o g × Q g
carried o later P Q same carry r = carry r.0 (subst (λ o. MayRead o r.0) same r.1) r.2

told_carried : (o : Option Files) (P Q : Reading → Type 0) → ((given : Reading) → MayRead o given → P given → (g : Reading) × MayRead o g × Q g) → ToldAnd o (λ files. P (held_in files)) → ToldAnd o (λ files. Q (held_in files))
told_carried None P Q carry told = absurd told
told_carried (Some files) P Q carry told = let w = carry (held_in files) refl told in subst Q w.1 w.2

pub refuses_onto : (R Q : Reading → Status → Type 0) (status : Status) (a b c : ShelfState) → OnlyReads a b → Carries a.files R Q → Refuses R status b c → Refuses Q status a c
refuses_onto R Q Done a b c keeps carries r = absurd r
refuses_onto R Q (WriteFault role) a b c keeps carries r = absurd r
refuses_onto R Q Memory a b c keeps carries r = tt
refuses_onto R Q (Usage word) a b c keeps carries r = carried a.files b.files (λ g. R g (Usage word)) (λ g. Q g (Usage word)) keeps.files (λ g may. carries.answer g may (Usage word)) r
refuses_onto R Q (Job error) a b c keeps carries r = carried a.files b.files (λ g. R g (Job error)) (λ g. Q g (Job error)) keeps.files (λ g may. carries.answer g may (Job error)) r
refuses_onto R Q (Gerber role error) a b c keeps carries r =
    carried a.files b.files (λ g. R g (Gerber role error)) (λ g. Q g (Gerber role error)) keeps.files (λ g may. carries.answer g may (Gerber role error)) r
refuses_onto R Q (Drill error) a b c keeps carries r = carried a.files b.files (λ g. R g (Drill error)) (λ g. Q g (Drill error)) keeps.files (λ g may. carries.answer g may (Drill error)) r
refuses_onto R Q (Outline error) a b c keeps carries r = carried a.files b.files (λ g. R g (Outline error)) (λ g. Q g (Outline error)) keeps.files (λ g may. carries.answer g may (Outline error)) r
refuses_onto R Q (Ngc role fault line) a b c keeps carries r =
    carried a.files b.files (λ g. R g (Ngc role fault line)) (λ g. Q g (Ngc role fault line)) keeps.files (λ g may. carries.answer g may (Ngc role fault line)) r
refuses_onto R Q (Watch watcher at) a b c keeps carries r = carried a.files b.files (λ g. R g (Watch watcher at)) (λ g. Q g (Watch watcher at)) keeps.files (λ g may. carries.answer g may (Watch watcher at)) r
refuses_onto R Q (Cell i j line) a b c keeps carries r = carried a.files b.files (λ g. R g (Cell i j line)) (λ g. Q g (Cell i j line)) keeps.files (λ g may. carries.answer g may (Cell i j line)) r
refuses_onto R Q (Limit hit) a b c keeps carries r = carried a.files b.files (λ g. R g (Limit hit)) (λ g. Q g (Limit hit)) keeps.files (λ g may. carries.answer g may (Limit hit)) r
refuses_onto R Q (TooLong role) a b c keeps carries r = (
  carried a.files b.files (λ g. R g (TooLong role)) (λ g. Q g (TooLong role)) keeps.files (λ g may. carries.answer g may (TooLong role)) r.0,
  λ none. rose_before (most_bytes + 1) a.taken b.taken c.taken keeps.taken (r.1 (subst (λ o. IsNone o) (sym keeps.files) none)),
)
refuses_onto R Q (ReadFault role) a b c keeps carries (inl r) =
    let w = carries.fault r.1 (subst (λ o. MayRead o r.1) keeps.files r.2) role r.3 in
    inl (rose_before 1 a.read_faults b.read_faults c.read_faults keeps.read_faults r.0, w.0, w.1, w.2)
refuses_onto R Q (ReadFault role) a b c keeps carries (inr told) =
    inr (told_carried a.files (λ g. R g (ReadFault role)) (λ g. Q g (ReadFault role)) (λ g may. carries.answer g may (ReadFault role)) (subst (λ o. ToldAnd o (λ files. R (held_in files) (ReadFault role))) keeps.files told))

-- ---- two steps that read different inputs

-- The first step reads the inputs of these roles alone, the second those of others alone.
pub record Apart {X Y : Type 0} (mine : Role → Bool) (first : Reading → Result X Status) (second : Reading → Result Y Status) : Type 0 where
  pub own : (g h : Reading) → ((role : Role) → mine role ≡ true → (name : List ℕ) → g role name ≡ h role name) → first g ≡ first h
  pub others : (g h : Reading) → ((role : Role) → mine role ≡ false → (name : List ℕ) → g role name ≡ h role name) → second g ≡ second h
  -- a fault of the second isn't one of the first
  pub fault : (g : Reading) (role : Role) → second (without role g) ≡ Err (ReadFault role) → first (without role g) ≡ first g

-- what the one reading gives to these roles, and the other to the others
abbrev joined : (Role → Bool) → Reading → Reading → Reading
joined mine g h = λ role name. cond (mine role) (g role name) (h role name)

joined_own : (mine : Role → Bool) (g h : Reading) (role : Role) → mine role ≡ true → (name : List ℕ) → joined mine g h role name ≡ g role name
joined_own mine g h role is name = ap (λ b. cond b (g role name) (h role name)) is

joined_others : (mine : Role → Bool) (g h : Reading) (role : Role) → mine role ≡ false → (name : List ℕ) → joined mine g h role name ≡ h role name
joined_others mine g h role is name = ap (λ b. cond b (g role name) (h role name)) is

same_without : (role : Role) (g h : Reading) (r : Role) (name : List ℕ) → g r name ≡ h r name → without role g r name ≡ without role h r name
same_without role g h r name e = ap (λ o. cond (bytes_eq (role_name r) (role_name role)) None o) e

-- one reading for both steps
pub record Joins {X Y : Type 0} (o : Option Files) (first : Reading → Result X Status) (x : X) (second : Reading → Result Y Status) (h : Reading) : Type 0 where
  pub given : Reading
  pub may : MayRead o given
  pub gives : first given ≡ Ok x
  pub same : second given ≡ second h
  pub same_without : (role : Role) → second (without role given) ≡ second (without role h)

pub joins : {X Y : Type 0} (o : Option Files) (mine : Role → Bool) (first : Reading → Result X Status) (x : X) (second : Reading → Result Y Status) → Apart mine first second
    → (g : Reading) → MayRead o g → first g ≡ Ok x → (h : Reading) → MayRead o h → Joins o first x second h
joins None mine first x second apart g may_g e h may_h = record {
  given = joined mine g h;
  may = tt;
  gives = apart.own (joined mine g h) g (joined_own mine g h) ∙ e;
  same = apart.others (joined mine g h) h (joined_others mine g h);
  same_without = λ role. apart.others (without role (joined mine g h)) (without role h)
      (λ r is name. same_without role (joined mine g h) h r name (joined_others mine g h r is name));
}
joins (Some files) mine first x second apart g may_g e h may_h = record {
  given = h;
  may = may_h;
  gives = subst (λ k. first k ≡ Ok x) (may_g ∙ sym may_h) e;
  same = refl;
  same_without = λ role. refl;
}

-- A refusal of the second step, behind a first one that gave something.
pub carries_second : {X Y : Type 0} (o : Option Files) (mine : Role → Bool) (first : Reading → Result X Status) (x : X) (second : Reading → Result Y Status) → Apart mine first second
    → (given : (g : Reading) × MayRead o g × (first g ≡ Ok x)) → (Q : Reading → Status → Type 0) → ((h : Reading) (s : Status) → first h ≡ Ok x → second h ≡ Err s → Q h s)
    → Carries o (λ h s. second h ≡ Err s) Q
carries_second o mine first x second apart given Q next = record {
  answer = λ h may s e.
      let j = joins o mine first x second apart given.0 given.1 given.2 h may in
      (j.given, j.may, next j.given s j.gives (j.same ∙ e));
  fault = λ h may role e.
      let j = joins o mine first x second apart given.0 given.1 given.2 h may in
      (j.given, j.may, next (without role j.given) (ReadFault role) (apart.fault j.given role (j.same_without role ∙ e) ∙ j.gives) (j.same_without role ∙ e));
}

-- reads alone lead over several states
pub reads_on : (a b c : ShelfState) → OnlyReads a b → OnlyReads b c → OnlyReads a c
reads_on a b c h k = record {
  files = k.files ∙ h.files;
  write_faults = k.write_faults ∙ h.write_faults;
  writes = k.writes ∙ h.writes;
  read_faults = omega (arith, h.read_faults, k.read_faults);
  taken = omega (arith, h.taken, k.taken);
}

-- reads of an earlier state
pub from_earlier : (a b : ShelfState) (P : Reading → Type 0) → OnlyReads a b → (given : Reading) × MayRead b.files given × P given → (given : Reading) × MayRead a.files given × P given
from_earlier a b P keeps r = (r.0, subst (λ o. MayRead o r.0) keeps.files r.1, r.2)

-- ---- two steps as one

-- what two steps give makes one
abbrev pub both : {X Y Z : Type 0} → (Reading → Result X Status) → (Reading → Result Y Status) → (X → Y → Z) → Reading → Result Z Status
both first second make given = first given >>= (λ x. second given >>= (λ y. Ok (make x y)))

first_fails : {X Y Z : Type 0} (first : Reading → Result X Status) (second : Reading → Result Y Status) (make : X → Y → Z) (given : Reading) (s : Status) → first given ≡ Err s → both first second make given ≡ Err s
first_fails first second make given s e = rw e refl

second_fails : {X Y Z : Type 0} (first : Reading → Result X Status) (second : Reading → Result Y Status) (make : X → Y → Z) (x : X) (given : Reading) (s : Status) → first given ≡ Ok x → second given ≡ Err s
    → both first second make given ≡ Err s
second_fails first second make x given s e f = rw (e, f) refl

both_give : {X Y Z : Type 0} (first : Reading → Result X Status) (second : Reading → Result Y Status) (make : X → Y → Z) (x : X) (y : Y) (given : Reading) → first given ≡ Ok x → second given ≡ Ok y
    → both first second make given ≡ Ok (make x y)
both_give first second make x y given e f = rw (e, f) refl

-- the first is refused
pub refuses_first : {X Y Z : Type 0} (first : Reading → Result X Status) (second : Reading → Result Y Status) (make : X → Y → Z) (status : Status) (before now : ShelfState)
    → Refuses (λ given s. first given ≡ Err s) status before now → Refuses (λ given s. both first second make given ≡ Err s) status before now
refuses_first first second make status before now r =
    refuses_weaker (λ given s. first given ≡ Err s) (λ given s. both first second make given ≡ Err s) status before now (first_fails first second make) r

-- the second is refused, behind a first that gave something
pub refuses_second : {X Y Z : Type 0} (mine : Role → Bool) (first : Reading → Result X Status) (x : X) (second : Reading → Result Y Status) (make : X → Y → Z) → Apart mine first second
    → (status : Status) (before between now : ShelfState) → OnlyReads before between → (given : Reading) × MayRead before.files given × (first given ≡ Ok x)
    → Refuses (λ given s. second given ≡ Err s) status between now → Refuses (λ given s. both first second make given ≡ Err s) status before now
refuses_second mine first x second make apart status before between now keeps given r =
    refuses_onto (λ given s. second given ≡ Err s) (λ given s. both first second make given ≡ Err s) status before between now keeps
    (carries_second before.files mine first x second apart given (λ given s. both first second make given ≡ Err s) (second_fails first second make x)) r

-- both give something
pub gives_both : {X Y Z : Type 0} (mine : Role → Bool) (first : Reading → Result X Status) (x : X) (second : Reading → Result Y Status) (y : Y) (make : X → Y → Z) → Apart mine first second
    → (before between : ShelfState) → OnlyReads before between → (given : Reading) × MayRead before.files given × (first given ≡ Ok x) → (given : Reading) × MayRead between.files given × (second given ≡ Ok y)
    → (given : Reading) × MayRead before.files given × (both first second make given ≡ Ok (make x y))
gives_both mine first x second y make apart before between keeps g h =
    let later = from_earlier before between (λ given. second given ≡ Ok y) keeps h in
    let j = joins before.files mine first x second apart g.0 g.1 g.2 later.0 later.1 in
    (j.given, j.may, both_give first second make x y j.given j.gives (j.same ∙ later.2))

-- ---- steps that read nothing

-- a refusal of what was read
abbrev pub IsOfBytes : Status → Type 0
IsOfBytes (Job error) = Unit {0}
IsOfBytes (Gerber role error) = Unit {0}
IsOfBytes (Drill error) = Unit {0}
IsOfBytes (Limit hit) = Unit {0}
IsOfBytes Memory = Unit {0}
IsOfBytes status = ⊥

pub err_is : {A : Type 0} (P : Status → Type 0) (r : Result A Status) (s : Status) → IfErr r P → r ≡ Err s → P s
err_is P r s h e = subst (λ r. IfErr r P) e h

-- where the next step refuses
pub if_err_then : {A B : Type 0} (P : Status → Type 0) (r : Result A Status) (f : A → Result B Status) → IfErr r P → ((x : A) → IfErr (f x) P) → IfErr (r >>= f) P
if_err_then P (Ok x) f first next = next x
if_err_then P (Err s) f first next = first

-- a refusal that is made of what reads give, and is none of a read
pub made_refuses_as : {X Y : Type 0} (P : Status → Type 0) → ((role : Role) → P (ReadFault role) → ⊥) → ((role : Role) → P (TooLong role) → ⊥)
    → (view : X → Y) (made : Result Y Status) (status : Status) (before now : ShelfState) (Q : Reading → Status → Type 0) → IfErr made P
    → (given : Reading) → MayRead before.files given → ((s : Status) → made ≡ Err s → Q given s) → MakesOf view made (Err status) → Refuses Q status before now
made_refuses_as P read long view made Done before now Q of given may next bad = absurd bad
made_refuses_as P read long view made (WriteFault role) before now Q of given may next bad = absurd bad
made_refuses_as P read long view made Memory before now Q of given may next bad = tt
made_refuses_as P read long view made (Usage word) before now Q of given may next bad = (given, may, next (Usage word) bad)
made_refuses_as P read long view made (Job error) before now Q of given may next bad = (given, may, next (Job error) bad)
made_refuses_as P read long view made (Gerber role error) before now Q of given may next bad = (given, may, next (Gerber role error) bad)
made_refuses_as P read long view made (Drill error) before now Q of given may next bad = (given, may, next (Drill error) bad)
made_refuses_as P read long view made (Outline error) before now Q of given may next bad = (given, may, next (Outline error) bad)
made_refuses_as P read long view made (Ngc role fault line) before now Q of given may next bad = (given, may, next (Ngc role fault line) bad)
made_refuses_as P read long view made (Watch watcher at) before now Q of given may next bad = (given, may, next (Watch watcher at) bad)
made_refuses_as P read long view made (Cell i j line) before now Q of given may next bad = (given, may, next (Cell i j line) bad)
made_refuses_as P read long view made (Limit hit) before now Q of given may next bad = (given, may, next (Limit hit) bad)
made_refuses_as P read long view made (ReadFault role) before now Q of given may next bad = absurd (read role (err_is P made (ReadFault role) of bad))
made_refuses_as P read long view made (TooLong role) before now Q of given may next bad = absurd (long role (err_is P made (TooLong role) of bad))

-- the same of what was read by `mill`
pub made_refuses : {X Y : Type 0} (view : X → Y) (made : Result Y Status) (status : Status) (before now : ShelfState) (Q : Reading → Status → Type 0) → IfErr made IsOfBytes
    → (given : Reading) → MayRead before.files given → ((s : Status) → made ≡ Err s → Q given s) → MakesOf view made (Err status) → Refuses Q status before now
made_refuses view made status before now Q of given may next bad = made_refuses_as IsOfBytes (λ role h. h) (λ role h. h) view made status before now Q of given may next bad
