-- What is read of the files, step by step.
use Rattle.std.proofs.Common.{◌≡◌, ◌⊎◌, ℕ, ◌+◌, ◌≤◌, List, [], length, Option, Some, None, Result, Ok, Err, Bool, true, false, cond, Vec, Global, inl, inr, refl, sym, ap, ◌∙◌, subst, rules, arith}
use Rattle.std.specs.Prelude.{nat_lt, IsNone}
use Rattle.std.specs.Str.{bytes_eq}
use Rattle.board_base.specs.declared.places.Role.{Role}
use Rattle.board_base.specs.declared.places.Role.TheVariants as roles
use Rattle.board_base.specs.Binds.{◌>>=◌}
use Rattle.board_base.specs.Counts.{Rose, RoseBy}
use Rattle.board_base.specs.Files.{Files}
use Rattle.board_base.specs.Shelf.{ShelfState, OnlyReads}
use Rattle.endings.specs.declared.status.Status.{Status}
use Rattle.endings.specs.declared.status.Status.TheVariants.{Done, Usage, Job, Gerber, Drill, Outline, TooLong, Limit, ReadFault, WriteFault, Ngc, Watch, Cell, Memory}
use Rattle.endings.specs.Limits.{most_bytes}
use Rattle.endings.specs.Lines.{role_name}
use Rattle.endings.specs.Reads.{Reading, held_in, MayRead, without, accepted_bytes, input}
use Rattle.endings.specs.Answers.{IfTold, ToldAnd, IsInput}
use Rattle.endings.specs.Works.{Gives}
use Rattle.endings.proofs.TellLaws.{rose_before}
use Rattle.endings.proofs.ReadingLaws.{some_reading, short_accepted, long_refused, input_given, long_given, long_taken}
use Rattle.simulation.specs.declared.sources.Sources.{Sources as SourcesStruct}
use Rattle.simulation.specs.Words.{Named}
use Rattle.simulation.specs.Simulated.{Sources, probe_bytes, IsProbeBytes, sources_of, sources_in}

-- ---- inputs

-- an input that is read behind another one
input_later : (role : Role) (name : List ℕ) (before mid now : ShelfState) (r : Result (Vec ℕ Global) Status) → OnlyReads before mid → IsInput role name mid now r → IsInput role name before now r
input_later role name before mid now (Ok bytes) keeps h = (h.0, subst (λ o. IfTold o (λ files. input role name (held_in files) ≡ Ok bytes.items)) keeps.files h.1)
input_later role name before mid now (Err Memory) keeps h = tt
input_later role name before mid now (Err (ReadFault r)) keeps h = (h.0, by_cause h.1)
  where
    by_cause : Rose mid.read_faults now.read_faults ⊎ ToldAnd mid.files (λ files. input role name (held_in files) ≡ Err (ReadFault role))
        → Rose before.read_faults now.read_faults ⊎ ToldAnd before.files (λ files. input role name (held_in files) ≡ Err (ReadFault role))
    by_cause (inl rose) = inl (rose_before 1 before.read_faults mid.read_faults now.read_faults keeps.read_faults rose)
    by_cause (inr told) = inr (subst (λ o. ToldAnd o (λ files. input role name (held_in files) ≡ Err (ReadFault role))) keeps.files told)
input_later role name before mid now (Err (TooLong r)) keeps h = (h.0, by_cause h.1)
  where
    by_cause : (IsNone mid.files × RoseBy (most_bytes + 1) mid.taken now.taken) ⊎ ToldAnd mid.files (λ files. input role name (held_in files) ≡ Err (TooLong role))
        → (IsNone before.files × RoseBy (most_bytes + 1) before.taken now.taken) ⊎ ToldAnd before.files (λ files. input role name (held_in files) ≡ Err (TooLong role))
    by_cause (inl untold) = inl (subst IsNone keeps.files untold.0, rose_before (most_bytes + 1) before.taken mid.taken now.taken keeps.taken untold.1)
    by_cause (inr told) = inr (subst (λ o. ToldAnd o (λ files. input role name (held_in files) ≡ Err (TooLong role))) keeps.files told)
input_later role name before mid now (Err Done) keeps h = absurd h
input_later role name before mid now (Err (Usage word)) keeps h = absurd h
input_later role name before mid now (Err (Job error)) keeps h = absurd h
input_later role name before mid now (Err (Gerber r error)) keeps h = absurd h
input_later role name before mid now (Err (Drill error)) keeps h = absurd h
input_later role name before mid now (Err (Outline error)) keeps h = absurd h
input_later role name before mid now (Err (Limit hit)) keeps h = absurd h
input_later role name before mid now (Err (WriteFault r)) keeps h = absurd h
input_later role name before mid now (Err (Ngc r fault line)) keeps h = absurd h
input_later role name before mid now (Err (Watch watcher at)) keeps h = absurd h
input_later role name before mid now (Err (Cell i j line)) keeps h = absurd h

-- ---- both files

-- reads that give these bytes to the program, and those to every other role
abbrev both : List ℕ → List ℕ → Reading
both program others = λ role name. Some (cond (bytes_eq (role_name role) (role_name roles.Ngc)) program others)

-- both files are held with these bytes
given_both : (o : Option Files) (p q program probes : List ℕ) → length program ≤ most_bytes → length probes ≤ most_bytes
    → IfTold o (λ files. input roles.Ngc p (held_in files) ≡ Ok program) → IfTold o (λ files. input roles.Probes q (held_in files) ≡ Ok probes)
    → (given : Reading) × MayRead o given × (input roles.Ngc p given ≡ Ok program) × (input roles.Probes q given ≡ Ok probes)
given_both None p q program probes few few_too told told_too = (both program probes, tt, short_accepted roles.Ngc program few, short_accepted roles.Probes probes few_too)
given_both (Some files) p q program probes few few_too told told_too = (held_in files, refl, told, told_too)

-- the program is held with these bytes, and the answers are too long
given_then_long : (o : Option Files) (p q program : List ℕ) (P : Type 0) → length program ≤ most_bytes → IfTold o (λ files. input roles.Ngc p (held_in files) ≡ Ok program)
    → ((IsNone o × P) ⊎ ToldAnd o (λ files. input roles.Probes q (held_in files) ≡ Err (TooLong roles.Probes)))
    → (given : Reading) × MayRead o given × (input roles.Ngc p given ≡ Ok program) × (input roles.Probes q given ≡ Err (TooLong roles.Probes))
given_then_long None p q program P few told long = (both program (long_refused roles.Probes).0, tt, short_accepted roles.Ngc program few, (long_refused roles.Probes).1)
given_then_long (Some files) p q program P few told (inl untold) = absurd (search (rules, untold.0))
given_then_long (Some files) p q program P few told (inr long) = (held_in files, refl, told, long)

-- what the steps give
program_refused : (p : List ℕ) (o : Option (List ℕ)) (given : Reading) (status : Status) → input roles.Ngc p given ≡ Err status → sources_in (record { program = p; probes = o }) given ≡ Err status
unfolding sources_in
program_refused p o given status e = ap (λ r. r >>= (λ program. probe_bytes o given >>= (λ probes. Ok (record { program = program; probes = probes })))) e

probes_next : (p : List ℕ) (o : Option (List ℕ)) (given : Reading) (program : List ℕ) → input roles.Ngc p given ≡ Ok program
    → sources_in (record { program = p; probes = o }) given ≡ (probe_bytes o given >>= (λ probes. Ok (record { program = program; probes = probes })))
unfolding sources_in
probes_next p o given program e = ap (λ r. r >>= (λ program. probe_bytes o given >>= (λ probes. Ok (record { program = program; probes = probes })))) e

probes_refused : (p q : List ℕ) (given : Reading) (program : List ℕ) (status : Status) → input roles.Ngc p given ≡ Ok program → input roles.Probes q given ≡ Err status
    → sources_in (record { program = p; probes = Some q }) given ≡ Err status
probes_refused p q given program status e f = probes_next p (Some q) given program e ∙ ap (λ r. r >>= (λ probes. Ok (record { program = program; probes = probes }))) f

both_read : (p : List ℕ) (o : Option (List ℕ)) (given : Reading) (program probes : List ℕ) → input roles.Ngc p given ≡ Ok program → probe_bytes o given ≡ Ok probes
    → sources_in (record { program = p; probes = o }) given ≡ Ok (record { program = program; probes = probes })
both_read p o given program probes e f = probes_next p o given program e ∙ ap (λ r. r >>= (λ probes. Ok (record { program = program; probes = probes }))) f

-- ---- the ways out of the reading

missing_program : (o : Option Files) (p : List ℕ) (q : Option (List ℕ)) → ToldAnd o (λ files. input roles.Ngc p (held_in files) ≡ Err (ReadFault roles.Ngc))
    → ToldAnd o (λ files. sources_in (record { program = p; probes = q }) (held_in files) ≡ Err (ReadFault roles.Ngc))
missing_program None p q told = absurd told
missing_program (Some files) p q told = program_refused p q (held_in files) (ReadFault roles.Ngc) told

-- the program's file is refused
pub refuses_program : (p : List ℕ) (o : Option (List ℕ)) (status : Status) (before now : ShelfState) → IsInput roles.Ngc p before now (Err status)
    → Gives sources_of before now (sources_in (record { program = p; probes = o })) (Err status)
refuses_program p o Done before now r = absurd r
refuses_program p o (Usage word) before now r = absurd r
refuses_program p o (Job error) before now r = absurd r
refuses_program p o (Gerber role error) before now r = absurd r
refuses_program p o (Drill error) before now r = absurd r
refuses_program p o (Outline error) before now r = absurd r
refuses_program p o (Limit hit) before now r = absurd r
refuses_program p o (WriteFault role) before now r = absurd r
refuses_program p o (Ngc role fault line) before now r = absurd r
refuses_program p o (Watch watcher at) before now r = absurd r
refuses_program p o (Cell i j line) before now r = absurd r
refuses_program p o Memory before now r = tt
refuses_program p o (ReadFault role) before now r = subst (λ role. Gives sources_of before now (sources_in (record { program = p; probes = o })) (Err (ReadFault role))) (sym r.0) (by_cause r.1)
  where
    by_cause : Rose before.read_faults now.read_faults ⊎ ToldAnd before.files (λ files. input roles.Ngc p (held_in files) ≡ Err (ReadFault roles.Ngc))
        → Gives sources_of before now (sources_in (record { program = p; probes = o })) (Err (ReadFault roles.Ngc))
    by_cause (inl rose) = inl (rose, (some_reading before.files).0, (some_reading before.files).1, program_refused p o (without roles.Ngc (some_reading before.files).0) (ReadFault roles.Ngc) refl)
    by_cause (inr told) = inr (missing_program before.files p o told)
refuses_program p o (TooLong role) before now r = subst (λ role. Gives sources_of before now (sources_in (record { program = p; probes = o })) (Err (TooLong role))) (sym r.0) long
  where
    reading : (given : Reading) × MayRead before.files given × (input roles.Ngc p given ≡ Err (TooLong roles.Ngc))
    reading = long_given before.files roles.Ngc p (RoseBy (most_bytes + 1) before.taken now.taken) r.1

    long : Gives sources_of before now (sources_in (record { program = p; probes = o })) (Err (TooLong roles.Ngc))
    long = ((reading.0, reading.1, program_refused p o reading.0 (TooLong roles.Ngc) reading.2), long_taken before.files roles.Ngc p (RoseBy (most_bytes + 1) before.taken now.taken) r.1)

missing_probes : (o : Option Files) (p q program : List ℕ) → IfTold o (λ files. input roles.Ngc p (held_in files) ≡ Ok program) → ToldAnd o (λ files. input roles.Probes q (held_in files) ≡ Err (ReadFault roles.Probes))
    → ToldAnd o (λ files. sources_in (record { program = p; probes = Some q }) (held_in files) ≡ Err (ReadFault roles.Probes))
missing_probes None p q program read told = absurd told
missing_probes (Some files) p q program read told = probes_refused p q (held_in files) program (ReadFault roles.Probes) read told

-- the file with the answers is refused
probes_out : (p q program : List ℕ) (status : Status) (before now : ShelfState) → length program ≤ most_bytes → IfTold before.files (λ files. input roles.Ngc p (held_in files) ≡ Ok program)
    → IsInput roles.Probes q before now (Err status) → Gives sources_of before now (sources_in (record { program = p; probes = Some q })) (Err status)
probes_out p q program Done before now few read r = absurd r
probes_out p q program (Usage word) before now few read r = absurd r
probes_out p q program (Job error) before now few read r = absurd r
probes_out p q program (Gerber role error) before now few read r = absurd r
probes_out p q program (Drill error) before now few read r = absurd r
probes_out p q program (Outline error) before now few read r = absurd r
probes_out p q program (Limit hit) before now few read r = absurd r
probes_out p q program (WriteFault role) before now few read r = absurd r
probes_out p q program (Ngc role fault line) before now few read r = absurd r
probes_out p q program (Watch watcher at) before now few read r = absurd r
probes_out p q program (Cell i j line) before now few read r = absurd r
probes_out p q program Memory before now few read r = tt
probes_out p q program (ReadFault role) before now few read r = subst (λ role. Gives sources_of before now (sources_in (record { program = p; probes = Some q })) (Err (ReadFault role))) (sym r.0) (by_cause r.1)
  where
    reading : (given : Reading) × MayRead before.files given × (input roles.Ngc p given ≡ Ok program)
    reading = input_given before.files roles.Ngc p program few read

    by_cause : Rose before.read_faults now.read_faults ⊎ ToldAnd before.files (λ files. input roles.Probes q (held_in files) ≡ Err (ReadFault roles.Probes))
        → Gives sources_of before now (sources_in (record { program = p; probes = Some q })) (Err (ReadFault roles.Probes))
    by_cause (inl rose) = inl (rose, reading.0, reading.1, probes_refused p q (without roles.Probes reading.0) program (ReadFault roles.Probes) reading.2 refl)
    by_cause (inr told) = inr (missing_probes before.files p q program read told)
probes_out p q program (TooLong role) before now few read r = subst (λ role. Gives sources_of before now (sources_in (record { program = p; probes = Some q })) (Err (TooLong role))) (sym r.0) long
  where
    reading : (given : Reading) × MayRead before.files given × (input roles.Ngc p given ≡ Ok program) × (input roles.Probes q given ≡ Err (TooLong roles.Probes))
    reading = given_then_long before.files p q program (RoseBy (most_bytes + 1) before.taken now.taken) few read r.1

    long : Gives sources_of before now (sources_in (record { program = p; probes = Some q })) (Err (TooLong roles.Probes))
    long = (
      (reading.0, reading.1, probes_refused p q reading.0 program (TooLong roles.Probes) reading.2 reading.3),
      long_taken before.files roles.Probes q (RoseBy (most_bytes + 1) before.taken now.taken) r.1,
    )

pub refuses_probes : (p : List ℕ) (o : Option (List ℕ)) (program : Vec ℕ Global) (status : Status) (before mid now : ShelfState) → OnlyReads before mid → IsInput roles.Ngc p before mid (Ok program)
    → IsProbeBytes o mid now (Err status) → Gives sources_of before now (sources_in (record { program = p; probes = o })) (Err status)
refuses_probes p None program status before mid now keeps read r = absurd r
refuses_probes p (Some q) program status before mid now keeps read r = probes_out p q program.items status before now read.0 read.1 (input_later roles.Probes q before mid now (Err status) keeps r)

-- both files are read
pub gives_sources : (p : List ℕ) (o : Option (List ℕ)) (s : SourcesStruct) (before mid now : ShelfState) → OnlyReads before mid → IsInput roles.Ngc p before mid (Ok s.program) → IsProbeBytes o mid now (Ok s.probes)
    → Gives sources_of before now (sources_in (record { program = p; probes = o })) (Ok s)
gives_sources p None s before mid now keeps read r =
    let reading = input_given before.files roles.Ngc p s.program.items read.0 read.1 in
    (reading.0, reading.1, both_read p None reading.0 s.program.items s.probes.items reading.2 (ap Ok (sym r)))
gives_sources p (Some q) s before mid now keeps read r =
    let later = input_later roles.Probes q before mid now (Ok s.probes) keeps r in
    let reading = given_both before.files p q s.program.items s.probes.items read.0 later.0 read.1 later.1 in
    (reading.0, reading.1, both_read p (Some q) reading.0 s.program.items s.probes.items reading.2 reading.3)

-- what is read of the answers is short
pub short_probes : (o : Option (List ℕ)) (probes : Vec ℕ Global) (before now : ShelfState) → IsProbeBytes o before now (Ok probes) → length probes.items ≤ most_bytes
short_probes None probes before now r = rw r (omega arith)
short_probes (Some q) probes before now r = r.0

-- what both files give
abbrev made : List ℕ → List ℕ → Result Sources Status
made program probes = Ok (record { program = program; probes = probes })

-- a refusal of the reading is none of the words
pub sources_not_usage : (names : Named) (given : Reading) (word : ℕ) → sources_in names given ≡ Err (Usage word) → ⊥
unfolding sources_in
sources_not_usage names given word e = by_program (given roles.Ngc names.program) e
  where
    accepted_not : {B : Type 0} (role : Role) (o : Option (List ℕ)) (f : List ℕ → Result B Status) → ((bytes : List ℕ) → f bytes ≡ Err (Usage word) → ⊥) → (accepted_bytes role o >>= f) ≡ Err (Usage word) → ⊥
    accepted_not role None f next e = cc
    accepted_not role (Some bytes) f next e = by_long (nat_lt most_bytes (length bytes)) e
      where
        by_long : (b : Bool) → (cond b (Err (TooLong role)) (Ok bytes) >>= f) ≡ Err (Usage word) → ⊥
        by_long true e = cc
        by_long false e = next bytes e

    made_not : (program probes : List ℕ) → made program probes ≡ Err (Usage word) → ⊥
    made_not program probes e = cc

    by_probes : (o : Option (List ℕ)) (program : List ℕ) → (probe_bytes o given >>= made program) ≡ Err (Usage word) → ⊥
    by_probes None program e = made_not program [] e
    by_probes (Some q) program e = accepted_not roles.Probes (given roles.Probes q) (made program) (made_not program) e

    by_program : (o : Option (List ℕ)) → (accepted_bytes roles.Ngc o >>= (λ program. probe_bytes names.probes given >>= made program)) ≡ Err (Usage word) → ⊥
    by_program o e = accepted_not roles.Ngc o (λ program. probe_bytes names.probes given >>= made program) (by_probes names.probes) e
