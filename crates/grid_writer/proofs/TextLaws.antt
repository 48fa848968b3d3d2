-- The text of several lines.
use Rattle.std.proofs.Common.{◌≡◌, refl, ℕ, ℤ, List, [], ◌∷◌, ◌++◌, ap, sym, ◌∙◌, append_assoc}
use Rattle.std.specs.Prelude.{Option, Some, None}
use Rattle.std.specs.List.{All, flat_map}
use Rattle.std.proofs.lemmas.List.{append-nil}
use Rattle.rs274_sim.specs.declared.line.Line.{Line}
use Rattle.mill_program.specs.declared.cuts.ToolRun.{ToolRun}
use Rattle.mill_program.specs.declared.cuts.Program.{Program}
use Rattle.mill_program.specs.declared.probes.ProbeGrid.{ProbeGrid}
use Rattle.mill_program.specs.Conditions.{IsToolRun}
use Rattle.mill_program.specs.Lines.{words, mode_line, height_line, stop_line, tool_line, spindle_line, wait_line, foot_lines}
use Rattle.mill_program.specs.GridLines.{probing_lines, cut_over, run_over, lines_over}
use Rattle.grid_writer.specs.Conditions.{IsSurface, IsOver, IsWritable}
use Rattle.grid_writer.specs.Spelling.{line_bytes, text_over}

-- lines behind lines
pub text_append : (xs ys : List Line) → text_over (xs ++ ys) ≡ text_over xs ++ text_over ys
text_append [] ys = refl
text_append (x ∷ xs) ys = ap (λ t. line_bytes x ++ t) (text_append xs ys) ∙ sym (append_assoc (line_bytes x) (text_over xs) (text_over ys))

-- what several things give, one behind the other
pub text_flat : {A : Type 0} (f : A → List Line) (xs : List A) → text_over (flat_map f xs) ≡ flat_map (λ x. text_over (f x)) xs
text_flat f [] = refl
text_flat f (x ∷ xs) = text_append (f x) (flat_map f xs) ∙ ap (λ t. text_over (f x) ++ t) (text_flat f xs)

-- three and four lines behind other bytes
pub three_lines : (before x y z : List ℕ) → ((before ++ x) ++ y) ++ z ≡ before ++ (x ++ (y ++ (z ++ [])))
three_lines before x y z =
    append_assoc (before ++ x) y z ∙ append_assoc before x (y ++ z) ∙ ap (λ t. before ++ (x ++ (y ++ t))) (sym (append-nil z))

pub four_lines : (before x y z w : List ℕ) → (((before ++ x) ++ y) ++ z) ++ w ≡ before ++ (x ++ (y ++ (z ++ (w ++ []))))
four_lines before x y z w = three_lines (before ++ x) y z w ∙ append_assoc before x (y ++ (z ++ (w ++ [])))

-- two lines, others and one more behind other bytes
pub cut_text : (before x y : List ℕ) (steps : List Line) (up : Line)
    → (((before ++ x) ++ y) ++ text_over steps) ++ line_bytes up ≡ before ++ (x ++ (y ++ text_over (steps ++ up ∷ [])))
cut_text before x y steps up =
    append_assoc ((before ++ x) ++ y) (text_over steps) (line_bytes up)
    ∙ append_assoc (before ++ x) y (text_over steps ++ line_bytes up)
    ∙ append_assoc before x (y ++ (text_over steps ++ line_bytes up))
    ∙ ap (λ t. before ++ (x ++ (y ++ t))) (sym (text_append steps (up ∷ []) ∙ ap (λ t. text_over steps ++ t) (append-nil (line_bytes up))))

-- the change of the tool, the probes, the start and the cuts
pub run_text : (grid : Option ProbeGrid) (safe change : ℤ) (run : ToolRun) (before : List ℕ)
    → (((before ++ text_over (words (height_line change) ∷ words stop_line ∷ words (tool_line run) ∷ [])) ++ text_over (probing_lines safe grid))
    ++ text_over (words (spindle_line run) ∷ words wait_line ∷ words (height_line safe) ∷ [])) ++ flat_map (λ cut. text_over (cut_over grid safe run cut)) run.cuts
    ≡ before ++ text_over (run_over grid safe change run)
run_text grid safe change run before =
    let head = words (height_line change) ∷ words stop_line ∷ words (tool_line run) ∷ [] in
    let start = words (spindle_line run) ∷ words wait_line ∷ words (height_line safe) ∷ [] in
    let cuts = flat_map (cut_over grid safe run) run.cuts in
    ap (λ t. (((before ++ text_over head) ++ text_over (probing_lines safe grid)) ++ text_over start) ++ t) (sym (text_flat (cut_over grid safe run) run.cuts))
    ∙ append_assoc ((before ++ text_over head) ++ text_over (probing_lines safe grid)) (text_over start) (text_over cuts)
    ∙ append_assoc (before ++ text_over head) (text_over (probing_lines safe grid)) (text_over start ++ text_over cuts)
    ∙ append_assoc before (text_over head) (text_over (probing_lines safe grid) ++ (text_over start ++ text_over cuts))
    ∙ ap (λ t. before ++ (text_over head ++ (text_over (probing_lines safe grid) ++ t))) (sym (text_append start cuts))
    ∙ ap (λ t. before ++ (text_over head ++ t)) (sym (text_append (probing_lines safe grid) (start ++ cuts)))
    ∙ ap (λ t. before ++ t) (sym (text_append head (probing_lines safe grid ++ (start ++ cuts))))

-- the first line, the tool runs and the last lines
pub program_text : (p : Program)
    → (line_bytes (words mode_line) ++ flat_map (λ run. text_over (run_over p.grid p.safe p.change run)) p.runs) ++ text_over (foot_lines p.change) ≡ text_over (lines_over p)
unfolding lines_over
program_text p =
    let runs = flat_map (run_over p.grid p.safe p.change) p.runs in
    ap (λ t. (line_bytes (words mode_line) ++ t) ++ text_over (foot_lines p.change)) (sym (text_flat (run_over p.grid p.safe p.change) p.runs))
    ∙ append_assoc (line_bytes (words mode_line)) (text_over runs) (text_over (foot_lines p.change))
    ∙ ap (λ t. line_bytes (words mode_line) ++ t) (sym (text_append runs (foot_lines p.change)))

-- ---- conditions

over_surface : (grid : Option ProbeGrid) (p : Program) → IsOver grid p → IsSurface grid
over_surface None p h = tt
over_surface (Some g) p h = h.1

over_runs : (grid : Option ProbeGrid) (p : Program) → IsOver grid p → All IsToolRun p.runs
over_runs None p h = h.runs
over_runs (Some g) p h = h.0.runs

-- a program that is written has its grid in reach
pub surface_of_written : (p : Program) → IsWritable p → IsSurface p.grid
surface_of_written p h = over_surface p.grid p h

-- and tool runs
pub runs_of_written : (p : Program) → IsWritable p → All IsToolRun p.runs
runs_of_written p h = over_runs p.grid p h
