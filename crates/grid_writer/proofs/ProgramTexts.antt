-- The text of a program stands for its lines.
use Rattle.std.proofs.Common.{◌≡◌, refl, ℕ, zero, suc, ◌+◌, ◌-◌, ◌*◌, ◌/◌, ◌%◌, ◌<◌, ◌≤◌, ℤ, pos, neg_ℤ, ◌+ℤ◌, ◌*ℤ◌, ◌≤ℤ◌, List, [], ◌∷◌, ◌++◌, Bool, true, false, cond, length, ap, sym, arith}
use Rattle.std.specs.Prelude.{unsigned_abs, Option, Some, None}
use Rattle.std.specs.List.{AllByRecursion, flat_map, range_with_len}
use Rattle.std.proofs.Math.Nat.{mul-le-mul}
use Rattle.std.proofs.lemmas.Int.{ints, unsigned_abs-mul}
use Rattle.std.proofs.lemmas.List.Elements.{recursion_from_All}
use Rattle.board_base.specs.Places.{IsCoordinate}
use Rattle.rs274_sim.specs.declared.line.Word.{Word}
use Rattle.rs274_sim.specs.declared.line.Line.{Line}
use Rattle.rs274_sim.specs.declared.line.Value.{Num}
use Rattle.rs274_sim.specs.Machine.{F, G, M, P, S, T, X, Y, Z, one}
use Rattle.rs274_sim.specs.Spelling.{has_decimals}
use Rattle.rs274_sim.specs.Text.{StandsFor}
use Rattle.rs274_sim.proofs.ShortLines.{IsUpper}
use Rattle.mill_program.specs.declared.cuts.Corner.{Corner}
use Rattle.mill_program.specs.declared.cuts.ToolRun.{ToolRun}
use Rattle.mill_program.specs.declared.cuts.Program.{Program}
use Rattle.mill_program.specs.declared.probes.ProbeGrid.{ProbeGrid}
use Rattle.mill_program.specs.Conditions.{IsCorner, IsCut, IsFeed, IsToolRun}
use Rattle.mill_program.specs.Probes.{IsGrid, located, weights_of, probe_place}
use Rattle.mill_program.specs.Heights.{with_shares, height_word}
use Rattle.mill_program.specs.Lines.{code, length_word, feed_word, words, mode_line, height_line, stop_line, tool_line, spindle_line, wait_line, over_line, end_line, is_straight, foot_lines}
use Rattle.mill_program.specs.GridLines.{over_place, contact_line, probe_lines, probing_lines, plunge_over, stroke_over, steps_over, cut_over, run_over, lines_over}
use Rattle.mill_program.proofs.HeightLaws.{located_is, sum_small}
use Rattle.mill_program.proofs.ProbeLaws.{axis_across, axis_up, probes_within}
use Rattle.mill_program.proofs.WrittenLaws.{size_of, feed_size}
use Rattle.grid_writer.specs.Conditions.{IsPlaced, IsSurface, IsOver, IsWritable}
use Rattle.grid_writer.specs.Spelling.{text_over}
use Rattle.grid_writer.proofs.PartLaws.{feed_is, height_is}
use Rattle.grid_writer.proofs.ProbeLaws.{column_few, row_few, dx_small, dy_small}
use Rattle.grid_writer.proofs.TextLaws.{surface_of_written, runs_of_written}
use Rattle.grid_writer.proofs.HeightTexts.{IsWeight, IsProbe, height_text, spells_height, visible_height, short_height}
use Rattle.grid_writer.proofs.LineTexts.{IsShortWord, word_text_is, fixed_word, tenths_word, IsLineText, words_text, answer_is_text, stands_for_lines}

-- ---- words

code_word : (letter n : ℕ) → IsUpper letter → has_decimals (code letter n) ≡ false → n ≤ 1000000 → IsShortWord (code letter n) 10
code_word letter n up none few = tenths_word letter (n * 1000000000000) (n * 10) up none (omega arith) (omega arith)

g_word : (n : ℕ) → n ≤ 1000000 → IsShortWord (code G n) 10
g_word n few = code_word G n (record { low = omega arith; high = omega arith; not_n = omega arith }) refl few

m_word : (n : ℕ) → n ≤ 1000000 → IsShortWord (code M n) 10
m_word n few = code_word M n (record { low = omega arith; high = omega arith; not_n = omega arith }) refl few

t_word : (n : ℕ) → n ≤ 1000000 → IsShortWord (code T n) 10
t_word n few = code_word T n (record { low = omega arith; high = omega arith; not_n = omega arith }) refl few

s_word : (n : ℕ) → n ≤ 1000000 → IsShortWord (code S n) 10
s_word n few = code_word S n (record { low = omega arith; high = omega arith; not_n = omega arith }) refl few

second_word : IsShortWord (code P 1) 20
second_word = fixed_word P (pos (1 * one)) (pos 1000000) (record { low = omega arith; high = omega arith; not_n = omega arith }) refl refl (omega arith)

x_word : (z : ℤ) → unsigned_abs z ≤ 1000000000000 → IsShortWord (length_word X z) 20
x_word z small = fixed_word X (z *ℤ pos 1000000) z (record { low = omega arith; high = omega arith; not_n = omega arith }) refl refl small

y_word : (z : ℤ) → unsigned_abs z ≤ 1000000000000 → IsShortWord (length_word Y z) 20
y_word z small = fixed_word Y (z *ℤ pos 1000000) z (record { low = omega arith; high = omega arith; not_n = omega arith }) refl refl small

z_word : (z : ℤ) → unsigned_abs z ≤ 1000000000000 → IsShortWord (length_word Z z) 20
z_word z small = fixed_word Z (z *ℤ pos 1000000) z (record { low = omega arith; high = omega arith; not_n = omega arith }) refl refl small

f_word : (f : ℤ) → IsFeed f → IsShortWord (feed_word f) 20
f_word f h =
    fixed_word F (f *ℤ pos 1000000000) (f *ℤ pos 1000) (record { low = omega arith; high = omega arith; not_n = omega arith }) refl (sym (feed_is f)) (feed_size f h)

-- ---- heights

weight_is : (x y : ℕ) → x ≤ 1000 → y ≤ 1000 → IsWeight (pos (x * y))
weight_is x y h k = record { small = omega (arith, mul-le-mul {n₁ = x} {m₁ = y} {n₂ = 1000} {m₂ = 1000} h k) }

-- a height and the shares of four probes
levelled_word : (z w : ℤ) (ws : List ℤ) (k : ℕ) (ks : List ℕ) → unsigned_abs z ≤ 1000000000000 → AllByRecursion IsWeight (w ∷ ws) → AllByRecursion IsProbe (k ∷ ks) → length ws ≡ 3
    → IsShortWord (record { letter = Z; value = with_shares (Num (z *ℤ pos 1000000)) (w ∷ ws) (k ∷ ks) }) 126
levelled_word z w ws k ks small h j three =
    let short : length (height_text z (w ∷ ws) (k ∷ ks)) ≤ 125 = omega (arith, three, short_height z (w ∷ ws) (k ∷ ks) small h j) in
    word_text_is (record { letter = Z; value = with_shares (Num (z *ℤ pos 1000000)) (w ∷ ws) (k ∷ ks) }) (height_text z (w ∷ ws) (k ∷ ks)) 125
    (record { low = omega arith; high = omega arith; not_n = omega arith })
    (ap (λ t. Z ∷ t) (height_is true z w ws k ks)) (spells_height z w ws k ks small h j) (visible_height z (w ∷ ws) (k ∷ ks) small h j) short

grid_height : (g : ProbeGrid) (c : Corner) → IsGrid g → IsCoordinate c.z → IsShortWord (height_word (Some g) c) 126
unfolding weights_of
grid_height g c grid h =
    let across = located g.x0 g.dx g.nx c.x in
    let up = located g.y0 g.dy g.ny c.y in
    let a = located_is g.x0 g.dx g.nx c.x (axis_across g grid) in
    let u = located_is g.y0 g.dy g.ny c.y (axis_up g grid) in
    let east : ℕ = across.part in
    let north : ℕ = up.part in
    let first : ℕ = up.field * g.nx + across.field in
    let last : first + g.nx + 1 < g.nx * g.ny = probes_within g.nx g.ny across.field up.field a.field u.field in
    let few : g.nx * g.ny ≤ 900 = grid.few in
    let west : 1000 - east ≤ 1000 = omega arith in
    let south : 1000 - north ≤ 1000 = omega arith in
    levelled_word c.z (pos ((1000 - east) * (1000 - north))) (pos (east * (1000 - north)) ∷ pos ((1000 - east) * north) ∷ pos (east * north) ∷ []) first
    ((first + 1) ∷ (first + g.nx) ∷ (first + g.nx + 1) ∷ []) (omega (arith, size_of c.z h))
    (weight_is (1000 - east) (1000 - north) west south, (weight_is east (1000 - north) a.part south, (weight_is (1000 - east) north west u.part, (weight_is east north a.part u.part, tt))))
    (record { few = omega arith }, (record { few = omega arith }, (record { few = omega arith }, (record { few = omega arith }, tt))))
    refl

-- a height with or without a grid
over_height : (grid : Option ProbeGrid) (c : Corner) → IsSurface grid → IsCoordinate c.z → IsShortWord (height_word grid c) 126
over_height None c s h = let word = z_word c.z (omega (arith, size_of c.z h)) in record { text = word.text; short = omega (arith, word.short) }
over_height (Some g) c s h = grid_height g c s.is_grid h

-- ---- lines

height_line_text : (z : ℤ) → IsCoordinate z → IsLineText (words (height_line z))
height_line_text z h = words_text (height_line z) (10 ∷ 20 ∷ []) (g_word 0 (omega arith), (z_word z (omega (arith, size_of z h)), tt)) (omega arith)

mode_text : IsLineText (words mode_line)
mode_text =
    words_text mode_line (10 ∷ 10 ∷ 10 ∷ 10 ∷ 10 ∷ [])
    (g_word 17 (omega arith), (g_word 21 (omega arith), (g_word 61 (omega arith), (g_word 90 (omega arith), (g_word 94 (omega arith), tt)))))
    (omega arith)

stop_text : IsLineText (words stop_line)
stop_text = words_text stop_line (10 ∷ []) (m_word 5 (omega arith), tt) (omega arith)

end_text : IsLineText (words end_line)
end_text = words_text end_line (10 ∷ []) (m_word 2 (omega arith), tt) (omega arith)

wait_text : IsLineText (words wait_line)
wait_text = words_text wait_line (10 ∷ 20 ∷ []) (g_word 4 (omega arith), (second_word, tt)) (omega arith)

tool_text : (run : ToolRun) → IsToolRun run → IsLineText (words (tool_line run))
tool_text run h = words_text (tool_line run) (10 ∷ 10 ∷ []) (t_word run.tool (omega (arith, h.tool)), (m_word 6 (omega arith), tt)) (omega arith)

spindle_text : (run : ToolRun) → IsToolRun run → IsLineText (words (spindle_line run))
spindle_text run h = words_text (spindle_line run) (10 ∷ 10 ∷ []) (s_word run.speed (omega (arith, h.speed)), (m_word 3 (omega arith), tt)) (omega arith)

-- over to a place
over_text : (x y : ℤ) → unsigned_abs x ≤ 1000000000000 → unsigned_abs y ≤ 1000000000000 → IsLineText (words (over_place (record { x = x; y = y })))
over_text x y h k = words_text (over_place (record { x = x; y = y })) (10 ∷ 20 ∷ 20 ∷ []) (g_word 0 (omega arith), (x_word x h, (y_word y k, tt))) (omega arith)

over_corner_text : (c : Corner) → IsCorner c → IsLineText (words (over_line c))
over_corner_text c h = over_text c.x c.y (omega (arith, size_of c.x h.x_in)) (omega (arith, size_of c.y h.y_in))

plunge_text : (grid : Option ProbeGrid) (run : ToolRun) (c : Corner) → IsSurface grid → IsToolRun run → IsCorner c → IsLineText (words (plunge_over grid run c))
plunge_text grid run c s r h =
    words_text (plunge_over grid run c) (10 ∷ 126 ∷ 20 ∷ []) (g_word 1 (omega arith), (over_height grid c s h.z_in, (f_word run.plunge r.plunge, tt))) (omega arith)

stroke_text : (grid : Option ProbeGrid) (run : ToolRun) (plunged : Bool) (c : Corner) → IsSurface grid → IsToolRun run → IsCorner c → IsLineText (words (stroke_over grid run plunged c))
stroke_text grid run plunged c s r h = by_grid grid plunged s
  where
    x : IsShortWord (length_word X c.x) 20
    x = x_word c.x (omega (arith, size_of c.x h.x_in))

    y : IsShortWord (length_word Y c.y) 20
    y = y_word c.y (omega (arith, size_of c.y h.y_in))

    g : IsShortWord (code G 1) 10
    g = g_word 1 (omega arith)

    f : IsShortWord (feed_word run.feed) 20
    f = f_word run.feed r.feed

    by_grid : (grid : Option ProbeGrid) (plunged : Bool) → IsSurface grid → IsLineText (words (stroke_over grid run plunged c))
    by_grid None true s = words_text (stroke_over None run true c) (10 ∷ 20 ∷ 20 ∷ 20 ∷ []) (g, (x, (y, (f, tt)))) (omega arith)
    by_grid None false s = words_text (stroke_over None run false c) (10 ∷ 20 ∷ 20 ∷ []) (g, (x, (y, tt))) (omega arith)
    by_grid (Some grid) true s =
        words_text (stroke_over (Some grid) run true c) (10 ∷ 20 ∷ 20 ∷ 126 ∷ 20 ∷ []) (g, (x, (y, (grid_height grid c s.is_grid h.z_in, (f, tt))))) (omega arith)
    by_grid (Some grid) false s =
        words_text (stroke_over (Some grid) run false c) (10 ∷ 20 ∷ 20 ∷ 126 ∷ []) (g, (x, (y, (grid_height grid c s.is_grid h.z_in, tt)))) (omega arith)

-- ---- probes

place_size : (from step : ℤ) (n : ℕ) → IsCoordinate from → n ≤ 900 → unsigned_abs step ≤ 1000000000 → unsigned_abs (from +ℤ pos n *ℤ step) ≤ 1000000000000
place_size from step n h few small =
    let way : unsigned_abs (pos n *ℤ step) ≡ n * unsigned_abs step = unsigned_abs-mul (pos n) step in
    let most : n * unsigned_abs step ≤ 900 * 1000000000 = mul-le-mul {n₁ = n} {m₁ = unsigned_abs step} {n₂ = 900} {m₂ = 1000000000} few small in
    let all = sum_small from (pos n *ℤ step) 500000000 900000000000 (size_of from h) (omega arith) in
    omega arith

place_text : (g : ProbeGrid) (k : ℕ) → IsPlaced g → k < g.nx * g.ny → IsLineText (words (over_place (probe_place g k)))
place_text g k h inside =
    over_text (g.x0 +ℤ pos (k % g.nx) *ℤ g.dx) (g.y0 +ℤ pos (k / g.nx) *ℤ g.dy)
    (place_size g.x0 g.dx (k % g.nx) h.x0 (column_few g k h) (dx_small g h)) (place_size g.y0 g.dy (k / g.nx) h.y0 (row_few g k h inside) (dy_small g h))

range_size : (z : ℤ) → pos 0 ≤ℤ z → z ≤ℤ pos 10000000 → unsigned_abs (neg_ℤ z) ≤ 1000000000000
range_size z low high = omega (arith, ints)

contact_text : (g : ProbeGrid) → IsGrid g → IsLineText (words (contact_line g))
contact_text g h =
    words_text (contact_line g) (10 ∷ 20 ∷ 20 ∷ []) (
      tenths_word G 38200000000000 382 (record { low = omega arith; high = omega arith; not_n = omega arith }) refl (omega arith) (omega arith),
      (z_word (neg_ℤ g.range) (range_size g.range h.range_low h.range_high), (f_word g.feed (record { low = h.feed_low; high = h.feed_high }), tt)),
    )
    (omega arith)

-- a number below another
record IsBelow (m k : ℕ) : Type 0 where
  below : k < m

range_below : (a n m : ℕ) → a + n ≤ m → AllByRecursion (IsBelow m) (range_with_len a n)
range_below a zero m h = tt
range_below a (suc n) m h = (record { below = omega arith }, range_below (a + 1) n m (omega arith))

append_texts : (xs ys : List Line) → AllByRecursion IsLineText xs → AllByRecursion IsLineText ys → AllByRecursion IsLineText (xs ++ ys)
append_texts [] ys h k = k
append_texts (x ∷ xs) ys h k = (h.0, append_texts xs ys h.1 k)

-- what several things give, one behind the other
flat_texts : {A : Type 0} (Q : A → Type 0) (f : A → List Line) → ((x : A) → Q x → AllByRecursion IsLineText (f x)) → (xs : List A) → AllByRecursion Q xs → AllByRecursion IsLineText (flat_map f xs)
flat_texts Q f each [] h = tt
flat_texts Q f each (x ∷ xs) h = append_texts (f x) (flat_map f xs) (each x h.0) (flat_texts Q f each xs h.1)

probe_texts : (safe : ℤ) (g : ProbeGrid) → IsCoordinate safe → IsPlaced g → (k : ℕ) → IsBelow (g.nx * g.ny) k → AllByRecursion IsLineText (probe_lines safe g k)
probe_texts safe g s h k inside =
    let low : k < g.nx * g.ny = inside.below in
    (place_text g k h low, (contact_text g h.is_grid, (answer_is_text k (omega (arith, h.is_grid.few)), (height_line_text safe s, tt))))

probing_texts : (safe : ℤ) (grid : Option ProbeGrid) → IsCoordinate safe → IsSurface grid → AllByRecursion IsLineText (probing_lines safe grid)
probing_texts safe None s h = tt
probing_texts safe (Some g) s h =
    (height_line_text safe s, flat_texts (IsBelow (g.nx * g.ny)) (probe_lines safe g) (probe_texts safe g s h) (range_with_len 0 (g.nx * g.ny)) (range_below 0 (g.nx * g.ny) (g.nx * g.ny) (omega arith)))

-- ---- programs

either_text : (b : Bool) (ws vs : List Word) → IsLineText (words ws) → IsLineText (words vs) → IsLineText (words (cond b ws vs))
either_text true ws vs h k = h
either_text false ws vs h k = k

steps_texts : (grid : Option ProbeGrid) (run : ToolRun) (plunged : Bool) (c : Corner) (ds : List Corner) → IsSurface grid → IsToolRun run → AllByRecursion IsCorner ds
    → AllByRecursion IsLineText (steps_over grid run plunged c ds)
steps_texts grid run plunged c [] s r h = tt
steps_texts grid run plunged c (d ∷ ds) s r h = (
  either_text (is_straight c d) (plunge_over grid run d) (stroke_over grid run plunged d) (plunge_text grid run d s r h.0) (stroke_text grid run plunged d s r h.0),
  steps_texts grid run (is_straight c d) d ds s r h.1,
)

corners_texts : (grid : Option ProbeGrid) (safe : ℤ) (run : ToolRun) (cut : List Corner) → IsSurface grid → IsCoordinate safe → IsToolRun run → AllByRecursion IsCorner cut
    → AllByRecursion IsLineText (cut_over grid safe run cut)
corners_texts grid safe run [] s i r h = tt
corners_texts grid safe run (c ∷ cs) s i r h = (
  over_corner_text c h.0,
  (
    plunge_text grid run c s r h.0,
    append_texts (steps_over grid run true c cs) (words (height_line safe) ∷ []) (steps_texts grid run true c cs s r h.1) (height_line_text safe i, tt),
  ),
)

cut_texts : (grid : Option ProbeGrid) (safe : ℤ) (run : ToolRun) → IsSurface grid → IsCoordinate safe → IsToolRun run → (cut : List Corner) → IsCut cut
    → AllByRecursion IsLineText (cut_over grid safe run cut)
cut_texts grid safe run s i r cut h = corners_texts grid safe run cut s i r (recursion_from_All IsCorner cut h.corners)

run_texts : (grid : Option ProbeGrid) (safe change : ℤ) → IsSurface grid → IsCoordinate safe → IsCoordinate change → (run : ToolRun) → IsToolRun run
    → AllByRecursion IsLineText (run_over grid safe change run)
run_texts grid safe change s i j run r =
    let cuts = flat_texts IsCut (cut_over grid safe run) (cut_texts grid safe run s i r) run.cuts (recursion_from_All IsCut run.cuts r.cuts) in (
      height_line_text change j,
      (
        stop_text,
        (
          tool_text run r,
          append_texts (probing_lines safe grid) (words (spindle_line run) ∷ words wait_line ∷ words (height_line safe) ∷ flat_map (cut_over grid safe run) run.cuts)
              (probing_texts safe grid i s) (spindle_text run r, (wait_text, (height_line_text safe i, cuts))),
        ),
      ),
    )

safe_of : (grid : Option ProbeGrid) (p : Program) → IsOver grid p → IsCoordinate p.safe
safe_of None p h = h.safe
safe_of (Some g) p h = h.0.safe

change_of : (grid : Option ProbeGrid) (p : Program) → IsOver grid p → IsCoordinate p.change
change_of None p h = h.change
change_of (Some g) p h = h.0.change

program_texts : (p : Program) → IsWritable p → AllByRecursion IsLineText (lines_over p)
unfolding lines_over
program_texts p h =
    let safe = safe_of p.grid p h in
    let change = change_of p.grid p h in
    let runs = flat_texts IsToolRun (run_over p.grid p.safe p.change) (run_texts p.grid p.safe p.change (surface_of_written p h) safe change) p.runs (recursion_from_All IsToolRun p.runs (runs_of_written p h)) in
    (mode_text, append_texts (flat_map (run_over p.grid p.safe p.change) p.runs) (foot_lines p.change) runs (height_line_text p.change change, (stop_text, (end_text, tt))))

-- the text of a program that is written stands for its lines
pub stands_over : (p : Program) → IsWritable p → StandsFor (text_over (lines_over p)) (lines_over p)
stands_over p h = stands_for_lines (lines_over p) (program_texts p h)
