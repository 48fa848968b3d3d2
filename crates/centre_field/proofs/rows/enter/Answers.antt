use Rattle.std.proofs.Common.{◌≡◌, ℕ, List, ◌+◌, ◌*◌, ◌<◌, refl, sym, ap, subst, arith}
use Rattle.cell_grid.specs.declared.frames.Frame.{Frame}
use Rattle.cell_grid.specs.Grid.{Grid}
use Rattle.centre_field.specs.Rows.{IsListing}
use Rattle.centre_field.proofs.ListingLaws.{entering, passing, stay, start_is}
use Rattle.centre_field.proofs.rows.enter.Goals as goal

pub returns-then-m-eq0-clause-listing : goal.returns-then-m-eq0-clause-listing
returns-then-m-eq0-clause-listing c =
    let g = c.args.bench.now in
    let y = c.args.y in
    let from = c.args.from in
    let b = c.args.b in
    let d = c.args.distance in
    let none_stay : c.staying-m.result ≡ 0 = omega (arith, c.if-m-eq0.true) in
    let square = ap (λ (v : ℕ). v * v) c.requires.distance in
    let st = stay g y from g.scratch c.args.n b 0 (d * d) c.requires.listing square (omega arith) (λ j h k. c.staying-m.ensures.gone j (omega arith) k) (λ k h. absurd (omega arith)) in
    subst (λ (xs : List ℕ). IsListing g y from xs 1 (b + 1)) (sym (ap (λ (h : Grid). h.scratch) c.list.ensures))
    (entering g y from g.scratch c.args.n b 0 0 d (d * d) c.requires.from c.requires.listing st c.requires.b c.frame-width.ensures.sized.scratch c.requires.distance c.requires.short refl
    (λ k h. absurd (omega arith)) (λ h. refl) (let l = c.requires.b in omega arith))

pub returns-then-start-width-clause-listing : goal.returns-then-start-width-clause-listing
returns-then-start-width-clause-listing c =
    let g = c.args.bench.now in
    let y = c.args.y in
    let from = c.args.from in
    let b = c.args.b in
    let d = c.args.distance in
    let m = c.staying-m.result in
    let last = c.listed-last.result in
    let width : c.frame-width.result.width ≡ g.frame.width = ap (λ (f : Frame). f.width) c.frame-width.ensures.value in
    let square = ap (λ (v : ℕ). v * v) c.requires.distance in
    let st = stay g y from g.scratch c.args.n b m (d * d) c.requires.listing square c.staying-m.ensures.few c.staying-m.ensures.gone c.staying-m.ensures.top in
    let some : 0 < m = omega (arith, c.if-m-eq0.false) in
    let starts = start_is g y from g.scratch c.args.n b m c.start_after-start.result last.column last.square (d * d) d c.requires.listing c.staying-m.ensures.few some
    c.listed-last.ensures.column c.listed-last.ensures.square c.requires.distance refl c.start_after-start.ensures in
    subst (λ (xs : List ℕ). IsListing g y from xs (m + 1) (b + 1)) (sym (ap (λ (h : Grid). h.scratch) c.list-then-start-width.ensures))
    (entering g y from g.scratch c.args.n b m c.start_after-start.result d (d * d) c.requires.from c.requires.listing st c.requires.b c.frame-width.ensures.sized.scratch c.requires.distance c.requires.short refl
    starts (λ h. absurd (omega arith)) (let l = c.if-start-width.true in omega arith))

pub returns-clause-listing : goal.returns-clause-listing
returns-clause-listing c =
    let g = c.args.bench.now in
    let y = c.args.y in
    let from = c.args.from in
    let b = c.args.b in
    let d = c.args.distance in
    let m = c.staying-m.result in
    let last = c.listed-last.result in
    let width : c.frame-width.result.width ≡ g.frame.width = ap (λ (f : Frame). f.width) c.frame-width.ensures.value in
    let square = ap (λ (v : ℕ). v * v) c.requires.distance in
    let st = stay g y from g.scratch c.args.n b m (d * d) c.requires.listing square c.staying-m.ensures.few c.staying-m.ensures.gone c.staying-m.ensures.top in
    let some : 0 < m = omega (arith, c.if-m-eq0.false) in
    let starts = start_is g y from g.scratch c.args.n b m c.start_after-start.result last.column last.square (d * d) d c.requires.listing c.staying-m.ensures.few some
    c.listed-last.ensures.column c.listed-last.ensures.square c.requires.distance refl c.start_after-start.ensures in
    passing g y from g.scratch c.args.n b m c.start_after-start.result d c.requires.from c.requires.listing st c.requires.distance c.requires.short starts some (let l = c.if-start-width.false in omega arith)
