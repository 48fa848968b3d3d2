use Rattle.std.proofs.Common.{◌+◌, arith}
use Rattle.centre_field.proofs.RowLaws.{frame_listed, listing_now, listed_one, listed_none, renamed, read_place, number_before, is_short}
use Rattle.centre_field.proofs.rows.list_span.Goals as goal
use Rattle.centre_field.proofs.rows.list_span.Goals.{then-distance, else-distance}

pub enter-n-requires-clause-distance : goal.enter-n-requires-clause-distance
enter-n-requires-clause-distance c =
    let p = c.columns.invariant in
    read_place c.frame-frame.result c.columns.bench c.place_at.result c.columns.b c.args.y c.clearance_at-distance.result
    (frame_listed c.args.bench.now c.columns.bench c.frame-frame.result c.args.y c.args.from c.columns.n c.columns.b p) c.place_at.ensures.value c.clearance_at-distance.ensures

pub enter-n-requires-clause-short : goal.enter-n-requires-clause-short
enter-n-requires-clause-short c =
    let p = c.columns.invariant in
    let start = c.args.bench.now in
    let read = read_place c.frame-frame.result c.columns.bench c.place_at.result c.columns.b c.args.y c.clearance_at-distance.result
    (frame_listed start c.columns.bench c.frame-frame.result c.args.y c.args.from c.columns.n c.columns.b p) c.place_at.ensures.value c.clearance_at-distance.ensures in
    is_short start c.args.y c.args.from c.columns.b c.clearance_at-distance.result c.requires.distances (omega arith) (let to_in = c.requires.to in let b_in = c.columns-test.true in omega arith)
    (number_before start c.columns.bench c.frame-frame.result c.args.y c.args.from c.columns.n c.columns.b c.columns.b c.clearance_at-distance.result p read) c.if-distance.true

pub enter-n-requires-clause-listing : goal.enter-n-requires-clause-listing
enter-n-requires-clause-listing c =
    listing_now c.args.bench.now c.columns.bench c.frame-frame.result c.args.y c.args.from c.columns.n c.columns.b c.columns.invariant

pub columns-preserved : goal.columns-preserved
columns-preserved c =
    let start = c.args.bench.now in
    let g = c.columns.bench in
    let f = c.frame-frame.result in
    let y = c.args.y in
    let from = c.args.from in
    let n = c.columns.n in
    let b = c.columns.b in
    let p = c.columns.invariant in
    let read = read_place f g c.place_at.result b y c.clearance_at-distance.result (frame_listed start g f y from n b p) c.place_at.ensures.value c.clearance_at-distance.ensures in
    elim c.if-distance.branch [
      | then-distance w ↦
          let new = w.enter-n.new.bench in
          renamed start new c.if-distance.bench f y from w.enter-n.result c.if-distance.n (b + 1) w.bench-is w.n-is
          (listed_one start g new f y from n b w.enter-n.result p w.enter-n.ensures.rest w.enter-n.ensures.listing)
      | else-distance w ↦
          renamed start g c.if-distance.bench f y from n c.if-distance.n (b + 1) w.bench-is w.n-is (listed_none start g f y from n b c.clearance_at-distance.result p read w.if-distance.false)
    ]
