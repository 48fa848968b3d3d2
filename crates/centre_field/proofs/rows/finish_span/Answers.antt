use Rattle.centre_field.proofs.SpanLaws.{listing_after}
use Rattle.centre_field.proofs.rows.finish_span.Goals as goal

pub write_span-requires-clause-listing : goal.write_span-requires-clause-listing
write_span-requires-clause-listing c = listing_after c.args.bench.now c.list_span-n.new.bench c.args.y c.args.from c.list_span-n.result c.args.to c.list_span-n.ensures.rest c.list_span-n.ensures.listing
