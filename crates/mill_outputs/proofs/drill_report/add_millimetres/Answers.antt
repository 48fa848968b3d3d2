use Rattle.std.proofs.Common.{◌≡◌, ◌++◌, ◌/◌, pos, unsigned_abs, decimal, codes, rules}
use Rattle.fixed_num.specs.Rounding.{round_div_of}
use Rattle.mill_outputs.specs.Report.{digit}
use Rattle.mill_outputs.proofs.ReportLaws.{on_ok, millimetres_added}
use Rattle.mill_outputs.proofs.drill_report.add_millimetres.Goals as goal

pub returns : goal.returns
returns c =
    let n = c.micrometres-n.result in
    let is : n ≡ unsigned_abs (round_div_of c.args.diameter (pos 1000)) = search rules in
    let whole : c.add_count.new.bytes.items ≡ c.args.bytes.now.items ++ decimal (n / 1000) = search rules in
    let point : c.push.new.self.items ≡ c.add_count.new.bytes.items ++ codes "." = search rules in
    let tenths : c.add_digit.new.bytes.items ≡ c.push.new.self.items ++ digit (n / 100) = search rules in
    let hundredths : c.add_digit-2.new.bytes.items ≡ c.add_digit.new.bytes.items ++ digit (n / 10) = search rules in
    on_ok c.add_digit-3.result _ _ (millimetres_added c.args.diameter n c.args.bytes.now.items _ _ _ _ _ is whole point tenths hundredths) c.add_digit-3.ensures
