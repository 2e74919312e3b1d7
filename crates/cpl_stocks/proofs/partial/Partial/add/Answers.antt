use Rattle.std.proofs.Common.{arith}
use Rattle.std.specs.Prelude.{FitsSigned}
use Rattle.std.specs.Int.{w128}
use Rattle.cpl_stocks.specs.Partials.{in_rows, row_sums}
use Rattle.cpl_stocks.proofs.PartialSums.{all_front, all_back}
use Rattle.cpl_stocks.proofs.partial.Partial.add.Goals as goal

pub add_rows-requires : goal.add_rows-requires
add_rows-requires c =
    let stocks = in_rows (row_sums c.args.self.now.stocks c.args.other.now.stocks) in
    let exchanges = in_rows (row_sums c.args.self.now.exchanges c.args.other.now.exchanges) in
    (omega arith, (omega arith, all_front (FitsSigned w128) stocks exchanges c.requires))

pub add_rows-requires-2 : goal.add_rows-requires-2
add_rows-requires-2 c =
    let stocks = in_rows (row_sums c.args.self.now.stocks c.args.other.now.stocks) in
    let exchanges = in_rows (row_sums c.args.self.now.exchanges c.args.other.now.exchanges) in
    (omega arith, (omega arith, all_back (FitsSigned w128) stocks exchanges c.requires))
