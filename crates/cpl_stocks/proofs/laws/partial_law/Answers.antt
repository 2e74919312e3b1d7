use Rattle.std.specs.Prelude.{FitsSigned}
use Rattle.std.specs.Int.{w128}
use Rattle.std.proofs.lemmas.List.Elements.{recursion_from_All}
use Rattle.cpl_stocks.specs.Partials.{numbers_of}
use Rattle.cpl_stocks.proofs.PartialRows.{partial_same, numbers_of_both, shape_of_both}
use Rattle.cpl_stocks.proofs.PartialWords.{numbers-words}
use Rattle.cpl_stocks.proofs.laws.partial_law.Goals as goal

pub returns-clause-same : goal.returns-clause-same
returns-clause-same c = partial_same

pub returns-clause-sums : goal.returns-clause-sums
returns-clause-sums c = numbers_of_both

pub returns-clause-shape : goal.returns-clause-shape
returns-clause-shape c = shape_of_both

pub returns-clause-words : goal.returns-clause-words
returns-clause-words c = λ a all. numbers-words (numbers_of a) (recursion_from_All (FitsSigned w128) (numbers_of a) all)
