use Rattle.std.proofs.Common.{◌-◌, ◌^◌, List, [], ◌∷◌, ◌++◌, refl, replicate}
use Rattle.std.specs.Prelude.{ℤ, pos, negsuc}
use Rattle.cpl_stocks.specs.Partials.{no_sums}
use Rattle.cpl_stocks_tests.proofs.Fits.{all_fit}
use Rattle.cpl_stocks_tests.proofs.partial.sums_of_two.Goals as goal

-- the sums
abbrev sums : List ℤ
sums = replicate 11 (pos 0) ++ pos (2 ^ 127 - 1) ∷ replicate 11 (pos 0) ++ negsuc 0 ∷ pos 3 ∷ replicate 58 (pos 0) ++ pos 3 ∷ []

pub add-requires : goal.add-requires
unfolding no_sums
add-requires g c = rw (c.zero-sum.ensures, c.zero-other.ensures) (all_fit sums refl)
