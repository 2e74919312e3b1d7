-- How many pairs of pieces there are at most, and how many pieces with purposes.
use Rattle.std.proofs.Common.{◌≡◌, refl}
use Rattle.cpl_wires.specs.Tables.{pairs_most, ends_most}

pub pairs_most_is : pairs_most ≡ 4_096
unfolding pairs_most
pairs_most_is = refl

pub ends_most_is : ends_most ≡ 4_096
unfolding ends_most
ends_most_is = refl
