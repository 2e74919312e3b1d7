-- What a list ends as, where its items are lent for writing.
use Rattle.std.specs.Prelude.{List, ◌++◌, take, drop, length}
use Rattle.std.specs.Borrow.{Lends, Fml, RattleType, MutBor, Array}
use Rattle.cpl_fixed.specs.contracts.list.List.{the_row}

-- a list over whose first items others were written: these, where they are as many
abbrev pub overwritten : {X : Type 0} → List X → List X → List X
overwritten list items = take (length list) (items ++ drop (length items) list)

-- once the loan ends, the list has the items that the slice shows last
abbrev pub LendsItems : (T : RattleType) → MutBor (List T.Denot) → MutBor (List T.Denot) → Fml
LendsItems T list slice = Lends (the_row T) (Array T 0) list slice (overwritten list.now)
