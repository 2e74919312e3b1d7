-- The rules of boxes.
use Rattle.std.specs.Prelude.{ℕ, ◌-◌, ◌%◌, ◌==◌, ◌&&◌, not, List, [], ◌∷◌, length, Bool, true, Option, Some, None, if◌then◌else◌, ℤ, int_lt}
use Rattle.cpl_fixed.specs.declared.words.Component.TheVariants.{Atmos, Ocean}
use Rattle.cpl_mkx.specs.declared.boxes.BoxMesh.{BoxMesh}
use Rattle.cpl_mkx.specs.declared.boxes.BoxPair.{BoxPair}
use Rattle.cpl_mkx.specs.declared.fault.BoxesError.{BoxesError}
use Rattle.cpl_mkx.specs.declared.fault.BoxesError.TheVariants.{Order, OddFold}

-- how many columns and rows of boxes a grid has: one fewer than edges
abbrev pub columns_of : BoxMesh → ℕ
columns_of mesh = length mesh.x - 1

abbrev pub rows_of : BoxMesh → ℕ
rows_of mesh = length mesh.y - 1

-- each edge lies above the one before
abbrev pub rises : List ℤ → Bool
rises [] = true
rises (edge ∷ []) = true
rises (edge ∷ next ∷ edges) = int_lt edge next && rises (next ∷ edges)

-- the first line whose edges don't rise: `x` and `y` of the air stand on lines 3 and 4, those of the ocean on lines 6 and 7
abbrev pub order_fault : BoxPair → Option BoxesError
order_fault pair =
    if not (rises pair.air.x) then Some (Order 3)
    else (if not (rises pair.air.y) then Some (Order 4)
    else (if not (rises pair.ocean.x) then Some (Order 6)
    else (if not (rises pair.ocean.y) then Some (Order 7) else None)))

-- an odd number of columns is folded
abbrev pub is_odd_fold : List ℤ → Bool → Bool
is_odd_fold x fold = fold && ((length x - 1) % 2 == 1)

-- the first grid with an odd fold, the air first
abbrev pub fold_fault : BoxPair → Option BoxesError
fold_fault pair =
    if is_odd_fold pair.air.x pair.air.fold then Some (OddFold Atmos)
    else (if is_odd_fold pair.ocean.x pair.ocean.fold then Some (OddFold Ocean) else None)

infixr 10 ◌then◌
abbrev pub ◌then◌ : Option BoxesError → Option BoxesError → Option BoxesError
(Some fault) then others = Some fault
None then others = others

-- the first rule that boxes break
abbrev pub boxes_fault : BoxPair → Option BoxesError
boxes_fault pair = order_fault pair then fold_fault pair
