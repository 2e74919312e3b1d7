-- What a side of a cell meets.
use Rattle.std.specs.Prelude.{◌≡◌, ◌≢◌, ℕ, zero, suc, ◌⊎◌, List, Option, Some, None, Contains}
use Rattle.std.specs.List.{find}
use Rattle.std.specs.Option.{option_map}
use Rattle.cpl_mosaic.specs.declared.parts.Side.{Side}
use Rattle.cpl_mosaic.specs.declared.parts.CellId.{CellId}
use Rattle.cpl_mosaic.specs.Lists.{MosaicLists}
use Rattle.cpl_mosaic.specs.Sides.{CellSide, opposite, neighbour, tile_at, is_same_side, IsCellOf}
use Rattle.cpl_mosaic.specs.Contacts.{all_joins}

-- two sides meet inside a tile, where each cell lies across the other's side, or by a contact
abbrev pub Meets : MosaicLists → CellSide → CellSide → Type 0
Meets mosaic a b =
    ((neighbour (tile_at mosaic.tiles a.0.tile) a.0 a.1 ≡ Some b.0) × (b.1 ≡ opposite a.1))
    ⊎ Contains (all_joins mosaic.tiles mosaic.contacts) (a, b)

-- a side that meets none
abbrev pub IsWall : MosaicLists → CellSide → Type 0
IsWall mosaic a = (b : CellSide) → Meets mosaic a b → ⊥

-- the cell across a side inside the tile, entered through the opposite side; else what a contact joins to the side
abbrev pub or_joined : Option CellId → Side → List (CellSide × CellSide) → CellSide → Option CellSide
or_joined (Some cell) side joins a = Some (cell, opposite side)
or_joined None side joins a = option_map (λ pair. pair.1) (find (λ pair. is_same_side a pair.0) joins)

-- the side that a side meets
abbrev pub mate_of : MosaicLists → CellSide → Option CellSide
mate_of mosaic a =
    or_joined (neighbour (tile_at mosaic.tiles a.0.tile) a.0 a.1) a.1 (all_joins mosaic.tiles mosaic.contacts) a

-- leaving by the side opposite the one entered
abbrev pub onward : CellSide → CellSide
onward entered = (entered.0, opposite entered.1)

-- one further step: by the side opposite the one entered
abbrev pub one_further : MosaicLists → Option CellSide → Option CellSide
one_further mosaic None = None
one_further mosaic (Some entered) = mate_of mosaic (onward entered)

-- where n + 1 steps through a side lead to, with the side entered last
abbrev pub walk_of : MosaicLists → ℕ → CellSide → Option CellSide
walk_of mosaic zero a = mate_of mosaic a
walk_of mosaic (suc n) a = one_further mosaic (walk_of mosaic n a)

-- In a mosaic that keeps the rules, the mate of a cell's side is a side of one of its cells, which meets it and no other.
-- Its own mate is the first side again, and no side is its own mate.
pub record MatesAgree (mosaic : MosaicLists) : Type 0 where
  pub meets : (a b : CellSide) → IsCellOf mosaic.tiles a.0 → mate_of mosaic a ≡ Some b → Meets mosaic a b
  pub met : (a b : CellSide) → IsCellOf mosaic.tiles a.0 → Meets mosaic a b → mate_of mosaic a ≡ Some b
  pub within : (a b : CellSide) → IsCellOf mosaic.tiles a.0 → mate_of mosaic a ≡ Some b → IsCellOf mosaic.tiles b.0
  pub back : (a b : CellSide) → IsCellOf mosaic.tiles a.0 → mate_of mosaic a ≡ Some b → mate_of mosaic b ≡ Some a
  pub apart : (a b : CellSide) → IsCellOf mosaic.tiles a.0 → mate_of mosaic a ≡ Some b → a ≢ b
