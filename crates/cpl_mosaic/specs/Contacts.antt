-- The sides that a contact joins, and the rules of contacts.
use Rattle.std.specs.Prelude.{◌≡◌, ℕ, ◌+◌, ◌-◌, ◌*◌, ◌≤◌, ◌==◌, ◌&&◌, ◌||◌, not, nat_le, nat_lt, Bool, List, [], ◌∷◌, ◌++◌, map, length, Option, Some, None, if◌then◌else◌, All}
use Rattle.std.specs.List.{list_any, range_with_len, flat_map}
use Rattle.cpl_fixed.specs.declared.limits.TheConstants.{LONGEST_SIDE, MOST_TILES, MOST_CELLS, MOST_CONTACTS}
use Rattle.cpl_mosaic.specs.declared.parts.Tile.{Tile}
use Rattle.cpl_mosaic.specs.declared.parts.Span.{Span}
use Rattle.cpl_mosaic.specs.declared.parts.Contact.{Contact}
use Rattle.cpl_mosaic.specs.declared.parts.MosaicError.{MosaicError}
use Rattle.cpl_mosaic.specs.declared.parts.MosaicError.TheVariants.{ContactRange, ContactTwice, SelfMeet, Memory}
use Rattle.cpl_mosaic.specs.Sides.{CellSide, is_same_side, tile_at, edge_length, edge_side}

-- how many sides a range has, where its ends are in order
abbrev pub span_length : Span → ℕ
span_length span = span.hi - span.lo + 1

abbrev pub span_is_inside : List Tile → Span → Bool
span_is_inside tiles span = nat_le span.lo span.hi && nat_lt span.hi (edge_length (tile_at tiles span.tile) span.side)

-- both ranges lie in the mosaic, their ends are in order, and they are equally long
abbrev pub is_in_range : List Tile → Contact → Bool
is_in_range tiles contact = span_is_inside tiles contact.first && span_is_inside tiles contact.second && (span_length contact.first == span_length contact.second)

-- the k-th side of the first range, and the k-th of the second, which counts from its end where the contact is flipped
abbrev pub joined_pair : List Tile → Contact → ℕ → CellSide × CellSide
joined_pair tiles contact k = (
  edge_side tiles contact.first.tile contact.first.side (contact.first.lo + k),
  edge_side tiles contact.second.tile contact.second.side (if contact.flip then contact.second.hi - k else contact.second.lo + k),
)

-- the pairs that a contact joins
abbrev pub pairs_of : List Tile → Contact → List (CellSide × CellSide)
pairs_of tiles contact = map (joined_pair tiles contact) (range_with_len 0 (span_length contact.first))

abbrev pub swapped : CellSide × CellSide → CellSide × CellSide
swapped pair = (pair.1, pair.0)

-- the same pairs, each seen from both of its sides
abbrev pub joins_of : List Tile → Contact → List (CellSide × CellSide)
joins_of tiles contact = pairs_of tiles contact ++ map swapped (pairs_of tiles contact)

-- all that contacts join
abbrev pub all_joins : List Tile → List Contact → List (CellSide × CellSide)
all_joins tiles contacts = flat_map (joins_of tiles) contacts

-- whether two pairs join one side to two different sides
abbrev pub disagree : CellSide × CellSide → CellSide × CellSide → Bool
disagree p q = is_same_side p.0 q.0 && not (is_same_side p.1 q.1)

-- whether two pairs have a side in common
abbrev pub share_side : CellSide × CellSide → CellSide × CellSide → Bool
share_side p q = is_same_side p.0 q.0

-- whether the contact joins a side that an earlier one joins too, or one side to two different sides
abbrev pub joins_twice : List Tile → List Contact → Contact → Bool
joins_twice tiles earlier contact =
    list_any (λ p. list_any (share_side p) (all_joins tiles earlier)) (joins_of tiles contact)
    || list_any (λ p. list_any (disagree p) (joins_of tiles contact)) (joins_of tiles contact)

-- whether the contact joins a side to itself
abbrev pub meets_itself : List Tile → Contact → Bool
meets_itself tiles contact = list_any (λ p. is_same_side p.0 p.1) (pairs_of tiles contact)

-- the number of the first contact that the test refuses, which is told the contacts before it
abbrev pub first_refused : (List Contact → Contact → Bool) → List Contact → List Contact → Option ℕ
first_refused refuses earlier [] = None
first_refused refuses earlier (contact ∷ contacts) =
    if refuses earlier contact then Some (length earlier) else first_refused refuses (earlier ++ contact ∷ []) contacts

abbrev pub or_else : Option MosaicError → Option MosaicError → Option MosaicError
or_else (Some fault) other = Some fault
or_else None other = other

abbrev pub as_fault : (ℕ → MosaicError) → Option ℕ → Option MosaicError
as_fault fault (Some n) = Some (fault n)
as_fault fault None = None

-- the first contact with a range that breaks the rule
abbrev pub range_fault : List Tile → List Contact → Option MosaicError
range_fault tiles contacts = as_fault ContactRange (first_refused (λ earlier contact. not (is_in_range tiles contact)) [] contacts)

-- the first contact that joins a side twice
abbrev pub twice_fault : List Tile → List Contact → Option MosaicError
twice_fault tiles contacts = as_fault ContactTwice (first_refused (joins_twice tiles) [] contacts)

-- the first contact that joins a side to itself
abbrev pub self_meeting_fault : List Tile → List Contact → Option MosaicError
self_meeting_fault tiles contacts = as_fault SelfMeet (first_refused (λ earlier contact. meets_itself tiles contact) [] contacts)

-- The first broken rule: ranges over all contacts, then no contact twice, then no side meets itself.
abbrev pub contact_fault : List Tile → List Contact → Option MosaicError
contact_fault tiles contacts = or_else (range_fault tiles contacts) (or_else (twice_fault tiles contacts) (self_meeting_fault tiles contacts))

-- what making a mosaic answers is the first broken rule, or that there was no memory
abbrev pub IsFirstFault : Option MosaicError → MosaicError → Type 0
IsFirstFault found Memory = Unit {0}
IsFirstFault found fault = found ≡ Some fault

-- how many cells tiles have
abbrev pub cells_of : List Tile → ℕ
cells_of [] = 0
cells_of (tile ∷ tiles) = tile.nx * tile.ny + cells_of tiles

-- a tile's sides are 1 to 1,024
pub record IsTile (tile : Tile) : Type 0 where
  pub nx_least : 1 ≤ tile.nx
  pub nx_most : tile.nx ≤ LONGEST_SIDE
  pub ny_least : 1 ≤ tile.ny
  pub ny_most : tile.ny ≤ LONGEST_SIDE

-- 1 to 16 tiles, of at most 2^18 cells together
pub record AreTiles (tiles : List Tile) : Type 0 where
  pub least : 1 ≤ length tiles
  pub most : length tiles ≤ MOST_TILES
  pub each : All IsTile tiles
  pub cells : cells_of tiles ≤ MOST_CELLS

-- tiles within the limits and at most 256 contacts, which keep the rules
pub record IsMosaic (tiles : List Tile) (contacts : List Contact) : Type 0 where
  pub sizes : AreTiles tiles
  pub few : length contacts ≤ MOST_CONTACTS
  pub rules : contact_fault tiles contacts ≡ None
