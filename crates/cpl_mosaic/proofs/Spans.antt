-- The sides that a contact in range joins, one after the other.
use Rattle.std.proofs.Common.{◌≡◌, sym, ◌∙◌, ap, subst, true, leb, ltb, eqb, ◌&&◌, ℕ, ◌-◌, ◌*◌, ◌<◌, ◌≤◌, arith, List, map, length, get_or, inl, inr}
use Rattle.std.specs.Prelude.{All, Contains}
use Rattle.std.proofs.lemmas.Bool.{and_parts, leb-true, ltb-true, eqb-true, cases_lt}
use Rattle.std.proofs.lemmas.List.{length-map, length-append, get_or-map, get_or_append_left, get_or-append_right}
use Rattle.std.proofs.lemmas.List.FromFn.{length-map-range_with_len, get_or-map-range_with_len}
use Rattle.cpl_mosaic.specs.declared.parts.Side.{Side}
use Rattle.cpl_mosaic.specs.declared.parts.Side.TheVariants.{W, E, S, N}
use Rattle.cpl_mosaic.specs.declared.parts.Tile.{Tile}
use Rattle.cpl_mosaic.specs.declared.parts.Span.{Span}
use Rattle.cpl_mosaic.specs.declared.parts.Contact.{Contact}
use Rattle.cpl_mosaic.specs.Sides.{CellSide, tile_at, edge_length, IsEdgeSide}
use Rattle.cpl_mosaic.specs.Contacts.{IsTile, span_length, span_is_inside, is_in_range, joined_pair, pairs_of, swapped, joins_of}
use Rattle.cpl_mosaic.proofs.Edges.{tile_within}
use Rattle.cpl_mosaic.proofs.Joins.{pair_sides}

-- what it says that a range lies in the mosaic
pub record Inside (tiles : List Tile) (span : Span) : Type 0 where
  pub order : span.lo ≤ span.hi
  pub high : span.hi < edge_length (tile_at tiles span.tile) span.side
  pub tile : span.tile < length tiles

inside : (tiles : List Tile) (span : Span) → span_is_inside tiles span ≡ true → Inside tiles span
inside tiles span is =
    let parts = and_parts (leb span.lo span.hi) (ltb span.hi (edge_length (tile_at tiles span.tile) span.side)) is in
    let high = ltb-true span.hi (edge_length (tile_at tiles span.tile) span.side) parts.1 in
    record {
      order = leb-true span.lo span.hi parts.0;
      high = high;
      tile = tile_within tiles span.tile span.hi span.side high;
    }

-- a contact in range has two ranges in the mosaic, equally long
pub record InRange (tiles : List Tile) (contact : Contact) : Type 0 where
  pub first : Inside tiles contact.first
  pub second : Inside tiles contact.second
  pub same : span_length contact.first ≡ span_length contact.second

pub in_range : (tiles : List Tile) (contact : Contact) → is_in_range tiles contact ≡ true → InRange tiles contact
in_range tiles contact range =
    let parts = and_parts (span_is_inside tiles contact.first && span_is_inside tiles contact.second) (eqb (span_length contact.first) (span_length contact.second)) range in
    let both = and_parts (span_is_inside tiles contact.first) (span_is_inside tiles contact.second) parts.0 in
    record {
      first = inside tiles contact.first both.0;
      second = inside tiles contact.second both.1;
      same = eqb-true (span_length contact.first) (span_length contact.second) parts.1;
    }

short : (tile : Tile) (side : Side) → IsTile tile → edge_length tile side ≤ 1024
short tile W is = is.ny_most
short tile E is = is.ny_most
short tile S is = is.nx_most
short tile N is = is.nx_most

-- it joins few sides
pub span_small : (tiles : List Tile) (contact : Contact) → All IsTile tiles → is_in_range tiles contact ≡ true → span_length contact.first ≤ 1024
span_small tiles contact sizes range =
    let first = (in_range tiles contact range).first in
    let order = first.order in
    let high = first.high in
    let most = short (tile_at tiles contact.first.tile) contact.first.side (sizes contact.first.tile _ first.tile) in
    omega arith

-- its joins by their numbers: the pairs, and then the pairs swapped
pub count_pairs : (tiles : List Tile) (contact : Contact) → length (pairs_of tiles contact) ≡ span_length contact.first
count_pairs tiles contact = length-map-range_with_len (joined_pair tiles contact) 0 (span_length contact.first)

pub count_joins : (tiles : List Tile) (contact : Contact) → length (joins_of tiles contact) ≡ 2 * span_length contact.first
count_joins tiles contact =
    let pairs = count_pairs tiles contact in
    let others = length-map (pairs_of tiles contact) swapped in
    let both = length-append (pairs_of tiles contact) (map swapped (pairs_of tiles contact)) in
    omega arith

pub pair_at : (tiles : List Tile) (contact : Contact) (k : ℕ) (d : CellSide × CellSide) → k < span_length contact.first → get_or (pairs_of tiles contact) k d ≡ joined_pair tiles contact k
pair_at tiles contact k d below = get_or-map-range_with_len (joined_pair tiles contact) 0 (span_length contact.first) k k d below (omega arith)

pub first_at : (tiles : List Tile) (contact : Contact) (m : ℕ) (d : CellSide × CellSide) → m < span_length contact.first → get_or (joins_of tiles contact) m d ≡ joined_pair tiles contact m
first_at tiles contact m d below =
    let count = count_pairs tiles contact in
    get_or_append_left (pairs_of tiles contact) (map swapped (pairs_of tiles contact)) d m (omega arith) ∙ pair_at tiles contact m d below

pub second_at : (tiles : List Tile) (contact : Contact) (m : ℕ) (d : CellSide × CellSide) → span_length contact.first ≤ m → m < 2 * span_length contact.first → get_or (joins_of tiles contact) m d ≡ swapped (joined_pair tiles contact (m - span_length contact.first))
second_at tiles contact m d above below =
    let n = span_length contact.first in
    let count = count_pairs tiles contact in
    let within : m - span_length contact.first < span_length contact.first = omega arith in
    get_or-append_right (pairs_of tiles contact) (map swapped (pairs_of tiles contact)) (span_length contact.first) m d count above
    ∙ get_or-map swapped (pairs_of tiles contact) (m - span_length contact.first) d d (omega arith)
    ∙ ap swapped (pair_at tiles contact (m - span_length contact.first) d within)

-- each join is from a side along an edge
pub join_edges : (tiles : List Tile) (contact : Contact) → All IsTile tiles → is_in_range tiles contact ≡ true → (p : CellSide × CellSide) → Contains (joins_of tiles contact) p → IsEdgeSide tiles p.0
join_edges tiles contact sizes range p (k, below, is) =
    let n = count_joins tiles contact in
    elim (cases_lt k (span_length contact.first)) [
      | inl first ↦
          let at = sym is ∙ first_at tiles contact k p first in
          subst (λ (q : CellSide × CellSide). IsEdgeSide tiles q.0) (sym at) (pair_sides tiles contact k sizes range first).0
      | inr second ↦
          let at = sym is ∙ second_at tiles contact k p second (omega arith) in
          subst (λ (q : CellSide × CellSide). IsEdgeSide tiles q.0) (sym at) (pair_sides tiles contact (k - span_length contact.first) sizes range (omega arith)).1
    ]
