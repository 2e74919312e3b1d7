-- Numbers of spots that are set one after the other.
use Rattle.std.proofs.Common.{◌≡◌, ◌≢◌, ◌∙◌, refl, sym, ap, subst, ℕ, ◌+◌, ◌*◌, ◌/◌, ◌≤◌, ◌⊎◌, arith, inl, inr, List, Bool, true, false}
use Rattle.std.specs.Prelude.{ℤ, pos, min, if◌then◌else◌}
use Rattle.std.proofs.lemmas.Int.{ints}
use Rattle.cpl_fixed.specs.Amounts.{amount}
use Rattle.cpl_fixed.specs.declared.limits.TheConstants.{MOST_FACE}
use Rattle.cpl_transport.specs.Heights.{IsHeight}
use Rattle.cpl_transport.proofs.Bounds.{read}
use Rattle.std.proofs.lemmas.Bool.{cases_eq}
use Rattle.cpl_mosaic.specs.declared.parts.Side.{Side}
use Rattle.cpl_mosaic.specs.declared.parts.Side.TheVariants.{W, E, S, N}
use Rattle.cpl_field.specs.Spots.{FieldNumbers, Spot, CellAt, HoleAt, IsSpot, IsSameShape, Sets, number_at}
use Rattle.cpl_ocean.specs.Layers.{LayerNumbers}
use Rattle.cpl_ocean.specs.declared.basin.Basin.{Basin}
use Rattle.cpl_ocean.specs.Columns.{Fills, IsAtDepth, IsCell, IsCellBefore, IsCellBelow, IsClose, IsHoleBefore, IsNear, column_water, height_at}
use Rattle.cpl_ocean.specs.Flows.{AreHeights, is_wet}
use Rattle.cpl_ocean.specs.Sweeps.{IsBasin}
use Rattle.cpl_ocean.specs.Zones.{IsRead}
use Rattle.cpl_ocean.specs.declared.zone.Zone.{Zone}
use Rattle.cpl_ocean.specs.declared.zone.Zone.TheVariants.{Inner, Rim}
use Rattle.cpl_ocean.proofs.Around.{spot_same}
use Rattle.cpl_ocean.proofs.Stored.{back_shape, column, depth_of, kind, row, then_shape}

abbrev code : Side → ℕ
code W = 0
code E = 1
code S = 2
code N = 3

abbrev code_of : Spot → ℕ
code_of (CellAt i j) = 4
code_of (HoleAt side k depth) = code side

pub own_height : (x : ℤ) → IsHeight x → read x ≡ x
own_height x h = omega (arith, ints, h.0, h.1)

height_range : (m : ℕ) (b : Bool) → IsHeight (if b then pos (min (amount MOST_FACE) m) else pos 0)
height_range m true = (omega (arith, ints), omega (arith, ints))
height_range m false = (omega (arith, ints), omega (arith, ints))

module _ (area : FieldNumbers) (number : Spot → ℤ) where
  -- one spot more
  pub filled_one : (P Q : Spot → Type 0) (old heights new : FieldNumbers) → IsSameShape area old → Fills area number P old heights → (spot : Spot) (v : ℤ) → Sets heights new spot v → v ≡ number spot
      → ((other : Spot) → Q other → (other ≡ spot) ⊎ (P other × (other ≢ spot)))
      → ((other : Spot) → P other → Q other) → Q spot → Fills area number Q old new
  filled_one P Q old heights new same before spot v sets is split keep there = record {
    shape = then_shape old heights new before.shape sets.shape;
    meant = λ other on q. elim (split other q) [
      | inl e ↦ ap (number_at new) e ∙ sets.there ∙ is ∙ ap number (sym e)
      | inr w ↦ sets.others other (spot_same old heights before.shape other (spot_same area old same other on)) w.1 ∙ before.meant other on w.0
    ];
    others = λ other on never.
        sets.others other (spot_same old heights before.shape other (spot_same area old same other on)) (λ e. never (subst Q (sym e) there))
        ∙ before.others other on (λ p. never (keep other p));
  }

  -- one set of spots more
  pub filled_more : (P Q R : Spot → Type 0) (old heights new : FieldNumbers) → Fills area number P old heights → Fills area number Q heights new
      → ((spot : Spot) → R spot → Q spot ⊎ (P spot × (Q spot → ⊥)))
      → ((spot : Spot) → P spot → R spot) → ((spot : Spot) → Q spot → R spot) → Fills area number R old new
  filled_more P Q R old heights new before after split first second = record {
    shape = then_shape old heights new before.shape after.shape;
    meant = λ spot on r. elim (split spot r) [
      | inl q ↦ after.meant spot on q
      | inr w ↦ after.others spot on w.1 ∙ before.meant spot on w.0
    ];
    others = λ spot on never. after.others spot on (λ q. never (second spot q)) ∙ before.others spot on (λ p. never (first spot p));
  }

  pub filled_by : (P Q : Spot → Type 0) (old new : FieldNumbers) → Fills area number P old new → ((spot : Spot) → IsSpot area spot → Q spot → P spot) → ((spot : Spot) → IsSpot area spot → P spot → Q spot) → Fills area number Q old new
  filled_by P Q old new is back to = record {
    shape = is.shape;
    meant = λ spot on q. is.meant spot on (back spot on q);
    others = λ spot on never. is.others spot on (λ p. never (to spot on p));
  }

  cell_split : (i j : ℕ) (other : Spot) → IsCellBefore (i + 1) j other → (other ≡ CellAt i j) ⊎ (IsCellBefore i j other × (other ≢ CellAt i j))
  cell_split i j other w = elim (cases_eq w.0 i) [
    | inl e ↦ inl (w.2 ∙ ap (λ (k : ℕ). CellAt k j) e)
    | inr ne ↦ let other_column : w.0 ≡ i → ⊥ = ne in let below = w.1 in inr ((w.0, omega arith, w.2), λ same. ne (ap column (sym w.2 ∙ same)))
  ]

  pub filled_cell : (i j : ℕ) (old heights new : FieldNumbers) → IsSameShape area old → Fills area number (IsCellBefore i j) old heights → (v : ℤ) → Sets heights new (CellAt i j) v → v ≡ number (CellAt i j) → Fills area number (IsCellBefore (i + 1) j) old new
  filled_cell i j old heights new same before v sets is =
      filled_one (IsCellBefore i j) (IsCellBefore (i + 1) j) old heights new same before (CellAt i j) v sets is (cell_split i j)
      (λ other w. let below = w.1 in (w.0, omega arith, w.2)) (i, omega arith, refl)

  hole_split : (side : Side) (depth n : ℕ) (other : Spot) → IsHoleBefore side depth (n + 1) other → (other ≡ HoleAt side n depth) ⊎ (IsHoleBefore side depth n other × (other ≢ HoleAt side n depth))
  hole_split side depth n other w = elim (cases_eq w.0 n) [
    | inl e ↦ inl (w.2 ∙ ap (λ (k : ℕ). HoleAt side k depth) e)
    | inr ne ↦ let other_place : w.0 ≡ n → ⊥ = ne in let below = w.1 in inr ((w.0, omega arith, w.2), λ same. ne (ap column (sym w.2 ∙ same)))
  ]

  pub filled_hole : (side : Side) (depth n : ℕ) (old heights new : FieldNumbers) → IsSameShape area old → Fills area number (IsHoleBefore side depth n) old heights → (v : ℤ) → Sets heights new (HoleAt side n depth) v → v ≡ number (HoleAt side n depth) → Fills area number (IsHoleBefore side depth (n + 1)) old new
  filled_hole side depth n old heights new same before v sets is =
      filled_one (IsHoleBefore side depth n) (IsHoleBefore side depth (n + 1)) old heights new same before (HoleAt side n depth) v sets is (hole_split side depth n)
      (λ other w. let below = w.1 in (w.0, omega arith, w.2)) (n, omega arith, refl)

  -- one row more
  on_column : (spot : Spot) (i k : ℕ) → IsSpot area spot → spot ≡ CellAt i k → IsSpot area (CellAt i k)
  on_column spot i k on e = subst (IsSpot area) e on

  pub filled_row : (j : ℕ) (old heights new : FieldNumbers) → Fills area number (IsCellBelow j) old heights → Fills area number (IsCellBefore area.nx j) heights new → Fills area number (IsCellBelow (j + 1)) old new
  filled_row j old heights new before after = record {
    shape = then_shape old heights new before.shape after.shape;
    meant = λ spot on w. elim (cases_eq w.1 j) [
      | inl e ↦ let inside = on_column spot w.0 w.1 on w.3 in after.meant spot on (w.0, inside.0, w.3 ∙ ap (λ (k : ℕ). CellAt w.0 k) e)
      | inr ne ↦
          let other_row : w.1 ≡ j → ⊥ = ne in
          let below = w.2 in
          after.others spot on (λ v. ne (ap row (sym w.3 ∙ v.2))) ∙ before.meant spot on (w.0, w.1, omega arith, w.3)
    ];
    others = λ spot on never.
        after.others spot on (λ v. never (v.0, j, omega arith, v.2)) ∙ before.others spot on (λ w. let below = w.2 in never (w.0, w.1, omega arith, w.3));
  }

  pub rows_all : (j : ℕ) (old new : FieldNumbers) → area.ny ≤ j → Fills area number (IsCellBelow j) old new → Fills area number IsCell old new
  rows_all j old new all is =
      filled_by (IsCellBelow j) IsCell old new is
      (λ spot on w. let inside = on_column spot w.0 w.1 on w.2 in let below = inside.1 in (w.0, w.1, omega arith, w.2))
      (λ spot on w. (w.0, w.1, w.3))

  hole_on : (spot : Spot) (side : Side) (k depth : ℕ) → IsSpot area spot → spot ≡ HoleAt side k depth → IsSpot area (HoleAt side k depth)
  hole_on spot side k depth on e = subst (IsSpot area) e on

  -- holes beyond two sides are not the same
  apart : (side other : Side) → (code side ≡ code other → ⊥) → (depth m n : ℕ) (spot : Spot) → IsHoleBefore side depth m spot → IsHoleBefore other depth n spot → ⊥
  apart side other differ depth m n spot v w = differ (ap code_of (sym v.2 ∙ w.2))

  -- the holes of one depth beyond W, then E, then S, then N
  pub sides_all : (depth : ℕ) (a b c d e : FieldNumbers) (nx ny : ℕ) → area.nx ≡ nx → area.ny ≡ ny → Fills area number (IsHoleBefore W depth ny) a b → Fills area number (IsHoleBefore E depth ny) b c → Fills area number (IsHoleBefore S depth nx) c d → Fills area number (IsHoleBefore N depth nx) d e → Fills area number (IsAtDepth depth) a e
  sides_all depth a b c d e nx ny columns rows west east south north =
      let P : Spot → Type 0 = λ spot. IsHoleBefore W depth ny spot ⊎ IsHoleBefore E depth ny spot in
      let Q : Spot → Type 0 = λ spot. P spot ⊎ IsHoleBefore S depth nx spot in
      let R : Spot → Type 0 = λ spot. Q spot ⊎ IsHoleBefore N depth nx spot in
      let two = filled_more (IsHoleBefore W depth ny) (IsHoleBefore E depth ny) P a b c west east
      (λ spot r. elim r [ inl w ↦ inr (w, λ q. apart W E (λ g. absurd (omega (arith, g))) depth ny ny spot w q) | inr q ↦ inl q ])
      (λ spot w. inl w) (λ spot q. inr q) in
      let three = filled_more P (IsHoleBefore S depth nx) Q a c d two south
      (λ spot r. elim r [
        | inl p ↦ inr (p, λ q. elim p [ inl w ↦ apart W S (λ g. absurd (omega (arith, g))) depth ny nx spot w q | inr w ↦ apart E S (λ g. absurd (omega (arith, g))) depth ny nx spot w q ])
        | inr q ↦ inl q
      ])
      (λ spot w. inl w) (λ spot q. inr q) in
      let four = filled_more Q (IsHoleBefore N depth nx) R a d e three north
      (λ spot r. elim r [
        | inl p ↦ inr (
          p,
          λ q. elim p [
            | inl o ↦ elim o [ inl w ↦ apart W N (λ g. absurd (omega (arith, g))) depth ny nx spot w q | inr w ↦ apart E N (λ g. absurd (omega (arith, g))) depth ny nx spot w q ]
            | inr w ↦ apart S N (λ g. absurd (omega (arith, g))) depth nx nx spot w q
          ],
        )
        | inr q ↦ inl q
      ])
      (λ spot w. inl w) (λ spot q. inr q) in
      filled_by R (IsAtDepth depth) a e four
      (λ spot on w. near_side spot w.0 w.1 on w.2)
      (λ spot on r. elim r [
        | inl q ↦ elim q [
          | inl p ↦ elim p [ inl w ↦ (W, w.0, w.2) | inr w ↦ (E, w.0, w.2) ]
          | inr w ↦ (S, w.0, w.2)
        ]
        | inr w ↦ (N, w.0, w.2)
      ])
    where
      near_side : (spot : Spot) (side : Side) (k : ℕ) → IsSpot area spot → spot ≡ HoleAt side k depth → ((IsHoleBefore W depth ny spot ⊎ IsHoleBefore E depth ny spot) ⊎ IsHoleBefore S depth nx spot) ⊎ IsHoleBefore N depth nx spot
      near_side spot W k on e = let inside = hole_on spot W k depth on e in let below = inside.0 in inl (inl (inl (k, omega arith, e)))
      near_side spot E k on e = let inside = hole_on spot E k depth on e in let below = inside.0 in inl (inl (inr (k, omega arith, e)))
      near_side spot S k on e = let inside = hole_on spot S k depth on e in let below = inside.0 in inl (inr (k, omega arith, e))
      near_side spot N k on e = let inside = hole_on spot N k depth on e in let below = inside.0 in inr (k, omega arith, e)

pub raised_range : (area : FieldNumbers) (layers : List LayerNumbers) (P : Spot → Type 0) (old new : FieldNumbers) → IsSameShape area old → Fills area (height_at area layers) P old new → AreHeights old → ((spot : Spot) → P spot ⊎ (P spot → ⊥)) → AreHeights new
raised_range area layers P old new same is range decide spot on =
    let back = spot_same new area (back_shape area new (then_shape area old new same is.shape)) spot on in
    elim (decide spot) [
      | inl p ↦ subst IsHeight (sym (is.meant spot back p)) (height_range (256 * amount (column_water layers spot) / amount (number_at area spot)) (is_wet area spot))
      | inr never ↦ subst IsHeight (sym (is.others spot back never)) (range spot (spot_same area old same spot back))
    ]

is_cell : (spot : Spot) → IsCell spot ⊎ (IsCell spot → ⊥)
is_cell (CellAt i j) = inl (i, j, refl)
is_cell (HoleAt side k depth) = inr (λ w. cell_hole w.2)
  where
    cell_hole : {i j : ℕ} → HoleAt side k depth ≡ CellAt i j → ⊥
    cell_hole e = absurd (omega (arith, ap kind e))

is_near : (spot : Spot) → IsNear spot ⊎ (IsNear spot → ⊥)
is_near (CellAt i j) = inr (λ w. absurd (omega (arith, ap kind w.2)))
is_near (HoleAt side k depth) = elim (cases_eq depth 1) [
  | inl e ↦ inl (side, k, ap (λ (d : ℕ). HoleAt side k d) e)
  | inr ne ↦ inr (λ w. ne (ap depth_of w.2))
]

is_close : (spot : Spot) → IsClose spot ⊎ (IsClose spot → ⊥)
is_close spot = elim (is_cell spot) [
  | inl cell ↦ inl (inl cell)
  | inr not_cell ↦ elim (is_near spot) [ inl near ↦ inl (inr near) | inr not_near ↦ inr (λ close. elim close [ inl cell ↦ not_cell cell | inr near ↦ not_near near ]) ]
]

is_read : (zone : Zone) (spot : Spot) → IsRead zone spot ⊎ (IsRead zone spot → ⊥)
is_read Inner spot = is_cell spot
is_read Rim spot = is_close spot

-- a basin with other heights
pub raised_kept : (zone : Zone) (basin : Basin) (layers : List LayerNumbers) (heights : FieldNumbers) → IsBasin basin → Fills basin.area (height_at basin.area layers) (IsRead zone) basin.heights heights → IsBasin (record basin { heights = heights })
raised_kept zone basin layers heights is to = record {
  columns = is.columns;
  rows = is.rows;
  width = is.width;
  shape = is.shape;
  areas = is.areas;
  alike = then_shape basin.area basin.heights heights is.alike to.shape;
  heights = raised_range basin.area layers (IsRead zone) basin.heights heights is.alike to is.heights (is_read zone);
}

-- cells, and then the holes next to them
pub close_filled : (area : FieldNumbers) (number : Spot → ℤ) (old heights new : FieldNumbers) → Fills area number IsCell old heights → Fills area number IsNear heights new → Fills area number IsClose old new
close_filled area number old heights new cells near =
    filled_more area number IsCell IsNear IsClose old heights new cells near
    (λ spot close. elim (is_near spot) [ inl p ↦ inl p | inr never ↦ inr (elim close [ inl w ↦ w | inr p ↦ absurd (never p) ], never) ])
    (λ spot cell. inl cell) (λ spot p. inr p)
