-- Amounts of a cell, and its gains by their place.
use Rattle.std.proofs.Common.{◌≡◌, sym, subst, ℕ, zero, suc, arith, List, [], ◌∷◌}
use Rattle.std.specs.Prelude.{ℤ, pos, ◌+ℤ◌, All, slice_set, slice_index_or}
use Rattle.std.proofs.lemmas.Int.{ints}
use Rattle.std.proofs.lemmas.List.Elements.{All-tail, All-head, All-set}
use Rattle.cpl_fixed.specs.declared.gain.Gain.{Gain}
use Rattle.cpl_ice.specs.declared.cell.IceCell.{IceCell}
use Rattle.cpl_ice.specs.declared.parts.Salty.{Salty}
use Rattle.cpl_ice.specs.Cells.{IsAmount, IsSalty, IsIceCell, CanGain, heat_at, gained}

-- what stands at any place is an amount
pub amount_at : (xs : List ℤ) (n : ℕ) → All IsAmount xs → IsAmount (slice_index_or xs n (pos 0))
amount_at [] n each = (omega (arith, ints), omega (arith, ints))
amount_at (x ∷ xs) zero each = All-head IsAmount x xs each
amount_at (x ∷ xs) (suc n) each = amount_at xs n (All-tail IsAmount x xs each)

-- the cell with another skin
pub with_skin : (cell : IceCell) (skin : Salty) → IsIceCell cell → IsSalty skin → IsIceCell (record cell { skin = skin })
with_skin cell skin is h = record {
  area = is.area;
  categories = is.categories;
  parts = is.parts;
  whole = is.whole;
  ice = is.ice;
  heat = is.heat;
  frazil_water = is.frazil_water;
  frazil_heat = is.frazil_heat;
  skin = h;
}

-- the cell with another heat of a category
pub with_heat : (cell : IceCell) (n : ℕ) (x : ℤ) → IsIceCell cell → IsAmount x → IsIceCell (record cell { heat = slice_set cell.heat n x })
with_heat cell n x is h = record {
  area = is.area;
  categories = is.categories;
  parts = is.parts;
  whole = is.whole;
  ice = is.ice;
  heat = All-set IsAmount cell.heat n x h is.heat;
  frazil_water = is.frazil_water;
  frazil_heat = is.frazil_heat;
  skin = is.skin;
}

pub can_skin : (cell : IceCell) (k : ℕ) (gain : Gain) → k ≡ 0 → CanGain cell k gain → CanGain cell 0 gain
can_skin cell k gain e h = subst (λ (n : ℕ). CanGain cell n gain) e h

pub can_warm : (cell : IceCell) (k n : ℕ) (gain : Gain) → k ≡ suc n → CanGain cell k gain → CanGain cell (suc n) gain
can_warm cell k n gain e h = subst (λ (n : ℕ). CanGain cell n gain) e h

pub skin_is : (cell : IceCell) (k : ℕ) (gain : Gain) (water heat : ℤ) → k ≡ 0 → water ≡ cell.skin.water +ℤ gain.water → heat ≡ cell.skin.heat +ℤ gain.heat
    → ◌≡◌ {A = IceCell} (record cell { skin = record { water = water; heat = heat; salt = cell.skin.salt } }) (gained cell k gain)
skin_is cell k gain water heat e f g =
    let P = λ (n : ℕ). ◌≡◌ {A = IceCell} (record cell { skin = record { water = water; heat = heat; salt = cell.skin.salt } }) (gained cell n gain) in
    subst P (sym e) (λ i. record cell { skin = record { water = f i; heat = g i; salt = cell.skin.salt } })

pub warm_is : (cell : IceCell) (k n : ℕ) (gain : Gain) (heat : ℤ) → k ≡ suc n → heat ≡ heat_at cell n +ℤ gain.heat
    → ◌≡◌ {A = IceCell} (record cell { heat = slice_set cell.heat n heat }) (gained cell k gain)
warm_is cell k n gain heat e f =
    let P = λ (n' : ℕ). ◌≡◌ {A = IceCell} (record cell { heat = slice_set cell.heat n heat }) (gained cell n' gain) in
    subst P (sym e) (λ i. record cell { heat = slice_set cell.heat n (f i) })
