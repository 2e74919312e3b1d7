-- Cells of the ice that stay as they are.
use Rattle.std.proofs.Common.{◌≡◌, ◌∙◌, refl, sym, ap, subst, Bool, true, cond, ltb, ℕ, ◌+◌, ◌*◌, ◌≤◌, arith}
use Rattle.std.specs.Prelude.{ℤ, pos, negsuc, ◌+ℤ◌, ◌≤ℤ◌}
use Rattle.std.proofs.lemmas.Bool.{lt-ltb}
use Rattle.std.proofs.lemmas.Int.{ints}
use Rattle.cpl_fixed.specs.Amounts.{amount, at}
use Rattle.cpl_fixed.specs.declared.gain.Gain.{Gain}
use Rattle.cpl_fixed.specs.declared.rates.Rates.{Rates}
use Rattle.cpl_xgrid.specs.declared.grid.Grid.{Grid}
use Rattle.cpl_ice.specs.declared.cell.IceCell.{IceCell}
use Rattle.cpl_ice.specs.declared.parts.Salty.{Salty}
use Rattle.cpl_ice.specs.Cells.{IsIceCell, IsSalty, nothing}
use Rattle.cpl_ice.specs.Slow.{CanSlow, returned, slowed}
use Rattle.cpl_ice.proofs.Totals.{total_least}
use Rattle.cpl_state.specs.declared.whole.Mid.{Mid}
use Rattle.cpl_state.specs.States.{categories, ice_cell}
use Rattle.cpl_state.specs.Slow.{returned_if_wet, slowed_if_wet}
use Rattle.cpl_slow.specs.declared.ice.IceLists.{IceLists}
use Rattle.cpl_slow.specs.Ice.{IsBare, IsCellPut, with_ice}
use Rattle.cpl_slow.proofs.Bare.{IsBareCell, bare_slowed}
use Rattle.cpl_slow.proofs.Filled.{filled_inside, filled_none, put_same}

-- the skin with what arrived
abbrev pub with_runoff : Salty → Gain → Salty
with_runoff skin runoff = record { water = skin.water +ℤ runoff.water; heat = skin.heat +ℤ runoff.heat; salt = skin.salt }

pub skin_water_fits : (cell : IceCell) (runoff : Gain) → IsIceCell cell → CanSlow cell runoff → (cell.skin.water +ℤ runoff.water) ≤ℤ pos 4611686018427387903
skin_water_fits cell runoff is can =
    let least = total_least cell.ice is.ice in
    omega (arith, ints, least, can.water, is.frazil_water.0)

pub skin_heat_fits : (cell : IceCell) (runoff : Gain) → IsIceCell cell → CanSlow cell runoff → (cell.skin.heat +ℤ runoff.heat) ≤ℤ pos 4611686018427387903
skin_heat_fits cell runoff is can =
    let least = total_least cell.heat is.heat in
    omega (arith, ints, least, can.heat, is.frazil_heat.0)

-- they are in range
pub with_runoff_is : (cell : IceCell) (runoff : Gain) → IsIceCell cell → CanSlow cell runoff → IsSalty (with_runoff cell.skin runoff)
with_runoff_is cell runoff is can = record {
  water = (omega (arith, ints, is.skin.water.0, can.runoff_water), skin_water_fits cell runoff is can);
  heat = (omega (arith, ints, is.skin.heat.0, can.runoff_heat), skin_heat_fits cell runoff is can);
  salt = is.skin.salt;
}

module _ (grid : Grid) (mid : Mid) (lists : IceLists) (n : ℕ) (few : categories grid ≤ 5) (bare : IsBare (categories grid) n lists mid) where
  -- a bare cell of the lists
  pub bare_cell : IsBareCell (ice_cell grid (with_ice mid lists) n)
  bare_cell = record {
    open_water = filled_inside 6 (categories grid + 1) n lists.parts.items 0 (omega arith) (omega arith) ∙ ap (at lists.parts.items) (let e : n * (categories grid + 1) + 0 ≡ n * (categories grid + 1) = omega arith in e) ∙ bare.open_water;
    ice = filled_none 5 (categories grid) n lists.ice.items few bare.ice;
    heat = filled_none 5 (categories grid) n lists.heat.items few bare.heat;
    frazil_water = bare.frazil_water;
    frazil_heat = bare.frazil_heat;
  }

  -- it stays in the lists as it is
  pub bare_put : (rates : Rates) → IsIceCell (ice_cell grid (with_ice mid lists) n) → IsCellPut (categories grid) n (slowed rates (ice_cell grid (with_ice mid lists) n)) lists lists
  bare_put rates is =
      subst (λ (it : IceCell). IsCellPut (categories grid) n it lists lists) (sym (bare_slowed rates (ice_cell grid (with_ice mid lists) n) is bare_cell)) (record {
        parts = put_same 6 (categories grid + 1) n lists.parts.items (omega arith);
        ice = put_same 5 (categories grid) n lists.ice.items few;
        heat = put_same 5 (categories grid) n lists.heat.items few;
        to_ocean = refl;
      })

-- A cell without an area stays as it is and gives nothing back.
pub dry_same : (rates : Rates) (cell : IceCell) → cell.area ≡ pos 0 → slowed_if_wet rates cell ≡ cell
dry_same rates cell e = ap (λ (x : ℤ). cond (ltb 0 (amount x)) (slowed rates cell) cell) e

pub dry_back : (rates : Rates) (cell : IceCell) (runoff : Gain) → cell.area ≡ pos 0 → returned_if_wet rates cell runoff ≡ nothing
dry_back rates cell runoff e = ap (λ (x : ℤ). cond (ltb 0 (amount x)) (returned rates cell runoff) nothing) e

has_area : (x : ℤ) → pos 1 ≤ℤ x → ltb 0 (amount x) ≡ true
has_area (pos n) h = lt-ltb 0 n (omega (arith, ints, h))
has_area (negsuc n) h = absurd (omega (arith, ints, h))

pub wet_slowed : (rates : Rates) (cell : IceCell) → IsIceCell cell → slowed_if_wet rates cell ≡ slowed rates cell
wet_slowed rates cell is = ap (λ (b : Bool). cond b (slowed rates cell) cell) (has_area cell.area is.area.0)

pub wet_back : (rates : Rates) (cell : IceCell) (runoff : Gain) → IsIceCell cell → returned_if_wet rates cell runoff ≡ returned rates cell runoff
wet_back rates cell runoff is = ap (λ (b : Bool). cond b (returned rates cell runoff) nothing) (has_area cell.area is.area.0)

-- and its lists stay as they are
pub dry_put : (grid : Grid) (mid : Mid) (lists : IceLists) (n : ℕ) (rates : Rates) → categories grid ≤ 5 → (ice_cell grid (with_ice mid lists) n).area ≡ pos 0
    → IsCellPut (categories grid) n (slowed_if_wet rates (ice_cell grid (with_ice mid lists) n)) lists lists
dry_put grid mid lists n rates few e =
    subst (λ (it : IceCell). IsCellPut (categories grid) n it lists lists) (sym (dry_same rates (ice_cell grid (with_ice mid lists) n) e)) (record {
      parts = put_same 6 (categories grid + 1) n lists.parts.items (omega arith);
      ice = put_same 5 (categories grid) n lists.ice.items few;
      heat = put_same 5 (categories grid) n lists.heat.items few;
      to_ocean = refl;
    })
