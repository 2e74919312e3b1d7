-- What freezes and what the skin takes.
use Rattle.std.proofs.Common.{◌≡◌, arith, ℕ, ◌*◌, ◌/◌, ◌≤◌, pos}
use Rattle.std.specs.Prelude.{ℤ, ◌+ℤ◌, ◌-ℤ◌}
use Rattle.std.proofs.lemmas.Int.{ints}
use Rattle.cpl_fixed.specs.Amounts.{IsAmount, amount}
use Rattle.cpl_ice.specs.declared.parts.Salty.{Salty}
use Rattle.cpl_ice.specs.Cells.{IsFlight}
use Rattle.cpl_transport.specs.Cuts.{cut_of, frazil, frazil_of, skin_of, uncut, unfrozen}
use Rattle.cpl_transport.specs.Salts.{IsSalty}

-- at most half of the water freezes, with at most the heat that is there
pub frazil_most : (water heat : ℕ) → (2 * frazil water heat ≤ water) × (1_092 * frazil water heat ≤ heat)
frazil_most water heat = (omega arith, omega arith)

pub frazil_amounts : (top : Salty) → IsSalty top → IsAmount (pos (frazil_of top)) × IsAmount (pos (1_092 * frazil_of top))
frazil_amounts top h =
    let most = frazil_most (amount top.water) (amount top.heat) in (
      (omega (arith, ints), omega (arith, ints, most.0, h.water.1)),
      (omega (arith, ints), omega (arith, ints, most.1, h.heat.1)),
    )

pub unfrozen_salty : (top : Salty) → IsSalty top → IsSalty (unfrozen top)
unfrozen_salty top h =
    let most = frazil_most (amount top.water) (amount top.heat) in
    record {
      water = (omega (arith, ints, most.0, h.water.0, h.water.1), omega (arith, ints, most.0, h.water.0, h.water.1));
      heat = (omega (arith, ints, most.1, h.heat.0, h.heat.1), omega (arith, ints, most.1, h.heat.0, h.heat.1));
      salt = h.salt;
    }

-- a quarter of an amount, and what is left
quarter_amount : (x : ℤ) → IsAmount x → IsAmount (pos (amount x / 4)) × IsAmount (x -ℤ pos (amount x / 4))
quarter_amount x h = ((omega (arith, ints, h.0, h.1), omega (arith, ints, h.0, h.1)), (omega (arith, ints, h.0, h.1), omega (arith, ints, h.0, h.1)))

pub skin_salty : (it : Salty) → IsSalty it → IsSalty (skin_of it)
skin_salty it h = record { water = (quarter_amount it.water h.water).0; heat = (quarter_amount it.heat h.heat).0; salt = (quarter_amount it.salt h.salt).0 }

pub cut_flight : (top : Salty) → IsSalty top → IsFlight (cut_of top)
cut_flight top h = record {
  frazil_water = (frazil_amounts top h).0;
  frazil_heat = (frazil_amounts top h).1;
  skin = skin_salty (unfrozen top) (unfrozen_salty top h);
}

pub uncut_salty : (top : Salty) → IsSalty top → IsSalty (uncut top)
uncut_salty top h =
    let rest = unfrozen_salty top h in
    record {
      water = (quarter_amount (unfrozen top).water rest.water).1;
      heat = (quarter_amount (unfrozen top).heat rest.heat).1;
      salt = (quarter_amount (unfrozen top).salt rest.salt).1;
    }

-- what is taken in two parts, and what is left
taken_twice : (x y z : ℤ) → x ≡ (x -ℤ y -ℤ z) +ℤ y +ℤ z
taken_twice x y z = omega (arith, ints)

taken_once : (x z : ℤ) → x ≡ (x -ℤ z) +ℤ z
taken_once x z = omega (arith, ints)

pub cut_water : (top : Salty) → top.water ≡ (uncut top).water +ℤ (cut_of top).frazil_water +ℤ (cut_of top).skin.water
cut_water top = taken_twice top.water (pos (frazil_of top)) (skin_of (unfrozen top)).water

pub cut_heat : (top : Salty) → top.heat ≡ (uncut top).heat +ℤ (cut_of top).frazil_heat +ℤ (cut_of top).skin.heat
cut_heat top = taken_twice top.heat (pos (1_092 * frazil_of top)) (skin_of (unfrozen top)).heat

pub cut_salt : (top : Salty) → top.salt ≡ (uncut top).salt +ℤ (cut_of top).skin.salt
cut_salt top = taken_once top.salt (skin_of (unfrozen top)).salt
