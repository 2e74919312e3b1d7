-- What moves through a face is seen from both of its cells, with opposite signs.
use Rattle.std.proofs.Common.{◌≡◌, ◌∙◌, refl, sym, ap, ℕ, ◌+◌, ◌-◌, ◌<◌, ◌≤◌, arith, Bool, true, false, neg_ℤ}
use Rattle.std.specs.Prelude.{ℤ, pos, ◌-ℤ◌, ◌&&◌, nat_lt, nat_le, if◌then◌else◌}
use Rattle.std.proofs.lemmas.Bool.Decides.{nat_tests}
use Rattle.std.proofs.lemmas.Int.{ints}
use Rattle.cpl_mosaic.specs.declared.parts.Side.{Side}
use Rattle.cpl_mosaic.specs.declared.parts.Side.TheVariants.{W, E, S, N}
use Rattle.cpl_field.specs.Spots.{FieldNumbers, Spot, CellAt, HoleAt, out_from}
use Rattle.cpl_ice.specs.declared.parts.Salty.{Salty}
use Rattle.cpl_transport.specs.Moves.{through}
use Rattle.cpl_transport.specs.Salts.{AreSmall, IsSmall, nothing, turned}
use Rattle.cpl_transport.proofs.Leaving.{through_turned}
use Rattle.cpl_ocean.specs.declared.fields.Fields.{Fields}
use Rattle.cpl_ocean.specs.Flows.{behind, beyond, flow_out, is_open, is_wet, next_number, open_or}
use Rattle.cpl_ocean.specs.Layers.{salty_at}
use Rattle.cpl_ocean.proofs.Driven.{Odd, east_cell, east_meets, north_cell, north_meets, south_cell, west_cell}

-- the same the other way is as small
small_turned : (x : ℤ) → IsSmall x → IsSmall (neg_ℤ x)
small_turned x small = (omega (arith, ints, small.1), omega (arith, ints, small.0))

pub turned_small : (it : Salty) → AreSmall it → AreSmall (turned it)
turned_small it small = record {
  water = small_turned it.water small.water;
  heat = small_turned it.heat small.heat;
  salt = small_turned it.salt small.salt;
}

-- by the four cells in a row
abbrev by : Bool → ℤ → (back here there far : Salty) → Salty
by b u back here there far = if b then through u back here there far else nothing

by_turned : (b : Bool) (u : ℤ) (back here there far : Salty) → by b (neg_ℤ u) far there here back ≡ turned (by b u back here there far)
by_turned true u back here there far = through_turned u back here there far
by_turned false u back here there far = refl

both_ways : (a b : Bool) → (a && b) ≡ (b && a)
both_ways true true = refl
both_ways true false = refl
both_ways false true = refl
both_ways false false = refl

minus_is : (x y : ℤ) → pos 0 -ℤ x ≡ y → x ≡ neg_ℤ y
minus_is x y e = omega (arith, ints, e)

module _ (odd : Odd) (area : FieldNumbers) (height : Spot → ℤ) (slope : ℕ) (fields : Fields) where
  abbrev salty : Spot → Salty
  salty spot = salty_at fields spot

  abbrev number : (i j : ℕ) → Side → ℤ
  number i j side = next_number area height slope fields.faces i j side

  far_east : (i j : ℕ) → out_from area (i + 1) j E 1 ≡ out_from area i j E 2
  far_east i j = ap (λ (n : ℕ). if nat_lt n area.nx then CellAt n j else HoleAt E j (n + 1 - area.nx)) (let e : i + 1 + 1 ≡ i + 2 = omega arith in e)

  far_north : (i j : ℕ) → out_from area i (j + 1) N 1 ≡ out_from area i j N 2
  far_north i j = ap (λ (n : ℕ). if nat_lt n area.ny then CellAt i n else HoleAt N i (n + 1 - area.ny)) (let e : j + 1 + 1 ≡ j + 2 = omega arith in e)

  far_west : (i j : ℕ) → 1 ≤ i → out_from area (i + 1) j W 2 ≡ out_from area i j W 1
  far_west i j some =
      let one : nat_le 2 (i + 1) ≡ true = grind (arith, nat_tests) in
      let other : nat_le 1 i ≡ true = grind (arith, nat_tests) in
      let test : nat_le 2 (i + 1) ≡ nat_le 1 i = one ∙ sym other in
      let cell : i + 1 - 2 ≡ i - 1 = omega arith in
      let depth : 2 - (i + 1) ≡ 1 - i = omega arith in
      λ t. if test t then CellAt (cell t) j else HoleAt W j (depth t)

  far_south : (i j : ℕ) → 1 ≤ j → out_from area i (j + 1) S 2 ≡ out_from area i j S 1
  far_south i j some =
      let one : nat_le 2 (j + 1) ≡ true = grind (arith, nat_tests) in
      let other : nat_le 1 j ≡ true = grind (arith, nat_tests) in
      let test : nat_le 2 (j + 1) ≡ nat_le 1 j = one ∙ sym other in
      let cell : j + 1 - 2 ≡ j - 1 = omega arith in
      let depth : 2 - (j + 1) ≡ 1 - j = omega arith in
      λ t. if test t then CellAt i (cell t) else HoleAt S i (depth t)

  pub west_turned : (i j : ℕ) → 1 ≤ i → i + 1 < area.nx → flow_out area height slope fields (i + 1) j W ≡ turned (flow_out area height slope fields i j E)
  west_turned i j some column =
      let there = east_cell odd area height slope fields.faces i j column in
      let here = west_cell odd area height slope fields.faces i j in
      let test : is_open area (i + 1) j W ≡ is_open area i j E = (λ t. is_wet area (sym there t) && is_wet area (here t)) ∙ both_ways (is_wet area (out_from area i j E 1)) (is_wet area (CellAt i j)) in
      let u : number (i + 1) j W ≡ neg_ℤ (number i j E) = minus_is (number (i + 1) j W) (number i j E) (east_meets odd area height slope fields.faces i j column) in
      let back : behind area (i + 1) j W ≡ beyond area i j E = λ t. open_or area (far_east i j t) (sym there t) in
      let far : beyond area (i + 1) j W ≡ behind area i j E = λ t. open_or area (far_west i j some t) (here t) in
      (λ t. by (test t) (u t) (salty (back t)) (salty (sym there t)) (salty (here t)) (salty (far t)))
      ∙ by_turned (is_open area i j E) (number i j E) (salty (behind area i j E)) (salty (CellAt i j)) (salty (out_from area i j E 1)) (salty (beyond area i j E))

  pub south_turned : (i j : ℕ) → 1 ≤ j → j + 1 < area.ny → flow_out area height slope fields i (j + 1) S ≡ turned (flow_out area height slope fields i j N)
  south_turned i j some row =
      let there = north_cell odd area height slope fields.faces i j row in
      let here = south_cell odd area height slope fields.faces i j in
      let test : is_open area i (j + 1) S ≡ is_open area i j N = (λ t. is_wet area (sym there t) && is_wet area (here t)) ∙ both_ways (is_wet area (out_from area i j N 1)) (is_wet area (CellAt i j)) in
      let u : number i (j + 1) S ≡ neg_ℤ (number i j N) = minus_is (number i (j + 1) S) (number i j N) (north_meets odd area height slope fields.faces i j row) in
      let back : behind area i (j + 1) S ≡ beyond area i j N = λ t. open_or area (far_north i j t) (sym there t) in
      let far : beyond area i (j + 1) S ≡ behind area i j N = λ t. open_or area (far_south i j some t) (here t) in
      (λ t. by (test t) (u t) (salty (back t)) (salty (sym there t)) (salty (here t)) (salty (far t)))
      ∙ by_turned (is_open area i j N) (number i j N) (salty (behind area i j N)) (salty (CellAt i j)) (salty (out_from area i j N 1)) (salty (beyond area i j N))
