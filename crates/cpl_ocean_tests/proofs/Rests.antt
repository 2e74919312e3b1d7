-- What the transport leaves in a piece of a row: no amount below 0 or above the budget.
use Rattle.std.proofs.Common.{◌≡◌, ◌∙◌, sym, ap, subst, ℕ, ◌+◌, ◌*◌, ◌<◌, arith, Bool, true, false, length}
use Rattle.std.specs.Prelude.{ℤ, ◌+ℤ◌, ◌-ℤ◌, if◌then◌else◌}
use Rattle.std.proofs.lemmas.Int.{ints}
use Rattle.cpl_fixed.specs.Amounts.{IsAmount}
use Rattle.cpl_mosaic.specs.declared.parts.Side.{Side}
use Rattle.cpl_mosaic.specs.declared.parts.Side.TheVariants.{W, E, S, N}
use Rattle.cpl_layout.specs.declared.piece.Piece.{Piece}
use Rattle.cpl_field.specs.Spots.{Spot, CellAt, IsSpot, number_at, out_from}
use Rattle.cpl_ice.specs.declared.parts.Salty.{Salty}
use Rattle.cpl_transport.specs.Mixing.{sum_of}
use Rattle.cpl_transport.specs.Moves.{through}
use Rattle.cpl_transport.specs.Salts.{AreOutflows, IsOutflow, IsSalty, nothing}
use Rattle.cpl_transport.proofs.Leaving.{through_outflow}
use Rattle.cpl_ocean.specs.declared.fields.Fields.{Fields}
use Rattle.cpl_ocean.specs.Columns.{HasColumn, column_left, height_at}
use Rattle.cpl_ocean.specs.Flows.{behind, beyond, flow_out, is_open, next_number}
use Rattle.cpl_ocean.specs.Layers.{layer_at, salty_at}
use Rattle.cpl_ocean.specs.Mixed.{IsAllLeft}
use Rattle.cpl_ocean.specs.Pieces.{HasAmounts, OceanNumbers, Transports, field_in, fields_at, transported_at}
use Rattle.cpl_ocean.specs.Sweeps.{IsRim}
use Rattle.cpl_ocean.proofs.Around.{out_on, spot_same}
use Rattle.cpl_ocean_tests.specs.Rows.{IsFieldOf, IsLittle, IsOceanOf, IsOfRow}
use Rattle.cpl_ocean_tests.proofs.Little.{alike}

-- a little amount is an amount
amount_of : (x : ℤ) → IsLittle x → IsAmount x
amount_of x little = (omega (arith, ints, little.0), omega (arith, ints, little.1))

module _ (piece : Piece) (ocean : OceanNumbers) (is : IsOceanOf piece ocean) where
  -- each spot of an area is one of each field
  little : (n : ℕ) (spot : Spot) → n < 3 → IsSpot ocean.area spot → IsLittle (number_at (field_in (fields_at ocean 0) n) spot)
  little n spot few on =
      let of = is.fields n few in
      of.little spot (spot_same ocean.area (field_in (fields_at ocean 0) n) (alike piece ocean.area (field_in (fields_at ocean 0) n) is.area of) spot on)

  salty : (spot : Spot) → IsSpot ocean.area spot → IsSalty (salty_at (fields_at ocean 0) spot)
  salty spot on = record {
    water = amount_of (number_at (fields_at ocean 0).water spot) (little 0 spot (omega arith) on);
    heat = amount_of (number_at (fields_at ocean 0).heat spot) (little 1 spot (omega arith) on);
    salt = amount_of (number_at (fields_at ocean 0).salt spot) (little 2 spot (omega arith) on);
  }

  -- all that is asked of its amounts
  pub amounts : HasAmounts ocean
  amounts l less spot on =
      let first : l ≡ 0 = omega (arith, is.count) in
      subst (λ (k : ℕ). IsSalty (salty_at (fields_at ocean k) spot)) (sym first) (salty spot on)

  pub column : (spot : Spot) → IsSpot ocean.area spot → HasColumn ocean.layers spot
  column spot on =
      let water = (salty spot on).water in
      record {
        each = λ l less.
            let first : l ≡ 0 = omega (arith, is.count) in
            subst (λ (k : ℕ). IsAmount (number_at (fields_at ocean k).water spot)) (sym first) water;
        total =
            subst (λ (n : ℕ). IsAmount (sum_of n (λ l. number_at (layer_at ocean.layers l).fields.water spot))) (sym is.count)
            (omega (arith, ints, water.0), omega (arith, ints, water.1));
      }

  -- what moves through a side
  none : (here there : Salty) → IsSalty here → IsSalty there → AreOutflows here there nothing
  none here there h k = record {
    water = record { most = omega (arith, ints, h.water.0); least = omega (arith, ints, k.water.0) };
    heat = record { most = omega (arith, ints, h.heat.0); least = omega (arith, ints, k.heat.0) };
    salt = record { most = omega (arith, ints, h.salt.0); least = omega (arith, ints, k.salt.0) };
  }

  pick : (b : Bool) (u : ℤ) (back here there far : Salty) → IsSalty here → IsSalty there → AreOutflows here there (if b then through u back here there far else nothing)
  pick true u back here there far h k = through_outflow u back here there far h k
  pick false u back here there far h k = none here there h k

  outflow : (slope i j : ℕ) (side : Side) → IsSpot ocean.area (CellAt i j)
      → AreOutflows (salty_at (fields_at ocean 0) (CellAt i j)) (salty_at (fields_at ocean 0) (out_from ocean.area i j side 1))
      (flow_out ocean.area (height_at ocean.area ocean.layers) slope (fields_at ocean 0) i j side)
  outflow slope i j side on =
      let width = is.area.width in
      let out = out_on ocean.area i j side 1 on (omega arith) (omega arith) in
      pick (is_open ocean.area i j side)
      (next_number ocean.area (height_at ocean.area ocean.layers) slope (fields_at ocean 0).faces i j side)
      (salty_at (fields_at ocean 0) (behind ocean.area i j side))
      (salty_at (fields_at ocean 0) (CellAt i j))
      (salty_at (fields_at ocean 0) (out_from ocean.area i j side 1))
      (salty_at (fields_at ocean 0) (beyond ocean.area i j side))
      (salty (CellAt i j) on)
      (salty (out_from ocean.area i j side 1) out)

  -- a cell with what moves in and out
  rest : (here tw te ts tn w e s n : ℤ) → IsLittle here → IsLittle tw → IsLittle te → IsLittle ts → IsLittle tn
      → IsOutflow here tw w → IsOutflow here te e → IsOutflow here ts s → IsOutflow here tn n
      → IsAmount (here -ℤ ((w +ℤ e) +ℤ (s +ℤ n)))
  rest here tw te ts tn w e s n h lw le ls ln ow oe os on = (
    omega (arith, ints, h.0, ow.most, oe.most, os.most, on.most),
    omega (arith, ints, h.1, lw.1, le.1, ls.1, ln.1, ow.least, oe.least, os.least, on.least),
  )

  left : (slope i j : ℕ) → IsSpot ocean.area (CellAt i j) → IsSalty (transported_at ocean slope 0 i j)
  left slope i j on =
      let width = is.area.width in
      let at = λ (side : Side). out_from ocean.area i j side 1 in
      let out = λ (side : Side). out_on ocean.area i j side 1 on (omega arith) (omega arith) in
      let flow = λ (side : Side). flow_out ocean.area (height_at ocean.area ocean.layers) slope (fields_at ocean 0) i j side in
      let o = λ (side : Side). outflow slope i j side on in
      let of = λ (side : Side) (n : ℕ) (few : n < 3). little n (at side) few (out side) in
      let field = λ (n : ℕ). number_at (field_in (fields_at ocean 0) n) in
      record {
        water =
            rest (field 0 (CellAt i j)) (field 0 (at W)) (field 0 (at E)) (field 0 (at S)) (field 0 (at N))
            (flow W).water (flow E).water (flow S).water (flow N).water
            (little 0 (CellAt i j) (omega arith) on) (of W 0 (omega arith)) (of E 0 (omega arith)) (of S 0 (omega arith)) (of N 0 (omega arith))
            (o W).water (o E).water (o S).water (o N).water;
        heat =
            rest (field 1 (CellAt i j)) (field 1 (at W)) (field 1 (at E)) (field 1 (at S)) (field 1 (at N))
            (flow W).heat (flow E).heat (flow S).heat (flow N).heat
            (little 1 (CellAt i j) (omega arith) on) (of W 1 (omega arith)) (of E 1 (omega arith)) (of S 1 (omega arith)) (of N 1 (omega arith))
            (o W).heat (o E).heat (o S).heat (o N).heat;
        salt =
            rest (field 2 (CellAt i j)) (field 2 (at W)) (field 2 (at E)) (field 2 (at S)) (field 2 (at N))
            (flow W).salt (flow E).salt (flow S).salt (flow N).salt
            (little 2 (CellAt i j) (omega arith) on) (of W 2 (omega arith)) (of E 2 (omega arith)) (of S 2 (omega arith)) (of N 2 (omega arith))
            (o W).salt (o E).salt (o S).salt (o N).salt;
      }

  -- a row's cells are all close to its edges
  pub all_left : (slope : ℕ) (new : OceanNumbers) → IsOfRow piece → Transports slope (IsRim ocean.area) ocean new → IsAllLeft new.area new.layers
  all_left slope new of moves i j on l less =
      let there : IsSpot ocean.area (CellAt i j) = subst (λ area. IsSpot area (CellAt i j)) moves.area on in
      let first : l ≡ 0 = omega (arith, is.count, moves.count) in
      let rows = is.area.rows ∙ of.row in
      let rim : IsRim ocean.area i j = λ inner. let south = inner.south in let north = inner.north in absurd (omega (arith, rows)) in
      let one : 0 < length ocean.layers = omega (arith, is.count) in
      let value = (moves.left 0 one).meant i j there rim in
      subst (λ (k : ℕ). IsSalty (column_left new.layers (j * new.area.nx + i) k)) (sym first)
      (subst (λ (nx : ℕ). IsSalty (column_left new.layers (j * nx + i) 0)) (sym (ap (λ area. area.nx) moves.area))
      (subst IsSalty (sym value) (left slope i j there)))

  -- the transport leaves the fields
  pub carried : (slope : ℕ) (IsMeant : ℕ → ℕ → Type 0) (new : OceanNumbers) → Transports slope IsMeant ocean new → IsOceanOf piece new
  carried slope IsMeant new moves =
      let one : 0 < length ocean.layers = omega (arith, is.count) in
      record {
        area = subst (IsFieldOf piece) (sym moves.area) is.area;
        count = moves.count ∙ is.count;
        fields = λ n few. subst (λ (fields : Fields). IsFieldOf piece (field_in fields n)) (sym (moves.fields 0 one)) (is.fields n few);
      }
