use Rattle.std.proofs.Common.{◌≡◌, ◌≢◌, ◌∙◌, sym, subst, ap, ℕ, ◌<◌, List, arith, w64, of_z}
use Rattle.std.specs.Prelude.{ℤ, pos}
use Rattle.std.proofs.lemmas.Int.{ints}
use Rattle.cpl_fixed.specs.Amounts.{at}
use Rattle.cpl_xgrid.specs.declared.grid.Grid.{Grid}
use Rattle.cpl_xgrid.specs.Grids.{IsGrid}
use Rattle.cpl_ice.specs.declared.cell.IceCell.{IceCell}
use Rattle.cpl_state.specs.States.{categories, ice_cell, ocean_cells}
use Rattle.cpl_slow.specs.Ice.{IsCellPut, with_ice}
use Rattle.cpl_slow.proofs.Same.{dry_back, dry_put, wet_back, wet_slowed}
use Rattle.cpl_slow.proofs.ice.IceLists.slow_any.Goals as goal

-- an area that is read as 0 is 0, and another is not
is_dry : (grid : Grid) (areas : List ℤ) (n : ℕ) → IsGrid grid → n < ocean_cells grid → areas ≡ grid.ocean.area → of_z w64 (at areas n) ≡ 0 → at grid.ocean.area n ≡ pos 0
is_dry grid areas n is l e zero =
    let range = is.ocean.each n (pos 0) (omega (arith, is.ocean.count)) in
    let same = ap (λ (xs : List ℤ). at xs n) e in
    omega (arith, ints, range.0, range.1, same, zero)

is_wet : (grid : Grid) (areas : List ℤ) (n : ℕ) → areas ≡ grid.ocean.area → (of_z w64 (at areas n) ≡ 0 → ⊥) → at grid.ocean.area n ≢ pos 0
is_wet grid areas n e some zero =
    let same = ap (λ (xs : List ℤ). at xs n) e in
    some (omega (arith, ints, same, zero))

pub slow_wet-requires-clause-cell : goal.slow_wet-requires-clause-cell
slow_wet-requires-clause-cell c =
    (c.requires.can (is_wet c.args.grid.now c.as_slice.result.now c.args.n c.as_slice.ensures c.if-as_slice-n-eq0.false)).0

pub slow_wet-requires-clause-runoff : goal.slow_wet-requires-clause-runoff
slow_wet-requires-clause-runoff c =
    (c.requires.can (is_wet c.args.grid.now c.as_slice.result.now c.args.n c.as_slice.ensures c.if-as_slice-n-eq0.false)).1

pub returns-then-as_slice-n-eq0-clause-put : goal.returns-then-as_slice-n-eq0-clause-put
returns-then-as_slice-n-eq0-clause-put c =
    let dry = is_dry c.args.grid.now c.as_slice.result.now c.args.n c.requires.grid c.requires.within c.as_slice.ensures c.if-as_slice-n-eq0.true in
    dry_put c.args.grid.now c.args.mid.now c.args.self.now c.args.n c.args.rates.now c.requires.grid.column.categories.1 dry

pub returns-then-as_slice-n-eq0-clause-returned : goal.returns-then-as_slice-n-eq0-clause-returned
returns-then-as_slice-n-eq0-clause-returned c =
    let dry = is_dry c.args.grid.now c.as_slice.result.now c.args.n c.requires.grid c.requires.within c.as_slice.ensures c.if-as_slice-n-eq0.true in
    sym (dry_back c.args.rates.now (ice_cell c.args.grid.now (with_ice c.args.mid.now c.args.self.now) c.args.n) c.args.runoff dry)

pub returns-clause-put : goal.returns-clause-put
returns-clause-put c =
    let cell = ice_cell c.args.grid.now (with_ice c.args.mid.now c.args.self.now) c.args.n in
    let is = (c.requires.can (is_wet c.args.grid.now c.as_slice.result.now c.args.n c.as_slice.ensures c.if-as_slice-n-eq0.false)).0 in
    subst (λ (it : IceCell). IsCellPut (categories c.args.grid.now) c.args.n it c.args.self.now c.slow_wet.new.self) (sym (wet_slowed c.args.rates.now cell is)) c.slow_wet.ensures.put

pub returns-clause-returned : goal.returns-clause-returned
returns-clause-returned c =
    let cell = ice_cell c.args.grid.now (with_ice c.args.mid.now c.args.self.now) c.args.n in
    let is = (c.requires.can (is_wet c.args.grid.now c.as_slice.result.now c.args.n c.as_slice.ensures c.if-as_slice-n-eq0.false)).0 in
    c.slow_wet.ensures.returned ∙ sym (wet_back c.args.rates.now cell c.args.runoff is)
