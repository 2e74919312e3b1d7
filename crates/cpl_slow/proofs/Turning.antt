-- The cells of the ice slow one after another.
use Rattle.std.proofs.Common.{◌≡◌, ◌∙◌, sym, ap, subst, ℕ, ◌+◌, ◌*◌, ◌/◌, ◌%◌, ◌<◌, arith, List, length}
use Rattle.std.specs.Prelude.{ℤ}
use Rattle.std.proofs.lemmas.Nat.{div-mul-add, mod-mul-add}
use Rattle.cpl_fixed.specs.Amounts.{at}
use Rattle.cpl_fixed.specs.declared.gain.Gain.{Gain}
use Rattle.cpl_fixed.specs.declared.rates.Rates.{Rates}
use Rattle.cpl_xgrid.specs.declared.grid.Grid.{Grid}
use Rattle.cpl_ice.specs.declared.cell.IceCell.{IceCell}
use Rattle.cpl_state.specs.declared.whole.Mid.{Mid}
use Rattle.cpl_state.specs.States.{categories, ice_cell, ocean_cells, part_count}
use Rattle.cpl_state.specs.FastStep.{for_each}
use Rattle.cpl_state.specs.Slow.{returned_if_wet, slow_cell, slowed_if_wet, to_ocean_number}
use Rattle.cpl_slow.specs.declared.ice.IceLists.{IceLists}
use Rattle.cpl_slow.specs.Blocks.{IsPartWay, IsPut}
use Rattle.cpl_slow.specs.Land.{gain_at}
use Rattle.cpl_slow.specs.Ice.{AreIceLists, AreSlowed, AreSlowedTo, IsTurned, back_of, with_ice}
use Rattle.cpl_slow.proofs.Writes.{block_left, part_way_all, part_way_more, part_way_none}

-- numbers of places, the places of a cell in turn
module _ (width : ℕ) (f : ℕ → ℕ → ℤ) where
  abbrev pub places : ℕ → ℤ
  places i = f (i / width) (i % width)

  pub place_more : (n : ℕ) (block old now new : List ℤ) → IsPartWay (n * width) places old now → IsPut (n * width) width block now new
      → ((k : ℕ) → k < width → at block k ≡ f n k) → IsPartWay ((n + 1) * width) places old new
  place_more n block old now new way put is =
      let each = λ (k : ℕ) (h : k < width). is k h ∙ (λ i. f (sym (div-mul-add n width k h) i) (sym (mod-mul-add n width k h) i)) in
      let next : n * width + width ≡ (n + 1) * width = omega arith in
      subst (λ (upto : ℕ). IsPartWay upto places old new) next (part_way_more (n * width) width places block old now new way put each)

  pub place_all : (cells : ℕ) (old new : List ℤ) → length old ≡ width * cells → IsPartWay (cells * width) places old new → new ≡ for_each (width * cells) places
  place_all cells old new long way =
      let e : cells * width ≡ width * cells = omega arith in
      part_way_all (width * cells) places old new long (subst (λ (upto : ℕ). IsPartWay upto places old new) e way)

module _ (grid : Grid) (rates : Rates) (mid : Mid) (arrived : List Gain) (old : IceLists) where
  -- no cell yet
  pub slowed_none : AreIceLists grid old → AreSlowedTo grid rates (with_ice mid old) arrived 0 old old
  slowed_none lists = record {
    lists = lists;
    parts = part_way_none (0 * part_count grid) (places (part_count grid) (λ n k. at (slow_cell grid rates (with_ice mid old) n).parts k)) old.parts.items (omega arith);
    ice = part_way_none (0 * categories grid) (places (categories grid) (λ n k. at (slow_cell grid rates (with_ice mid old) n).ice k)) old.ice.items (omega arith);
    heat = part_way_none (0 * categories grid) (places (categories grid) (λ n k. at (slow_cell grid rates (with_ice mid old) n).heat k)) old.heat.items (omega arith);
    to_ocean = part_way_none (0 * 3) (places 3 (λ n k. to_ocean_number (back_of grid rates (with_ice mid old) arrived n) k)) old.to_ocean.items (omega arith);
  }

  module _ (n : ℕ) (now : IceLists) (way : AreSlowedTo grid rates (with_ice mid old) arrived n old now) where
    -- the next cell is as it was
    pub cell_left : ice_cell grid (with_ice mid now) n ≡ ice_cell grid (with_ice mid old) n
    cell_left =
        let parts = block_left 6 (part_count grid) n (n * part_count grid) (places (part_count grid) (λ n k. at (slow_cell grid rates (with_ice mid old) n).parts k)) old.parts.items now.parts.items (omega arith) way.parts in
        let ice = block_left 5 (categories grid) n (n * categories grid) (places (categories grid) (λ n k. at (slow_cell grid rates (with_ice mid old) n).ice k)) old.ice.items now.ice.items (omega arith) way.ice in
        let heat = block_left 5 (categories grid) n (n * categories grid) (places (categories grid) (λ n k. at (slow_cell grid rates (with_ice mid old) n).heat k)) old.heat.items now.heat.items (omega arith) way.heat in
        λ i. record (ice_cell grid (with_ice mid old) n) { parts = parts i; ice = ice i; heat = heat i }

    -- one cell more
    pub slowed_more : (new : IceLists) → (let cell = ice_cell grid (with_ice mid now) n in
        IsTurned (categories grid) n (slowed_if_wet rates cell) (returned_if_wet rates cell (gain_at arrived n)) now new)
        → AreSlowedTo grid rates (with_ice mid old) arrived (n + 1) old new
    unfolding slow_cell
    slowed_more new turned =
        let same = cell_left in
        let cell = ice_cell grid (with_ice mid old) n in
        record {
          lists = record {
            parts = turned.parts.count ∙ way.lists.parts;
            ice = turned.ice.count ∙ way.lists.ice;
            heat = turned.heat.count ∙ way.lists.heat;
            to_ocean = turned.to_ocean.count ∙ way.lists.to_ocean;
          };
          parts = place_more (part_count grid) (λ n k. at (slow_cell grid rates (with_ice mid old) n).parts k) n _ old.parts.items now.parts.items new.parts.items way.parts turned.parts
              (λ k h. ap (λ (it : IceCell). at (slowed_if_wet rates it).parts k) same);
          ice = place_more (categories grid) (λ n k. at (slow_cell grid rates (with_ice mid old) n).ice k) n _ old.ice.items now.ice.items new.ice.items way.ice turned.ice
              (λ k h. ap (λ (it : IceCell). at (slowed_if_wet rates it).ice k) same);
          heat = place_more (categories grid) (λ n k. at (slow_cell grid rates (with_ice mid old) n).heat k) n _ old.heat.items now.heat.items new.heat.items way.heat turned.heat
              (λ k h. ap (λ (it : IceCell). at (slowed_if_wet rates it).heat k) same);
          to_ocean = place_more 3 (λ n k. to_ocean_number (back_of grid rates (with_ice mid old) arrived n) k) n _ old.to_ocean.items now.to_ocean.items new.to_ocean.items way.to_ocean turned.to_ocean
              (λ k h. ap (λ (it : IceCell). to_ocean_number (returned_if_wet rates it (gain_at arrived n)) k) same);
        }

  -- all cells
  pub slowed_all : (n : ℕ) (now : IceLists) → n ≡ ocean_cells grid → AreIceLists grid old → AreSlowedTo grid rates (with_ice mid old) arrived n old now → AreSlowed grid rates (with_ice mid old) arrived now
  slowed_all n now e lists way =
      let all = subst (λ (k : ℕ). AreSlowedTo grid rates (with_ice mid old) arrived k old now) e way in
      record {
        parts = place_all (part_count grid) (λ n k. at (slow_cell grid rates (with_ice mid old) n).parts k) (ocean_cells grid) old.parts.items now.parts.items lists.parts all.parts;
        ice = place_all (categories grid) (λ n k. at (slow_cell grid rates (with_ice mid old) n).ice k) (ocean_cells grid) old.ice.items now.ice.items lists.ice all.ice;
        heat = place_all (categories grid) (λ n k. at (slow_cell grid rates (with_ice mid old) n).heat k) (ocean_cells grid) old.heat.items now.heat.items lists.heat all.heat;
        to_ocean = place_all 3 (λ n k. to_ocean_number (back_of grid rates (with_ice mid old) arrived n) k) (ocean_cells grid) old.to_ocean.items now.to_ocean.items lists.to_ocean all.to_ocean;
      }
