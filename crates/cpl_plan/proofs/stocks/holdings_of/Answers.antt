use Rattle.std.proofs.Common.{refl, arith, rules}
use Rattle.cpl_state.specs.Stocks.{stocks_of}
use Rattle.cpl_state.specs.States.{ocean_cells}
use Rattle.cpl_plan.proofs.Few.{summed, small_word}
use Rattle.cpl_plan.proofs.Places.{summed_at, summed_both, small_at, small_both}
use Rattle.cpl_plan.proofs.stocks.holdings_of.Goals as goal

pub returns : goal.returns
unfolding stocks_of
returns c =
    let whole = c.args.whole.now in
    let cells = c.cells-cells.result in
    let count = ocean_cells c.args.grid.now in
    let cells_are = c.cells-cells.ensures.count in
    record {
      heat = record {
        air = summed c.total.result c.as_slice-3.result.now whole.air_heat c.total.ensures.small c.total.ensures.value c.as_slice-3.ensures;
        land = summed c.total-2.result c.as_slice-4.result.now whole.land_heat c.total-2.ensures.small c.total-2.ensures.value c.as_slice-4.ensures;
        ice = summed c.total-3.result c.as_slice-5.result.now whole.ice_heat c.total-3.ensures.small c.total-3.ensures.value c.as_slice-5.ensures;
        ocean = summed c.total-4.result c.as_slice-6.result.now whole.heat c.total-4.ensures.small c.total-4.ensures.value c.as_slice-6.ensures;
        to_ice = summed_both 5 cells count c.as_slice.result.now whole.to_ice c.totals-to_ice.result c.totals-to_ice.ensures cells_are c.as_slice.ensures 1 3 (omega arith) (omega arith);
        to_ocean = summed_at 3 cells count c.as_slice-2.result.now whole.to_ocean c.totals-to_ocean.result c.totals-to_ocean.ensures cells_are c.as_slice-2.ensures 1 (omega arith);
      };
      water = record {
        air = summed c.total-5.result c.as_slice-7.result.now whole.air_vapour c.total-5.ensures.small c.total-5.ensures.value c.as_slice-7.ensures;
        land = summed c.total-6.result c.as_slice-8.result.now whole.land_water c.total-6.ensures.small c.total-6.ensures.value c.as_slice-8.ensures;
        ice = summed c.total-7.result c.as_slice-9.result.now whole.ice c.total-7.ensures.small c.total-7.ensures.value c.as_slice-9.ensures;
        ocean = summed c.total-8.result c.as_slice-10.result.now whole.water c.total-8.ensures.small c.total-8.ensures.value c.as_slice-10.ensures;
        to_ice = summed_both 5 cells count c.as_slice.result.now whole.to_ice c.totals-to_ice.result c.totals-to_ice.ensures cells_are c.as_slice.ensures 0 2 (omega arith) (omega arith);
        to_ocean = summed_at 3 cells count c.as_slice-2.result.now whole.to_ocean c.totals-to_ocean.result c.totals-to_ocean.ensures cells_are c.as_slice-2.ensures 0 (omega arith);
      };
      salt = record {
        air = refl;
        land = refl;
        ice = refl;
        ocean = summed c.total-9.result c.as_slice-11.result.now whole.salt c.total-9.ensures.small c.total-9.ensures.value c.as_slice-11.ensures;
        to_ice = summed_at 5 cells count c.as_slice.result.now whole.to_ice c.totals-to_ice.result c.totals-to_ice.ensures cells_are c.as_slice.ensures 4 (omega arith);
        to_ocean = summed_at 3 cells count c.as_slice-2.result.now whole.to_ocean c.totals-to_ocean.result c.totals-to_ocean.ensures cells_are c.as_slice-2.ensures 2 (omega arith);
      };
      small_heat = record {
        air = small_word c.total.result c.total.ensures.small;
        land = small_word c.total-2.result c.total-2.ensures.small;
        ice = small_word c.total-3.result c.total-3.ensures.small;
        ocean = small_word c.total-4.result c.total-4.ensures.small;
        to_ice = small_both c.totals-to_ice.result c.totals-to_ice.ensures.small 1 3 (omega arith) (omega arith);
        to_ocean = small_at c.totals-to_ocean.result c.totals-to_ocean.ensures.small 1 (omega arith);
      };
      small_water = record {
        air = small_word c.total-5.result c.total-5.ensures.small;
        land = small_word c.total-6.result c.total-6.ensures.small;
        ice = small_word c.total-7.result c.total-7.ensures.small;
        ocean = small_word c.total-8.result c.total-8.ensures.small;
        to_ice = small_both c.totals-to_ice.result c.totals-to_ice.ensures.small 0 2 (omega arith) (omega arith);
        to_ocean = small_at c.totals-to_ocean.result c.totals-to_ocean.ensures.small 0 (omega arith);
      };
      small_salt = record {
        air = search rules;
        land = search rules;
        ice = search rules;
        ocean = small_word c.total-9.result c.total-9.ensures.small;
        to_ice = search (rules, small_at c.totals-to_ice.result c.totals-to_ice.ensures.small 4 (omega arith));
        to_ocean = small_at c.totals-to_ocean.result c.totals-to_ocean.ensures.small 2 (omega arith);
      };
    }
