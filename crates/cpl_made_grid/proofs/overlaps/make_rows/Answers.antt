-- One cell of the air more.
use Rattle.std.proofs.Common.{◌≡◌, ◌∙◌, sym, ap, ℕ, ◌++◌, arith, List}
use Rattle.std.specs.List.{flat_map, range_with_len}
use Rattle.cpl_xgrid.specs.declared.parts.XRow.{XRow}
use Rattle.cpl_made_grid.specs.Shapes.{air_count}
use Rattle.cpl_made_grid.specs.Overlaps.{land_rows, ocean_rows, land_rows_of, ocean_rows_of}
use Rattle.cpl_made_grid.proofs.Ranges.{flat_more}
use Rattle.cpl_made_grid.proofs.overlaps.make_rows.Goals as goal

pub loop-a-preserved : goal.loop-a-preserved
loop-a-preserved c = record {
  land = c.in_ok-push_rows.ensures.land ∙ ap (λ (l : List XRow). l ++ land_rows_of c.args.recipe c.loop-a.a) c.loop-a.invariant.land ∙ sym (flat_more (land_rows_of c.args.recipe) c.loop-a.a);
  ocean = c.in_ok-push_rows.ensures.ocean ∙ ap (λ (l : List XRow). l ++ ocean_rows_of c.args.recipe c.loop-a.a) c.loop-a.invariant.ocean ∙ sym (flat_more (ocean_rows_of c.args.recipe) c.loop-a.a);
}

pub returns : goal.returns
unfolding land_rows ocean_rows
returns c =
    let is : c.loop-a.a ≡ air_count c.args.recipe.size = omega arith in
    record {
      land = c.loop-a.invariant.land ∙ ap (λ (n : ℕ). flat_map (land_rows_of c.args.recipe) (range_with_len 0 n)) is;
      ocean = c.loop-a.invariant.ocean ∙ ap (λ (n : ℕ). flat_map (ocean_rows_of c.args.recipe) (range_with_len 0 n)) is;
    }
