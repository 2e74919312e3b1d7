use Rattle.std.proofs.Common.{◌≡◌, ◌∙◌, refl, rules, sym, ap, subst, ℕ, ◌*◌, arith, length}
use Rattle.cpl_xgrid.specs.declared.parts.Surface.TheVariants.{Land, Ocean}
use Rattle.cpl_state.specs.States.{ocean_cells, part_count}
use Rattle.cpl_fast.specs.Tables.{AreLinks}
use Rattle.cpl_fast.proofs.Filling.{ends_by, no_areas}
use Rattle.cpl_fast.proofs.room.FastRoom.new.Goals as goal

pub returns : goal.returns
returns c =
    let grid = c.args.grid.now in
    let land = c.in_ok-land.ensures.land in
    let ocean = c.in_ok-land.ensures.ocean in
    let land_rows : c.len-land_rows.result ≡ length c.in_ok-land.field-0.land.items = omega arith in
    let ocean_rows : c.len-ocean_rows.result ≡ length c.in_ok-land.field-0.ocean.items = omega arith in
    record {
      ways = search rules;
      diffusion = search rules;
      land = record {
        width = c.in_ok-new.ensures.width;
        links = subst (AreLinks grid Land) (sym c.in_ok-new.ensures.links) land;
        areas = c.in_ok-new.ensures.areas ∙ ap (λ (n : ℕ). n * 1) land.count;
        used = c.in_ok-new.ensures.used;
      };
      ocean = record {
        width = c.in_ok-new-2.ensures.width;
        links = subst (AreLinks grid Ocean) (sym c.in_ok-new-2.ensures.links) ocean;
        areas = c.in_ok-new-2.ensures.areas ∙ ap (λ (n : ℕ). n * part_count grid) ocean.count;
        used = c.in_ok-new-2.ensures.used;
      };
      land_area = search rules;
      ocean_area = search rules;
      ocean_used = ends_by c.in_ok-vec-2.field-0.items c.in_ok-vec-3.field-0.items c.cells-oceans.result (ocean_cells grid) (part_count grid) (part_count grid) c.cells-oceans.ensures.count refl
          (no_areas c.in_ok-vec-2.field-0.items c.in_ok-vec-3.field-0.items (c.cells-oceans.result * part_count grid) c.cells-oceans.result (part_count grid)
          (c.in_ok-vec-2.ensures.items_if_clones_equal (λ y e. e)) (c.in_ok-vec-3.ensures.items_if_clones_equal (λ y e. e)));
      land_flows = c.in_ok-no_flows.ensures.count ∙ land_rows ∙ land.count;
      ocean_flows = c.in_ok-no_flows-2.ensures.count ∙ ap (λ (n : ℕ). n * part_count grid) (ocean_rows ∙ ocean.count);
      skies = search rules;
      rain = search rules;
      air_heat = search rules;
      air_vapour = search rules;
      land_clear = λ row l k h empty. c.in_ok-no_flows.ensures.none _;
      ocean_clear = λ row l k h empty. c.in_ok-no_flows-2.ensures.none _;
    }
