-- Judging a coupled grid, rule after rule.
use Rattle.std.proofs.Common.{◌≡◌, ◌∙◌, refl, sym, ap, subst, Bool, true, false, Option, Some, None, Ok, Err}
use Rattle.std.specs.Bool.{OnFalse}
use Rattle.cpl_fixed.specs.Results.{Fails}
use Rattle.cpl_fixed.specs.declared.words.Component.TheVariants.{Land, Ocean}
use Rattle.cpl_mosaic.specs.declared.mosaic.Mesh.{Mesh}
use Rattle.cpl_xgrid.specs.declared.grid.Grid.{Grid}
use Rattle.cpl_xgrid.specs.declared.error.XGridError.{XGridError}
use Rattle.cpl_xgrid.specs.declared.error.XGridError.TheVariants as xgrid
use Rattle.cpl_xgrid.specs.Lists.{XGridLists, IsMesh, lists_of}
use Rattle.cpl_xgrid.specs.Rules.{xgrid_fault, IsFirstFault}
use Rattle.cpl_gridfile.specs.declared.fault.GridError.{GridError}
use Rattle.cpl_gridfile.specs.GridFormat.{Parts}
use Rattle.cpl_gridfile.specs.Faults.{is_memory, of_xgrid}
use Rattle.cpl_gridfile.specs.Within.{IsWithinLimits}
use Rattle.cpl_gridfile.specs.Rules.{◌then◌, mosaic_fault}
use Rattle.cpl_gridfile.specs.Grids.{judged}
use Rattle.cpl_gridfile.specs.AirGrid.{air_fault}
use Rattle.cpl_gridfile.specs.CoupledGrid.{grid_of, at_xgrid, exchange_fault, coupled_fault}

-- ---- a rule and those after it

judged_ok : {A : Type 0} (fault : Option GridError) (x y : A) → judged fault x ≡ Ok y → (fault ≡ None) × (x ≡ y)
judged_ok (Some fault) x y e = absurd cc
judged_ok None x y e = (refl, cc)

where_not_free : {P Q : Type 0} (free : Bool) → (P → Q) → OnFalse free P → OnFalse free Q
where_not_free true f p = tt
where_not_free false f p = f p

fails_whole : {A B : Type 0} (first others : Option GridError) (x : A) (y : B) (fault : GridError) → judged first x ≡ Err fault → judged (first then others) y ≡ Err fault
fails_whole (Some found) others x y fault e = cc
fails_whole None others x y fault e = absurd cc

-- a fault of the first of two rules is that of both
first_fails : {A B : Type 0} (first others : Option GridError) (x : A) (y : B) (fault : GridError) → Fails is_memory fault (judged first x) → Fails is_memory fault (judged (first then others) y)
first_fails first others x y fault fails = where_not_free (is_memory fault) (fails_whole first others x y fault) fails

pub mesh_is_mesh : (mesh : Mesh) → IsWithinLimits mesh → IsMesh mesh
mesh_is_mesh mesh within = record { count = within.count; each = within.areas }

-- a mesh that was let through is the one that was read
pub let_through : (fault : Option GridError) (read found : Mesh) → judged fault read ≡ Ok found → IsWithinLimits read → IsMesh found
let_through fault read found e within = subst IsMesh (judged_ok fault read found e).1 (mesh_is_mesh read within)

-- ---- a coupled grid

module _ (p : Parts) where
  after_air : air_fault p.air ≡ None → coupled_fault p ≡ (mosaic_fault Land p.land then mosaic_fault Ocean p.ocean then exchange_fault p)
  after_air e = ap (λ (f : Option GridError). f then mosaic_fault Land p.land then mosaic_fault Ocean p.ocean then exchange_fault p) e

  after_land : air_fault p.air ≡ None → mosaic_fault Land p.land ≡ None → coupled_fault p ≡ (mosaic_fault Ocean p.ocean then exchange_fault p)
  after_land a l = after_air a ∙ ap (λ (f : Option GridError). f then mosaic_fault Ocean p.ocean then exchange_fault p) l

  after_ocean : air_fault p.air ≡ None → mosaic_fault Land p.land ≡ None → mosaic_fault Ocean p.ocean ≡ None → coupled_fault p ≡ exchange_fault p
  after_ocean a l o = after_land a l ∙ ap (λ (f : Option GridError). f then exchange_fault p) o

  -- what is answered where a rule fails, by the rules that are left
  left : (rules : Option GridError) (fault : GridError) → coupled_fault p ≡ rules → Fails is_memory fault (judged rules (grid_of p)) → Fails is_memory fault (judged (coupled_fault p) (grid_of p))
  left rules fault e fails = subst (λ (f : Option GridError). Fails is_memory fault (judged f (grid_of p))) (sym e) fails

  pub air_fails : (fault : GridError) → Fails is_memory fault (judged (air_fault p.air) p.air) → Fails is_memory fault (judged (coupled_fault p) (grid_of p))
  air_fails fault fails = first_fails (air_fault p.air) (mosaic_fault Land p.land then mosaic_fault Ocean p.ocean then exchange_fault p) p.air (grid_of p) fault fails

  module _ (air : Mesh) (air_is : judged (air_fault p.air) p.air ≡ Ok air) where
    a : (air_fault p.air ≡ None) × (p.air ≡ air)
    a = judged_ok (air_fault p.air) p.air air air_is

    pub land_fails : (fault : GridError) → Fails is_memory fault (judged (mosaic_fault Land p.land) p.land) → Fails is_memory fault (judged (coupled_fault p) (grid_of p))
    land_fails fault fails =
        left (mosaic_fault Land p.land then mosaic_fault Ocean p.ocean then exchange_fault p) fault (after_air a.0)
        (first_fails (mosaic_fault Land p.land) (mosaic_fault Ocean p.ocean then exchange_fault p) p.land (grid_of p) fault fails)

    module _ (land : Mesh) (land_is : judged (mosaic_fault Land p.land) p.land ≡ Ok land) where
      l : (mosaic_fault Land p.land ≡ None) × (p.land ≡ land)
      l = judged_ok (mosaic_fault Land p.land) p.land land land_is

      pub ocean_fails : (fault : GridError) → Fails is_memory fault (judged (mosaic_fault Ocean p.ocean) p.ocean) → Fails is_memory fault (judged (coupled_fault p) (grid_of p))
      ocean_fails fault fails =
          left (mosaic_fault Ocean p.ocean then exchange_fault p) fault (after_land a.0 l.0)
          (first_fails (mosaic_fault Ocean p.ocean) (exchange_fault p) p.ocean (grid_of p) fault fails)

      module _ (ocean : Mesh) (ocean_is : judged (mosaic_fault Ocean p.ocean) p.ocean ≡ Ok ocean) where
        o : (mosaic_fault Ocean p.ocean ≡ None) × (p.ocean ≡ ocean)
        o = judged_ok (mosaic_fault Ocean p.ocean) p.ocean ocean ocean_is

        found : Option XGridError
        found = xgrid_fault air land ocean p.land_rows p.ocean_rows p.outlets

        same : xgrid_fault p.air p.land p.ocean p.land_rows p.ocean_rows p.outlets ≡ found
        unfolding found
        same = λ i. xgrid_fault (a.1 i) (l.1 i) (o.1 i) p.land_rows p.ocean_rows p.outlets

        exchange_is : (fault : Option XGridError) → found ≡ fault → judged (coupled_fault p) (grid_of p) ≡ judged (at_xgrid fault) (grid_of p)
        exchange_is fault e = ap (λ (f : Option GridError). judged f (grid_of p)) (after_ocean a.0 l.0 o.0 ∙ ap at_xgrid (same ∙ e))

        pub exchange_fails : (fault : XGridError) → IsFirstFault (xgrid_fault air land ocean p.land_rows p.ocean_rows p.outlets) fault
            → Fails is_memory (of_xgrid fault) (judged (coupled_fault p) (grid_of p))
        unfolding found
        exchange_fails xgrid.Memory is = tt
        exchange_fails (xgrid.BadIndex list row) is = exchange_is (Some (xgrid.BadIndex list row)) is
        exchange_fails (xgrid.ZeroArea list row) is = exchange_is (Some (xgrid.ZeroArea list row)) is
        exchange_fails (xgrid.AirSum cell sum area) is = exchange_is (Some (xgrid.AirSum cell sum area)) is
        exchange_fails (xgrid.LandSum cell sum area) is = exchange_is (Some (xgrid.LandSum cell sum area)) is
        exchange_fails (xgrid.OceanSum cell sum area) is = exchange_is (Some (xgrid.OceanSum cell sum area)) is
        exchange_fails (xgrid.Outlet outlet) is = exchange_is (Some (xgrid.Outlet outlet)) is
        exchange_fails (xgrid.NoOutlet cell) is = exchange_is (Some (xgrid.NoOutlet cell)) is

        pub all_kept : (lists : XGridLists) → xgrid_fault air land ocean p.land_rows p.ocean_rows p.outlets ≡ None
            → lists ≡ lists_of air land ocean p.land_rows p.ocean_rows p.outlets
            → judged (coupled_fault p) (grid_of p) ≡ Ok (record { air = air; land = land; ocean = ocean; xgrid = lists; column = p.column })
        unfolding found
        all_kept lists none is =
            let lists_are : lists_of p.air p.land p.ocean p.land_rows p.ocean_rows p.outlets ≡ lists =
            (λ i. lists_of (a.1 i) (l.1 i) (o.1 i) p.land_rows p.ocean_rows p.outlets) ∙ sym is in
            let grid : ◌≡◌ {A = Grid} (grid_of p) (record { air = air; land = land; ocean = ocean; xgrid = lists; column = p.column }) =
            λ i. record { air = a.1 i; land = l.1 i; ocean = o.1 i; xgrid = lists_are i; column = p.column } in
            exchange_is None none ∙ ap (λ (g : Grid). Ok g) grid
