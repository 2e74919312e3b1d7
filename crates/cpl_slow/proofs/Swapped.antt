-- Lists that change places with those of a state.
use Rattle.std.proofs.Common.{◌≡◌, ◌∙◌, sym, ap, subst, List, length}
use Rattle.cpl_fixed.specs.declared.gain.Gain.{Gain}
use Rattle.cpl_fixed.specs.declared.rates.Rates.{Rates}
use Rattle.cpl_xgrid.specs.declared.grid.Grid.{Grid}
use Rattle.cpl_state.specs.declared.whole.Whole.{Whole}
use Rattle.cpl_state.specs.declared.whole.Mid.{Mid}
use Rattle.cpl_slow.specs.declared.ice.IceLists.{IceLists}
use Rattle.cpl_slow.specs.Ice.{AllCanSlow, AreIceLists, AreSlowed, HoldIce, whole_with_ice, with_ice}
use Rattle.cpl_slow.specs.Steps.{HasIce, with_slow_ice}

-- the lists of a state, taken out of it, in the same state
module _ (mid : Mid) (whole : Whole) (spare lists : IceLists) (out : whole ≡ whole_with_ice mid.whole spare) (hold : HoldIce mid.whole lists) where
  pub held_mid : with_ice (record mid { whole = whole }) lists ≡ mid
  held_mid =
      ap (λ (w : Whole). with_ice (record mid { whole = w }) lists) out
      ∙ (λ i. record mid { whole = record mid.whole { parts = hold.parts i; ice = hold.ice i; ice_heat = hold.heat i; to_ocean = hold.to_ocean i } })

  pub held_lists : (grid : Grid) → HasIce grid mid → AreIceLists grid lists
  held_lists grid has = record {
    parts = ap length hold.parts ∙ has.parts;
    ice = ap length hold.ice ∙ has.ice;
    heat = ap length hold.heat ∙ has.ice_heat;
    to_ocean = ap length hold.to_ocean ∙ has.to_ocean;
  }

  module _ (grid : Grid) (rates : Rates) (gains gains' : List Gain) (same : gains' ≡ gains) where
    pub can_slow : AllCanSlow grid mid gains → AllCanSlow grid (with_ice (record mid { whole = whole }) lists) gains'
    can_slow can = subst (λ (m : Mid). AllCanSlow grid m gains') (sym held_mid) (subst (AllCanSlow grid mid) (sym same) can)

    -- the slowed lists, put back
    slowed : (new : IceLists) → AreSlowed grid rates (with_ice (record mid { whole = whole }) lists) gains' new → AreSlowed grid rates mid gains new
    slowed new are = subst (λ (m : Mid). AreSlowed grid rates m gains new) held_mid (subst (λ (xs : List Gain). AreSlowed grid rates (with_ice (record mid { whole = whole }) lists) xs new) same are)

    pub slowed_mid : (new : IceLists) (back : Whole) → AreSlowed grid rates (with_ice (record mid { whole = whole }) lists) gains' new → back ≡ whole_with_ice whole new
        → ◌≡◌ {A = Mid} (record mid { whole = back }) (with_slow_ice grid rates mid gains)
    slowed_mid new back are e =
        let is = slowed new are in
        ap (λ (w : Whole). record mid { whole = w }) (e ∙ ap (λ (w : Whole). whole_with_ice w new) out)
        ∙ (λ i. record mid { whole = record mid.whole { parts = is.parts i; ice = is.ice i; ice_heat = is.heat i; to_ocean = is.to_ocean i } })
