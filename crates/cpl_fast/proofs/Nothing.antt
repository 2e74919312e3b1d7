-- Nothing flows through an element of the area 0.
use Rattle.std.proofs.Common.{◌≡◌, ◌∙◌, ap, ℕ, List, length}
use Rattle.std.specs.Prelude.{ℤ, pos, ◌+ℤ◌, ◌-ℤ◌, int_div}
use Rattle.std.proofs.Math.IntN.{zero-*ℤ}
use Rattle.cpl_fixed.specs.Shares.{part_of, share}
use Rattle.cpl_fixed.specs.declared.rates.Rates.{Rates}
use Rattle.cpl_flux.specs.declared.parts.Part.{Part}
use Rattle.cpl_flux.specs.Temperatures.{part_temperature}
use Rattle.cpl_flux.proofs.Nothing.{no_element}
use Rattle.cpl_fast.specs.declared.flows.Sky.{Sky}
use Rattle.cpl_fast.specs.Flows.{area_in, before_in, flow_again, flow_at, flow_in, flow_through, no_flow, part_of_row}
use Rattle.cpl_xgrid.specs.declared.parts.Surface.{Surface}
use Rattle.cpl_state.specs.FastStep.{albedo}
use Rattle.cpl_fast.specs.Places.{place_in}
use Rattle.cpl_fast.specs.Rain.{rained_on}
use Rattle.cpl_fast.specs.Suns.{only_sun, sun_in}
use Rattle.cpl_fast.specs.declared.flows.Flow.{Flow}
use Rattle.cpl_fast.specs.declared.flows.Tables.{Tables}
use Rattle.cpl_fast.specs.declared.part_lists.PartLists.{PartLists}
use Rattle.cpl_fast.proofs.Parts.{share_none}

-- nothing of no sun
pub no_part : (kept : ℤ) → part_of (pos 0) kept (pos 1_000) ≡ pos 0
no_part kept = ap (λ (x : ℤ). int_div x (pos 1_000)) (zero-*ℤ kept)

-- nothing at all but the sun
pub nothing_through : (rates : Rates) (sky : Sky) (part : Part) (sun : ℤ) → flow_through rates sky part (pos 0) sun ≡ only_sun sun
nothing_through rates sky part sun =
    let flux = no_element rates sky.air sky.weather part (part_temperature rates part) in
    λ i. record { heat = (flux i).heat; water = (flux i).water; sun = sun; rain = pos 0 }

-- nor by the tables, where no sun stood
pub none_again : (rates : Rates) (sky : Sky) (tables : Tables) (parts : PartLists) (flows : List Flow) (row k : ℕ) → area_in tables row k ≡ pos 0 → flow_at flows (place_in (length tables.links.items) row k) ≡ no_flow
    → flow_again rates sky tables parts flows row k ≡ no_flow
unfolding flow_in
none_again rates sky tables parts flows row k empty clear =
    let part = part_of_row tables parts row k in
    (λ i. flow_through rates sky part (empty i) (clear i).sun) ∙ nothing_through rates sky part (pos 0)

-- no sun
pub no_sun_in : (rates : Rates) (list : Surface) (sun area : ℤ) (tables : Tables) (row k : ℕ) → area_in tables row k ≡ pos 0 → sun_in rates list sun area tables row k ≡ pos 0
unfolding sun_in
no_sun_in rates list sun area tables row k empty =
    let from = before_in tables row k in
    let kept = pos 1_000 -ℤ albedo rates list k in
    let none = (λ i. share sun from (from +ℤ empty i) area) ∙ share_none sun from area in
    ap (λ (x : ℤ). part_of x kept (pos 1_000)) none ∙ no_part kept

-- an element of the area 0 stays as it is
pub rained_clear : (rain area : ℤ) (tables : Tables) (flows : List Flow) (row k : ℕ) → area_in tables row k ≡ pos 0 → flow_at flows (place_in (length tables.links.items) row k) ≡ no_flow → rained_on rain area tables flows row k ≡ no_flow
unfolding rained_on
rained_clear rain area tables flows row k empty clear =
    let from = before_in tables row k in
    let part = (λ i. share rain from (from +ℤ empty i) area) ∙ share_none rain from area in
    λ i. record { heat = (clear i).heat; water = (clear i).water; sun = (clear i).sun; rain = part i }
