-- What edges are for: who posts, who takes, and how often each is used.
use Rattle.std.specs.Prelude.{ℕ, ◌+◌, ◌-◌, ◌*◌, ◌==◌, Bool, List, [], ◌∷◌, Option, Some, None}
use Rattle.cpl_fixed.specs.declared.words.Component.{Component}
use Rattle.cpl_fixed.specs.declared.words.Component.TheVariants.{Atmos, Land, Ice, Ocean}
use Rattle.cpl_namelist.specs.declared.names.Names.{Names}
use Rattle.cpl_wires.specs.declared.parts.Purpose.{Purpose}
use Rattle.cpl_wires.specs.declared.parts.Purpose.TheVariants.{AirHalo, LandToAir, IceToAir, AirToLand, AirToIce, LandToIce, IceToOcean, OceanToIce, OceanHalo, Sums}
use Rattle.cpl_wires.specs.Settings.{Setting, pieces_for, all_pieces}

-- all purposes, in the order of the edges
abbrev pub purposes : List Purpose
purposes = AirHalo ∷ LandToAir ∷ IceToAir ∷ AirToLand ∷ AirToIce ∷ LandToIce ∷ IceToOcean ∷ OceanToIce ∷ OceanHalo ∷ Sums ∷ []

-- the place of a purpose among them
abbrev pub purpose_place : Purpose → ℕ
purpose_place AirHalo = 0
purpose_place LandToAir = 1
purpose_place IceToAir = 2
purpose_place AirToLand = 3
purpose_place AirToIce = 4
purpose_place LandToIce = 5
purpose_place IceToOcean = 6
purpose_place OceanToIce = 7
purpose_place OceanHalo = 8
purpose_place Sums = 9

abbrev pub is_same_purpose : Purpose → Purpose → Bool
is_same_purpose a b = purpose_place a == purpose_place b

-- the component whose pieces post; the sums are posted by all
abbrev pub giver : Purpose → Option Component
giver AirHalo = Some Atmos
giver LandToAir = Some Land
giver IceToAir = Some Ice
giver AirToLand = Some Atmos
giver AirToIce = Some Atmos
giver LandToIce = Some Land
giver IceToOcean = Some Ice
giver OceanToIce = Some Ocean
giver OceanHalo = Some Ocean
giver Sums = None

-- the component whose pieces take; the sums are taken by piece 0 alone
abbrev pub receiver : Purpose → Option Component
receiver AirHalo = Some Atmos
receiver LandToAir = Some Atmos
receiver IceToAir = Some Atmos
receiver AirToLand = Some Land
receiver AirToIce = Some Ice
receiver LandToIce = Some Ice
receiver IceToOcean = Some Ocean
receiver OceanToIce = Some Ice
receiver OceanHalo = Some Ocean
receiver Sums = None

-- the pieces of one component, or else these
abbrev pub pieces_or : Setting → List ℕ → Option Component → List ℕ
pieces_or setting others (Some component) = pieces_for setting component
pieces_or setting others None = others

-- the pieces that may post
abbrev pub posters : Setting → Purpose → List ℕ
posters setting purpose = pieces_or setting (all_pieces setting) (giver purpose)

-- the pieces that may take
abbrev pub takers : Setting → Purpose → List ℕ
takers setting purpose = pieces_or setting (0 ∷ []) (receiver purpose)

-- How often an edge is used: in each fast step, in each ocean step, once in each coupling step, or between each coupling step and the
-- next; the sums before the first coupling step and after each.
unfoldable pub uses_for : Names → Purpose → ℕ
uses_for names AirHalo = names.steps * names.fast
uses_for names LandToAir = names.steps * names.fast
uses_for names IceToAir = names.steps * names.fast
uses_for names AirToLand = names.steps * names.fast
uses_for names AirToIce = names.steps * names.fast
uses_for names LandToIce = names.steps
uses_for names IceToOcean = names.steps - 1
uses_for names OceanToIce = names.steps - 1
uses_for names OceanHalo = names.steps * names.ocean_steps
uses_for names Sums = names.steps + 1
