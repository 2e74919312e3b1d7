-- A coupling step: all parts of the model go on by the coupling step's seconds, and what flies between ice and ocean is one step old.
use Rattle.std.specs.Prelude.{ℕ, zero, suc, ◌*◌, List, [], ◌∷◌, ◌++◌, ℤ, pos, ◌+ℤ◌, unsigned_abs}
use Rattle.cpl_fixed.specs.Amounts.{at}
use Rattle.cpl_fixed.specs.Totals.{total_of}
use Rattle.cpl_namelist.specs.declared.names.Names.{Names}
use Rattle.cpl_namelist.specs.Civil.{civil_after}
use Rattle.cpl_xgrid.specs.declared.grid.Grid.{Grid}
use Rattle.cpl_xgrid.specs.declared.parts.Surface.TheVariants.{Land, Ocean}
use Rattle.cpl_fixed.specs.declared.gain.Gain.{Gain}
use Rattle.cpl_ice.specs.declared.parts.Salty.{Salty}
use Rattle.cpl_transport.specs.Salts.{without}
use Rattle.cpl_state.specs.declared.whole.Whole.{Whole}
use Rattle.cpl_state.specs.declared.whole.Mid.{Mid}
use Rattle.cpl_state.specs.States.{land_cells, ocean_cells, layers, flight_to_ice}
use Rattle.cpl_state.specs.FastStep.{Before, fast_after, entered, left, heat_given, water_given, heat_to_land, water_to_land, heat_to_ice, water_to_ice, for_each}
use Rattle.cpl_state.specs.Stocks.{whole_flight}
use Rattle.cpl_state.specs.Slow.{slow_after, runoff_of, arrived, returned_at}
use Rattle.cpl_state.specs.Transport.{Sea, cell_in, stepped_by}
use Rattle.cpl_state.specs.Cut.{with_flight, cut_at, cut_off, after_cut}

-- THE ICE AND WHAT LIES OVER IT

-- no flight, as the numbers of cells
abbrev pub no_flights : ℕ → List ℤ
no_flights count = for_each count (λ n. pos 0)

-- the ice takes the flight to it, as frazil and skin, and the flight to the ocean is with the ocean
unfoldable pub taken : Grid → Whole → Mid
taken grid whole = record {
  whole = record whole { to_ice = no_flights (5 * ocean_cells grid); to_ocean = no_flights (3 * ocean_cells grid) };
  skin_water = for_each (ocean_cells grid) (λ n. (flight_to_ice whole n).skin.water);
  skin_heat = for_each (ocean_cells grid) (λ n. (flight_to_ice whole n).skin.heat);
  skin_salt = for_each (ocean_cells grid) (λ n. (flight_to_ice whole n).skin.salt);
  frazil_water = for_each (ocean_cells grid) (λ n. (flight_to_ice whole n).frazil_water);
  frazil_heat = for_each (ocean_cells grid) (λ n. (flight_to_ice whole n).frazil_heat);
}

-- the month, 1 to 12, of the moment at which a coupling step begins
unfoldable pub month_of : Names → Whole → ℕ
month_of names whole = (civil_after names.start (unsigned_abs whole.elapsed)).1

-- what the next fast step goes by
abbrev pub before : Grid → Names → (month : ℕ) → Mid → Before
before grid names month mid = record { grid = grid; rates = names.rates; month = month; mid = mid }

-- the state after this many fast steps
abbrev pub fast_by : ℕ → Grid → Names → (month : ℕ) → Mid → Mid
fast_by zero grid names month mid = mid
fast_by (suc n) grid names month mid = fast_after (before grid names month (fast_by n grid names month mid))

-- the state after all fast steps of a coupling step
unfoldable pub after_fast : Grid → Names → Whole → Mid
after_fast grid names whole = fast_by names.fast grid names (month_of names whole) (taken grid whole)

-- THE OCEAN

abbrev pub sea_of : Whole → Sea
sea_of whole = record { water = whole.water; heat = whole.heat; salt = whole.salt; faces = whole.faces }

-- the ocean after its steps, before the cut; it begins with the flight to it
unfoldable pub sea_after : Grid → Names → Whole → Sea
sea_after grid names whole =
    stepped_by names.ocean_steps grid.ocean (layers grid) names.rates (with_flight grid.ocean (sea_of whole) whole.to_ocean)

-- THE STEP

-- air, land and ice as the slow part leaves them, with the flight to the ocean that it makes
abbrev pub surface_after : Grid → Names → Whole → Whole
surface_after grid names whole = slow_after grid names.rates (after_fast grid names whole)

-- the state with another ocean, and the flight to the ice that it cuts off
abbrev pub with_sea : Grid → Whole → (sea : Sea) → Whole
with_sea grid whole sea = record whole {
  water = (after_cut grid.ocean sea).water;
  heat = (after_cut grid.ocean sea).heat;
  salt = (after_cut grid.ocean sea).salt;
  faces = (after_cut grid.ocean sea).faces;
  to_ice = cut_off grid.ocean sea;
}

-- the state after a coupling step
unfoldable pub step_after : Grid → Names → Whole → Whole
step_after grid names whole =
    record (with_sea grid (surface_after grid names whole) (sea_after grid names whole)) { elapsed = whole.elapsed +ℤ names.dt }

-- the state after this many coupling steps
abbrev pub state_after : ℕ → Grid → Names → Whole → Whole
state_after zero grid names whole = whole
state_after (suc n) grid names whole = step_after grid names (state_after n grid names whole)

-- WHAT WENT IN AND OUT, AND WHAT WAS GIVEN AND TAKEN

-- the sum of a tally over the fast steps of a coupling step
abbrev pub over_fast : (Before → ℤ) → ℕ → Grid → Names → (month : ℕ) → Mid → ℤ
over_fast tally zero grid names month mid = pos 0
over_fast tally (suc n) grid names month mid =
    over_fast tally n grid names month mid +ℤ tally (before grid names month (fast_by n grid names month mid))

abbrev pub over_fast_steps : (Before → ℤ) → Grid → Names → Whole → ℤ
over_fast_steps tally grid names whole = over_fast tally names.fast grid names (month_of names whole) (taken grid whole)

-- the absorbed sun, and the heat to space
unfoldable pub step_entered : Grid → Names → Whole → ℤ
step_entered grid names whole = over_fast_steps entered grid names whole

unfoldable pub step_left : Grid → Names → Whole → ℤ
step_left grid names whole = over_fast_steps left grid names whole

-- heat, water and salt, summed over cells
abbrev pub sums : (cells : ℕ) → (ℕ → Salty) → List ℤ
sums cells f =
    total_of (for_each cells (λ n. (f n).heat)) ∷ total_of (for_each cells (λ n. (f n).water)) ∷ total_of (for_each cells (λ n. (f n).salt)) ∷ []

-- water with its heat, and no salt
abbrev pub fresh : Gain → Salty
fresh gain = record { water = gain.water; heat = gain.heat; salt = pos 0 }

-- the air, land and ice as the fast steps leave them: what runs off cell n of the land, what arrives in a cell of the ocean's mosaic,
-- and what the ice there gives back
abbrev pub step_runoff : Grid → Names → Whole → ℕ → Gain
step_runoff grid names whole n = runoff_of grid names.rates (after_fast grid names whole).whole n

abbrev pub step_arrived : Grid → Names → Whole → ℕ → Gain
step_arrived grid names whole n = arrived grid names.rates (after_fast grid names whole).whole n

abbrev pub step_returned : Grid → Names → Whole → ℕ → Salty
step_returned grid names whole n = returned_at grid names.rates (after_fast grid names whole) n

-- What the givers of the five exchanges gave in a coupling step, heat, water and salt of each: the air to the land, the air to the
-- ice, the land to the ice, the ocean to the ice, the ice to the ocean. Sums over the giver's cells.
unfoldable pub step_gave : Grid → Names → Whole → List ℤ
step_gave grid names whole =
    over_fast_steps (λ s. heat_given s Land) grid names whole ∷ over_fast_steps (λ s. water_given s Land) grid names whole ∷ pos 0
    ∷ over_fast_steps (λ s. heat_given s Ocean) grid names whole ∷ over_fast_steps (λ s. water_given s Ocean) grid names whole ∷ pos 0
    ∷ (sums (land_cells grid) (λ n. fresh (step_runoff grid names whole n))
    ++ sums (ocean_cells grid) (λ n. whole_flight (cut_at grid.ocean (sea_after grid names whole) n))
    ++ sums (ocean_cells grid) (step_returned grid names whole))

-- what lies over the ice of cell n of the ocean's mosaic: frazil and skin together
abbrev pub over_ice : Mid → ℕ → Salty
over_ice mid n = record {
  water = at mid.frazil_water n +ℤ at mid.skin_water n;
  heat = at mid.frazil_heat n +ℤ at mid.skin_heat n;
  salt = at mid.skin_salt n;
}

-- what the top layer of cell n of the ocean has more once the flight to it is added
abbrev pub added_at : Grid → Whole → ℕ → Salty
added_at grid whole n =
    without (cell_in grid.ocean (with_flight grid.ocean (sea_of whole) whole.to_ocean) 0 n) (cell_in grid.ocean (sea_of whole) 0 n)

-- What their takers took, in the same order: sums over the taker's cells. Nothing lay over the ice before it took its flight, so it
-- took what lies there then; the ocean took what its top layer has more then. What they took was given a step before.
unfoldable pub step_took : Grid → Names → Whole → List ℤ
step_took grid names whole =
    over_fast_steps heat_to_land grid names whole ∷ over_fast_steps water_to_land grid names whole ∷ pos 0
    ∷ over_fast_steps heat_to_ice grid names whole ∷ over_fast_steps water_to_ice grid names whole ∷ pos 0
    ∷ (sums (ocean_cells grid) (λ n. fresh (step_arrived grid names whole n))
    ++ sums (ocean_cells grid) (over_ice (taken grid whole))
    ++ sums (ocean_cells grid) (added_at grid whole))
