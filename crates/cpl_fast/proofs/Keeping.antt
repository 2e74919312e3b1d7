-- Room stays room of a state where a stage writes lists of the same lengths.
use Rattle.std.proofs.Common.{◌≡◌, sym, ap, subst, ℕ, ◌*◌, List, length, rules, arith}
use Rattle.std.specs.Prelude.{ℤ, pos}
use Rattle.cpl_xgrid.specs.Rows.{rows_of}
use Rattle.cpl_xgrid.specs.declared.parts.XRef.{XRef}
use Rattle.cpl_xgrid.specs.declared.parts.Surface.{Surface}
use Rattle.cpl_xgrid.specs.declared.parts.Surface.TheVariants.{Land, Ocean}
use Rattle.cpl_state.specs.Elements.{element_area, element_count}
use Rattle.cpl_state.specs.FastStep.{Before}
use Rattle.cpl_fast.specs.declared.flows.Flow.{Flow}
use Rattle.cpl_fast.specs.declared.room.FastRoom.{FastRoom}
use Rattle.cpl_fast.specs.Rooms.{HasAreas, HaveSuns, IsDivided, IsFastRoom}
use Rattle.cpl_fast.specs.Stages.{AreFlows, HasFlows, IsSeen}
use Rattle.cpl_fast.specs.Sums.{AreClear}
use Rattle.cpl_fast.proofs.Empty.{are_clear}

-- the sun stands in flows whatever rain there is
pub suns_of : (s : Before) (wet : XRef → ℕ → ℤ) (list : Surface) (flows : List Flow) → AreFlows s wet list flows → HaveSuns s list flows
suns_of s wet list flows are = record { each = λ m k l h. ap (λ (flow : Flow). flow.sun) (are.each m k l h) }

-- room in which the areas of a state stand is divided where the sun was written
pub divided : (s : Before) (old new : FastRoom) → IsFastRoom s.grid old → HasAreas s.grid s.mid.whole old → new ≡ record old { land_flows = new.land_flows; ocean_flows = new.ocean_flows }
    → length new.land_flows.items ≡ length (rows_of s.grid.xgrid Land) → length new.ocean_flows.items ≡ length (rows_of s.grid.xgrid Ocean) * element_count s.grid Ocean
    → AreClear old.land new.land_flows.items → AreClear old.ocean new.ocean_flows.items → HaveSuns s Land new.land_flows.items → HaveSuns s Ocean new.ocean_flows.items → IsDivided s new
divided s old new is areas rest land ocean land_clear ocean_clear land_suns ocean_suns =
    let fast : IsFastRoom s.grid (record old { land_flows = new.land_flows; ocean_flows = new.ocean_flows }) = search rules in
    subst (IsDivided s) (sym rest) (record { room = fast; land = areas.land; ocean = areas.ocean; land_area = areas.land_area; ocean_area = areas.ocean_area; land_suns = land_suns; ocean_suns = ocean_suns })

-- room in which all flows stand, where they were written and no rain falls on elements of the area 0
pub keep_flows : (s : Before) (wet : XRef → ℕ → ℤ) → ((ref : XRef) (k : ℕ) → element_area s.grid s.mid.whole ref k ≡ pos 0 → wet ref k ≡ pos 0)
    → (old new : FastRoom) → IsSeen s old → new ≡ record old { land_flows = new.land_flows; ocean_flows = new.ocean_flows }
    → AreFlows s wet Land new.land_flows.items → AreFlows s wet Ocean new.ocean_flows.items → HasFlows s wet new
keep_flows s wet is_dry old new seen rest land ocean =
    let areas : HasAreas s.grid s.mid.whole old = record { land = seen.room.land; ocean = seen.room.ocean; land_area = seen.room.land_area; ocean_area = seen.room.ocean_area } in
    let room : IsDivided s new =
    divided s old new seen.room.room areas rest (omega (arith, land.count)) ocean.count
    (are_clear s Land wet is_dry old.land seen.land new.land_flows.items land) (are_clear s Ocean wet is_dry old.ocean seen.ocean new.ocean_flows.items ocean)
    (suns_of s wet Land new.land_flows.items land) (suns_of s wet Ocean new.ocean_flows.items ocean) in
    let kept : IsSeen s (record old { land_flows = new.land_flows; ocean_flows = new.ocean_flows }) = record { lawful = seen.lawful; room = subst (IsDivided s) rest room; land = seen.land; ocean = seen.ocean; skies = seen.skies } in
    record { seen = subst (IsSeen s) (sym rest) kept; land = land; ocean = ocean }
