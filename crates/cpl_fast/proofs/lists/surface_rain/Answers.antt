use Rattle.std.proofs.Common.{◌≡◌, ◌∙◌, sym, subst, ◌*◌, ◌^◌, ◌≤◌, ℕ, arith, length}
use Rattle.std.specs.Prelude.{ℤ}
use Rattle.cpl_fast.specs.declared.sums.Sums.{Sums}
use Rattle.cpl_fast.specs.Sums.{AreSmall, IsSmall}
use Rattle.cpl_fast.proofs.Empty.{dry_clear}
use Rattle.cpl_fast.proofs.Small.{passed, passed_small, wider}
use Rattle.cpl_fast.proofs.ToFlows.{airs, are_dry, can_rain_on, fell_is, few, given_is, rains_in_range, rains_long, some, wet_are}
use Rattle.cpl_fast.proofs.lists.surface_rain.Goals as goal

pub list_rain-requires-clause-airs : goal.list_rain-requires-clause-airs
list_rain-requires-clause-airs c = airs _ c.requires.lawful _ _ _ c.requires.tables c.requires.skies

pub list_rain-requires-clause-rains : goal.list_rain-requires-clause-rains
list_rain-requires-clause-rains c = rains_in_range _ c.requires.lawful _ _ _ c.requires.tables c.requires.skies _ c.requires.rains

pub list_rain-requires-clause-count : goal.list_rain-requires-clause-count
list_rain-requires-clause-count c = rains_long _ c.requires.lawful _ _ _ c.requires.tables c.requires.skies _ c.requires.rains

pub list_rain-requires-clause-can : goal.list_rain-requires-clause-can
list_rain-requires-clause-can c = can_rain_on _ c.requires.lawful _ _ _ c.requires.tables c.requires.skies _ c.requires.rains

pub list_rain-requires-clause-some : goal.list_rain-requires-clause-some
list_rain-requires-clause-some c = some _ c.requires.lawful _ _ _ c.requires.tables c.requires.skies

pub list_rain-requires-clause-few : goal.list_rain-requires-clause-few
list_rain-requires-clause-few c = few _ c.requires.lawful _ _ _ c.requires.tables c.requires.skies

pub list_rain-requires-clause-clear : goal.list_rain-requires-clause-clear
list_rain-requires-clause-clear c = dry_clear _ _ _ c.requires.tables _ c.requires.flows

pub list_rain-requires-clause-dry : goal.list_rain-requires-clause-dry
list_rain-requires-clause-dry c = are_dry _ c.requires.lawful _ _ _ c.requires.tables c.requires.skies _ c.requires.rains _ c.requires.flows

-- the rain on so many rows is small, also as it was passed
fell_small : (rows : ℕ) (fell : ℤ) → rows ≤ 1_048_576 → IsSmall (6 * rows) fell → IsSmall (2 ^ 30) fell
fell_small rows fell rows_few small = wider (6 * rows) (2 ^ 30) fell (omega arith) small

fell_passed : (fell : ℤ) → IsSmall (2 ^ 30) fell → passed fell ≡ fell
fell_passed fell small = passed_small fell (wider (2 ^ 30) (2 ^ 60) fell (omega arith) small)

-- sums with the rain
with_fallen : (sums : Sums) (fell : ℤ) → AreSmall (2 ^ 30) sums → IsSmall (2 ^ 30) fell → AreSmall (2 ^ 30) (record sums { rain = passed fell })
with_fallen sums fell small of_rain = record { heat = small.heat; water = small.water; sun = small.sun; rain = subst (IsSmall (2 ^ 30)) (sym (fell_passed fell of_rain)) of_rain }

pub taken_by-requires : goal.taken_by-requires
taken_by-requires c =
    let rows = few _ c.requires.lawful _ _ _ c.requires.tables c.requires.skies in
    with_fallen c.args.flown c.list_rain.result c.requires.small (fell_small (length c.args.tables.now.links.items) c.list_rain.result rows c.list_rain.ensures.small)

pub returns-clause-flows : goal.returns-clause-flows
returns-clause-flows c =
    wet_are _ c.requires.lawful _ _ _ c.requires.tables c.requires.skies _ c.requires.rains
    c.args.flows.now c.list_rain.new.flows c.requires.flows c.list_rain.auto.flows c.list_rain.ensures.flows

pub returns-clause-given : goal.returns-clause-given
returns-clause-given c =
    let rows = few _ c.requires.lawful _ _ _ c.requires.tables c.requires.skies in
    let fell = fell_passed c.list_rain.result (fell_small (length c.args.tables.now.links.items) c.list_rain.result rows c.list_rain.ensures.small)
    ∙ fell_is _ c.requires.lawful _ _ _ c.requires.tables c.requires.skies _ c.requires.rains c.list_rain.result c.list_rain.ensures.rain in
    c.taken_by.ensures.value ∙ given_is _ c.requires.lawful _ _ _ c.requires.tables c.requires.skies c.args.flown (passed c.list_rain.result) c.requires.flown fell
