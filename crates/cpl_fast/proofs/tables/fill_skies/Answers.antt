use Rattle.std.proofs.Common.{◌≡◌, ◌≢◌, ◌∙◌, sym, subst, ◌<◌, arith, below_more, ℕ, List, length, w64, to_z, of_z}
use Rattle.std.specs.Prelude.{ℤ, slice_set}
use Rattle.std.proofs.lemmas.Int.{ints}
use Rattle.std.proofs.lemmas.List.{get_or-set_same, get_or-set_other, length-set}
use Rattle.cpl_fixed.specs.Amounts.{at}
use Rattle.cpl_flux.specs.declared.parts.AirSide.{AirSide}
use Rattle.cpl_flux.specs.Elements.{IsAirSide}
use Rattle.cpl_fast.specs.Flows.{sky_at, no_sky}
use Rattle.cpl_fast.specs.Tables.{side_of, sky_by, sky_under}
use Rattle.cpl_fast.proofs.tables.fill_skies.Goals as goal

-- what is read of a cell
side_read : (heat vapour area : List ℤ) (n : ℕ) → IsAirSide (side_of heat vapour area n)
    → ◌≡◌ {A = AirSide} (side_of heat vapour area n) (record { heat = to_z w64 (of_z w64 (at heat n)); vapour = to_z w64 (of_z w64 (at vapour n)); area = to_z w64 (of_z w64 (at area n)) })
side_read heat vapour area n is =
    let h : at heat n ≡ to_z w64 (of_z w64 (at heat n)) = omega (arith, ints, is.heat.0, is.heat.1) in
    let v : at vapour n ≡ to_z w64 (of_z w64 (at vapour n)) = omega (arith, ints, is.vapour.0, is.vapour.1) in
    let a : at area n ≡ to_z w64 (of_z w64 (at area n)) = omega (arith, ints, is.area.0, is.area.1) in
    λ i. record { heat = h i; vapour = v i; area = a i }

pub sky-requires-clause-air : goal.sky-requires-clause-air
sky-requires-clause-air c =
    let n = c.loop-n.n in
    let is = c.requires.cells n (omega arith) in
    subst IsAirSide (side_read c.args.heat.now c.args.vapour.now c.args.area.now n is) is

pub loop-n-preserved : goal.loop-n-preserved
loop-n-preserved c =
    let n = c.loop-n.n in
    let l : n < length c.args.skies.now = omega arith in
    let count = c.loop-n.invariant.0 in
    let side = side_read c.args.heat.now c.args.vapour.now c.args.area.now n (c.requires.cells n l) in
    let own : c.sky.result ≡ sky_by c.args.rates.now c.args.heat.now c.args.vapour.now c.args.area.now n =
    c.sky.ensures ∙ (λ i. sky_under c.args.rates.now (sym side i)) in (
      length-set c.loop-n.skies n c.sky.result ∙ count,
      below_more (λ k. sky_at (slice_set c.loop-n.skies n c.sky.result) k ≡ sky_by c.args.rates.now c.args.heat.now c.args.vapour.now c.args.area.now k) n
          (λ k h. let ne : k ≢ n = omega arith in get_or-set_other c.loop-n.skies n k c.sky.result no_sky ne ∙ c.loop-n.invariant.1 k h)
          (get_or-set_same c.loop-n.skies n c.sky.result no_sky (omega arith) ∙ own),
    )

pub returns-clause-value : goal.returns-clause-value
returns-clause-value c = λ n l. c.loop-n.invariant.1 n (omega arith)
