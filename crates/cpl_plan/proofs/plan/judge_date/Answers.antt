use Rattle.std.proofs.Common.{◌≡◌, ◌∙◌, sym, subst, arith, w64, to_z, of_z}
use Rattle.std.specs.Prelude.{ℤ, unsigned_abs}
use Rattle.std.proofs.lemmas.Int.{ints}
use Rattle.std.proofs.lemmas.Bool.{false≢true}
use Rattle.cpl_namelist.specs.Civil.{Fits}
use Rattle.cpl_plan.specs.Faults.{last_second}
use Rattle.cpl_plan.proofs.Dates.{above_words, date_fits, date_late, date_past, last_is}
use Rattle.cpl_plan.proofs.plan.judge_date.Goals as goal

pub fits-requires-clause-forward : goal.fits-requires-clause-forward
fits-requires-clause-forward c =
    let names = c.args.names.now in
    let is = last_is names.steps c.args.start.now.elapsed c.from.result names.dt c.from.ensures c.requires.names.steps c.requires.names.dt.0 c.requires.names.dt.1 c.requires.elapsed.0 c.requires.elapsed.1 in
    omega (arith, ints, is.0, is.1, c.in-Some.ensures.0, c.in-Some.ensures.1)

pub returns-in-None : goal.returns-in-None
returns-in-None c =
    let names = c.args.names.now in
    let is = last_is names.steps c.args.start.now.elapsed c.from.result names.dt c.from.ensures c.requires.names.steps c.requires.names.dt.0 c.requires.names.dt.1 c.requires.elapsed.0 c.requires.elapsed.1 in
    date_late names c.args.start.now (above_words _ (last_second names c.args.start.now) c.in-None.ensures is.0 is.1)

pub returns-then-fits : goal.returns-then-fits
returns-then-fits c =
    let names = c.args.names.now in
    let is = last_is names.steps c.args.start.now.elapsed c.from.result names.dt c.from.ensures c.requires.names.steps c.requires.names.dt.0 c.requires.names.dt.1 c.requires.elapsed.0 c.requires.elapsed.1 in
    let some = c.in-Some.ensures in
    let last : to_z w64 (of_z w64 c.in-Some.last) ≡ last_second names c.args.start.now = omega (arith, ints, is.0, is.1, some.0, some.1) in
    date_fits names c.args.start.now (omega (arith, ints, is.0, some.0))
    (subst (λ (z : ℤ). Fits names.start (unsigned_abs z)) last (c.fits.ensures.0 c.if-fits.true))

pub returns-else-fits : goal.returns-else-fits
returns-else-fits c =
    let names = c.args.names.now in
    let is = last_is names.steps c.args.start.now.elapsed c.from.result names.dt c.from.ensures c.requires.names.steps c.requires.names.dt.0 c.requires.names.dt.1 c.requires.elapsed.0 c.requires.elapsed.1 in
    let some = c.in-Some.ensures in
    let last : to_z w64 (of_z w64 c.in-Some.last) ≡ last_second names c.args.start.now = omega (arith, ints, is.0, is.1, some.0, some.1) in
    date_past names c.args.start.now (to_z w64 (of_z w64 c.in-Some.last)) last (omega (arith, ints, is.0, some.0))
    (λ fits. let yes = c.fits.ensures.1 (subst (λ (z : ℤ). Fits names.start (unsigned_abs z)) (sym last) fits) in absurd (false≢true (sym c.if-fits.false ∙ yes)))
