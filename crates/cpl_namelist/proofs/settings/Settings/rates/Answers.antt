use Rattle.cpl_namelist.specs.declared.places.TheConstants as places
use Rattle.cpl_namelist.specs.Settings.{choices, number}
use Rattle.cpl_namelist.specs.Names.{rates_of}
use Rattle.cpl_namelist.proofs.Wholes.{kept64}
use Rattle.cpl_namelist.proofs.settings.Settings.rates.Goals as goal

pub returns : goal.returns
unfolding rates_of
returns c =
    let chosen = choices c.args.self.now in
    let e0 = kept64 c.signed.result (number chosen places.CA 0) c.signed.ensures.fits c.signed.ensures.value in
    let e1 = kept64 c.signed-2.result (number chosen places.KH 0) c.signed-2.ensures.fits c.signed-2.ensures.value in
    let e2 = kept64 c.signed-3.result (number chosen places.KE 0) c.signed-3.ensures.fits c.signed-3.ensures.value in
    let e3 = kept64 c.signed-4.result (number chosen places.HS 0) c.signed-4.ensures.fits c.signed-4.ensures.value in
    let e4 = kept64 c.signed-5.result (number chosen places.KO 0) c.signed-5.ensures.fits c.signed-5.ensures.value in
    let e5 = kept64 c.signed-6.result (number chosen places.RC 0) c.signed-6.ensures.fits c.signed-6.ensures.value in
    let e6 = kept64 c.signed-7.result (number chosen places.CL 0) c.signed-7.ensures.fits c.signed-7.ensures.value in
    let e7 = kept64 c.signed-8.result (number chosen places.CAP 0) c.signed-8.ensures.fits c.signed-8.ensures.value in
    let e8 = kept64 c.signed-9.result (number chosen places.LAND_ALBEDO 0) c.signed-9.ensures.fits c.signed-9.ensures.value in
    let e9 = kept64 c.signed-10.result (number chosen places.H0 0) c.signed-10.ensures.fits c.signed-10.ensures.value in
    let e10 = kept64 c.signed-11.result (number chosen places.ICE_ALBEDO 0) c.signed-11.ensures.fits c.signed-11.ensures.value in
    let e11 = kept64 c.signed-12.result (number chosen places.WATER_ALBEDO 0) c.signed-12.ensures.fits c.signed-12.ensures.value in
    cc (c.signed_numbers.ensures, c.signed_numbers-2.ensures, c.number.ensures, c.number-2.ensures)
