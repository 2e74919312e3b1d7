use Rattle.cpl_namelist.specs.declared.places.TheConstants as places
use Rattle.cpl_namelist.specs.Settings.{choices, number}
use Rattle.cpl_namelist.proofs.Wholes.{kept64}
use Rattle.cpl_namelist.proofs.settings.Settings.names_with.Goals as goal

pub returns : goal.returns
returns c =
    let chosen = choices c.args.self.now in
    let dt = kept64 c.signed.result (number chosen places.DT_CPLD 0) c.signed.ensures.fits c.signed.ensures.value in
    cc (c.signed_numbers.ensures, c.layout.ensures, c.layout-2.ensures, c.layout-3.ensures, c.layout-4.ensures, c.rates.ensures)
