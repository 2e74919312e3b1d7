use Rattle.cpl_plan.proofs.Lawful.{have_layouts}
use Rattle.cpl_plan.proofs.plan.judge_layouts.Goals as goal

pub returns-clause-fits : goal.returns-clause-fits
returns-clause-fits c =
    have_layouts c.args.grid.now c.args.names.now c.in_ok-judge_layout.ensures.fits c.in_ok-judge_layout-2.ensures.fits c.in_ok-judge_layout-3.ensures.fits
    c.in_ok-judge_layout-4.ensures.fits
