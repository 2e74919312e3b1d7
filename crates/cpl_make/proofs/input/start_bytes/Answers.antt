use Rattle.std.proofs.Common.{◌≡◌, ◌∙◌, sym, ap, arith, ℕ, List, length, Ok}
use Rattle.cpl_xgrid.specs.declared.grid.Grid.{Grid}
use Rattle.cpl_state.specs.declared.whole.Whole.{Whole}
use Rattle.cpl_restart.specs.RestartBytes.{whole_bytes, whole_of}
use Rattle.cpl_restart.specs.SecondBytes.{second_bytes}
use Rattle.cpl_make.specs.Starts.{made_start}
use Rattle.cpl_make.proofs.StartSizes.{summed_bytes, start_most}
use Rattle.cpl_make.proofs.input.start_bytes.Goals as goal

pub returns-clause-spelled : goal.returns-clause-spelled
returns-clause-spelled c = c.in_ok-bytes.ensures.spelled ∙ ap second_bytes c.in_ok-start.ensures.start

pub returns-clause-limit : goal.returns-clause-limit
unfolding whole_bytes
returns-clause-limit c =
    let spelled : c.in_ok-bytes.bytes.items ≡ summed_bytes (made_start c.args.recipe) = c.in_ok-bytes.ensures.spelled ∙ ap second_bytes c.in_ok-start.ensures.start in
    let same = ap (λ (bytes : List ℕ). length bytes) spelled in
    let most = start_most c.args.recipe c.requires.size in
    omega arith

pub returns-clause-back : goal.returns-clause-back
returns-clause-back c =
    ap (λ (grid : Grid). whole_of grid c.in_ok-bytes.bytes.items) (sym c.requires.grid)
    ∙ c.in_ok-bytes.ensures.back
    ∙ ap (λ (whole : Whole). Ok whole) c.in_ok-start.ensures.start
