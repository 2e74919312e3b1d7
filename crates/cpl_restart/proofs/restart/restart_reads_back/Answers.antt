use Rattle.cpl_restart.specs.declared.version.Version.TheVariants.{Second}
use Rattle.std.proofs.Common.{refl}
use Rattle.cpl_restart.specs.SecondBytes.{second_bytes}
use Rattle.cpl_restart.proofs.LawfulLaws.{Knows}
use Rattle.cpl_restart.proofs.RestartLaws.{reads_back}
use Rattle.cpl_restart.proofs.Sizes.{IsSmall, within_limit}
use Rattle.cpl_restart.proofs.restart.restart_reads_back.Goals as goal

pub returns-clause-within : goal.returns-clause-within
returns-clause-within c = λ whole is.
    let small : IsSmall c.args.grid.now = record {
      air = c.known_of.ensures.cells.0;
      land = c.known_of.ensures.cells.1;
      ocean = c.known_of.ensures.cells.2;
      faces = c.known_of.ensures.faces.few;
      column = c.requires.column;
    } in
    within_limit c.args.grid.now small whole is.lengths

pub returns-clause-back : goal.returns-clause-back
returns-clause-back c = λ whole is.
    let knows : Knows c.args.grid.now = record { numbers = c.known_of.ensures.numbers; mates = c.known_of.ensures.mates; faces = c.known_of.ensures.faces } in
    reads_back c.args.grid.now Second (second_bytes whole) whole c.known_of.ensures.small knows is refl
