use Rattle.std.proofs.Common.{◌≡◌, Ok}
use Rattle.std.proofs.lemmas.Result.{IfOk-weaker}
use Rattle.cpl_restart.specs.RestartBytes.{whole_bytes, whole_of}
use Rattle.cpl_restart.specs.declared.version.Version.TheVariants.{Second}
use Rattle.cpl_restart.proofs.LawfulLaws.{Knows}
use Rattle.cpl_restart.proofs.RestartLaws.{reads_back}
use Rattle.cpl_restart.proofs.restart.encode.Goals as goal

pub returns-clause-back : goal.returns-clause-back
returns-clause-back c =
    let knows : Knows c.args.grid.now = record { numbers = c.known_of.ensures.numbers; mates = c.known_of.ensures.mates; faces = c.known_of.ensures.faces } in
    IfOk-weaker c.spell.result (λ bytes. bytes.items ≡ whole_bytes Second c.args.whole.now) (λ bytes. whole_of c.args.grid.now bytes.items ≡ Ok c.args.whole.now)
    (λ bytes e. reads_back c.args.grid.now Second bytes.items c.args.whole.now c.known_of.ensures.small knows c.requires.whole e)
    c.spell.ensures
