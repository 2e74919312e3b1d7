use Rattle.cpl_core.proofs.Steps.{kept_reached, keeps_word}
use Rattle.cpl_core.proofs.laws.word_law.Goals as goal

pub returns : goal.returns
returns g c = λ events state edge leads below.
    let wires = g.W.Wiring.wires c.args.wiring.now in
    keeps_word wires state edge c.edges.ensures.wired (kept_reached wires events state c.edges.ensures.wired leads) below
