use Rattle.std.proofs.Common.{◌∙◌, sym, ap, arith, map, Some}
use Rattle.cpl_group.specs.Parts.{Strips}
use Rattle.cpl_wires.specs.Tables.{pairs_most, strip_key, strip_with}
use Rattle.cpl_wires.proofs.Sought.{such, no_such}
use Rattle.cpl_wires.proofs.Most.{pairs_most_is}
use Rattle.cpl_wires.proofs.Read.{groups_count}
use Rattle.cpl_wires.proofs.halos.Halo.strip.Goals as goal

pub at-requires : goal.at-requires
at-requires c =
    let count = groups_count c.self.inside.numbers pairs_most (map strip_key c.self.inside.group.strips) c.self.invariant.numbers_are in omega (arith, count, pairs_most_is, c.pair_number.ensures.few)

pub strip-requires : goal.strip-requires
strip-requires c = (such c.self.inside.group.strips c.self.inside.numbers c.args.from c.args.to c.pair_number.result c.at.result.now c.self.invariant c.requires.from c.requires.to c.at.ensures c.pair_number.ensures.number c.in-Some.n.now c.in-Some.ensures.value).within

pub returns-in-Some : goal.returns-in-Some
returns-in-Some c =
    let first = such c.self.inside.group.strips c.self.inside.numbers c.args.from c.args.to c.pair_number.result c.at.result.now c.self.invariant c.requires.from c.requires.to c.at.ensures c.pair_number.ensures.number c.in-Some.n.now c.in-Some.ensures.value in
    ap Some c.strip.ensures.strip ∙ sym first.is ∙ ap (λ (s : Strips). strip_with s.strips c.args.from c.args.to) c.self.view_is

pub returns-in-None : goal.returns-in-None
returns-in-None c = sym (no_such c.self.inside.group.strips c.self.inside.numbers c.args.from c.args.to c.pair_number.result c.at.result.now c.self.invariant c.requires.from c.requires.to c.at.ensures c.pair_number.ensures.number c.in-None.ensures.value) ∙ ap (λ (s : Strips). strip_with s.strips c.args.from c.args.to) c.self.view_is
