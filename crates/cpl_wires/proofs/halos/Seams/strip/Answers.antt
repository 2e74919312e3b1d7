use Rattle.std.proofs.Common.{◌∙◌, sym, ap, arith, map, List, [], Some}
use Rattle.std.proofs.lemmas.List.{get_or_default}
use Rattle.cpl_strip.specs.declared.parts.FaceStrip.{FaceStrip}
use Rattle.cpl_wires.specs.Tables.{pairs_most, face_strip_key, face_strip_with}
use Rattle.cpl_wires.proofs.Sought.{such_face, no_such_face}
use Rattle.cpl_wires.proofs.Most.{pairs_most_is}
use Rattle.cpl_wires.proofs.Read.{groups_count}
use Rattle.cpl_wires.proofs.halos.Seams.strip.Goals as goal

pub at-requires : goal.at-requires
at-requires c =
    let count = groups_count c.self.inside.numbers pairs_most (map face_strip_key c.self.inside.strips.items) c.self.invariant.numbers_are in omega (arith, count, pairs_most_is, c.pair_number.ensures.few)

pub index-requires : goal.index-requires
index-requires c =
    let within = (such_face c.self.inside.strips.items c.self.inside.numbers c.args.from c.args.to c.pair_number.result c.at.result.now c.self.invariant c.requires.from c.requires.to c.at.ensures c.pair_number.ensures.number c.in-Some.n.now c.in-Some.ensures.value).within in omega (arith, within, c.self.inside.strips.ok.0)

pub returns-in-Some : goal.returns-in-Some
returns-in-Some c =
    let first = such_face c.self.inside.strips.items c.self.inside.numbers c.args.from c.args.to c.pair_number.result c.at.result.now c.self.invariant c.requires.from c.requires.to c.at.ensures c.pair_number.ensures.number c.in-Some.n.now c.in-Some.ensures.value in
    ap Some (c.index.ensures ∙ get_or_default c.self.inside.strips.items c.in-Some.n.now c.index.result.now (record { from = 0; to = 0; sources = []; targets = [] }) first.within)
    ∙ sym first.is ∙ ap (λ (s : List FaceStrip). face_strip_with s c.args.from c.args.to) c.self.view_is

pub returns-in-None : goal.returns-in-None
returns-in-None c = sym (no_such_face c.self.inside.strips.items c.self.inside.numbers c.args.from c.args.to c.pair_number.result c.at.result.now c.self.invariant c.requires.from c.requires.to c.at.ensures c.pair_number.ensures.number c.in-None.ensures.value) ∙ ap (λ (s : List FaceStrip). face_strip_with s c.args.from c.args.to) c.self.view_is
