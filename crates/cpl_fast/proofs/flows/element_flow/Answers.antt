use Rattle.std.proofs.Common.{◌≡◌, ◌∙◌, sym, ap, subst, arith, ℕ, to_z, of_z, w64}
use Rattle.std.specs.Prelude.{ℤ}
use Rattle.std.proofs.lemmas.Int.{ints}
use Rattle.cpl_flux.specs.declared.parts.Part.{Part}
use Rattle.cpl_flux.specs.Elements.{IsElement, IsPart}
use Rattle.cpl_fast.specs.declared.flows.Link.{Link}
use Rattle.cpl_fast.specs.declared.flows.Tables.{Tables}
use Rattle.cpl_fast.specs.declared.part_lists.PartLists.{PartLists}
use Rattle.cpl_fast.specs.Flows.{area_in, flow_in, flow_through, link_at, part_of_row}
use Rattle.cpl_fast.specs.PartLists.{part_in}
use Rattle.cpl_fast.proofs.Parts.{area_read}
use Rattle.cpl_fast.proofs.flows.element_flow.Goals as goal

-- the part that was read by a row's link
part_read : (tables : Tables) (parts : PartLists) (row k : ℕ) (link : Link) (part : Part) → link ≡ link_at tables.links.items row → part ≡ part_in parts link.surface k → part ≡ part_of_row tables parts row k
part_read tables parts row k link part found e = e ∙ ap (λ (l : Link). part_in parts l.surface k) found

pub flow_through-requires-clause-part : goal.flow_through-requires-clause-part
flow_through-requires-clause-part c =
    subst IsPart (sym (part_read c.args.tables.now c.args.parts.now c.args.row c.args.k c.link.result c.part-part.result c.link.ensures c.part-part.ensures)) c.requires.can.part

pub flow_through-requires-clause-element : goal.flow_through-requires-clause-element
flow_through-requires-clause-element c =
    let tables = c.args.tables.now in
    let sky = c.args.sky.now in
    let element = c.requires.can.element in
    let b = area_read c.area-b.result (area_in tables c.args.row c.args.k) sky.air.area c.area-b.ensures element.least element.in_air c.requires.can.seen.air.area.1 in
    let part = part_read tables c.args.parts.now c.args.row c.args.k c.link.result c.part-part.result c.link.ensures c.part-part.ensures in
    let here = subst (λ (x : ℤ). IsElement sky.air (part_of_row tables c.args.parts.now c.args.row c.args.k) x) (sym b) element in
    subst (λ (p : Part). IsElement sky.air p (to_z w64 (of_z w64 c.area-b.result))) (sym part) here

pub returns : goal.returns
unfolding flow_in
returns c =
    let tables = c.args.tables.now in
    let element = c.requires.can.element in
    let b = area_read c.area-b.result (area_in tables c.args.row c.args.k) c.args.sky.now.air.area c.area-b.ensures element.least element.in_air c.requires.can.seen.air.area.1 in
    let part = part_read tables c.args.parts.now c.args.row c.args.k c.link.result c.part-part.result c.link.ensures c.part-part.ensures in
    let sun : to_z w64 (of_z w64 c.args.sun) ≡ c.args.sun = omega (arith, ints) in
    c.flow_through.ensures ∙ (λ i. flow_through c.args.rates.now c.args.sky.now (part i) (b i) (sun i))
