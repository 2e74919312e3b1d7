use Rattle.std.proofs.Common.{◌≡◌, ◌∙◌, sym, true, false, is_some}
use Rattle.std.specs.Option.{option_copied}
use Rattle.cpl_wires.proofs.Haloed.{some_map}
use Rattle.cpl_wires.proofs.Edged.{air_edge, sea_edge, face_edge, sums_edge, other_edge}
use Rattle.cpl_wires.proofs.shared.Shared.has_edge.Goals as goal

pub returns-in-AirHalo : goal.returns-in-AirHalo
returns-in-AirHalo c =
    air_edge c.args.self.now c.args.purpose c.args.from c.args.to c.is_some.result (option_copied c.air_strip.result) c.in-AirHalo.is c.air_strip.ensures (c.is_some.ensures ∙ sym (some_map (λ x. x.now) c.air_strip.result))

pub returns-then-is_some : goal.returns-then-is_some
returns-then-is_some c =
    let yes : is_some (option_copied c.sea_strip.result) ≡ true = some_map (λ x. x.now) c.sea_strip.result ∙ sym c.is_some-in-OceanHalo.ensures ∙ c.if-is_some.true in
    c.if-is_some.true ∙ sea_edge c.args.self.now c.args.purpose c.args.from c.args.to (option_copied c.sea_strip.result) c.in-OceanHalo.is c.sea_strip.ensures yes

pub returns-else-is_some : goal.returns-else-is_some
returns-else-is_some c =
    let no : is_some (option_copied c.sea_strip.result) ≡ false = some_map (λ x. x.now) c.sea_strip.result ∙ sym c.is_some-in-OceanHalo.ensures ∙ c.if-is_some.false in
    face_edge c.args.self.now c.args.purpose c.args.from c.args.to c.is_some-else-is_some.result (option_copied c.sea_strip.result) (option_copied c.sea_faces.result) c.in-OceanHalo.is c.sea_strip.ensures no
    c.sea_faces.ensures (c.is_some-else-is_some.ensures ∙ sym (some_map (λ x. x.now) c.sea_faces.result))

pub returns-in-Sums : goal.returns-in-Sums
returns-in-Sums c = sums_edge c.args.self.now c.args.purpose c.args.from c.args.to c.in-Sums.is

pub returns-in_default : goal.returns-in_default
returns-in_default c = other_edge c.args.self.now c.args.purpose c.args.from c.args.to c.count.result c.in_default.not-AirHalo c.in_default.not-OceanHalo c.in_default.not-Sums c.count.ensures.count
