use Rattle.std.proofs.Common.{◌∙◌, ap, ◌+◌, ℤ, pos, List, length, get_or, arith}
use Rattle.cpl_field.proofs.Apart.{row_within, row_reads}
use Rattle.cpl_field.proofs.field.Field.row.Goals as goal

pub part-requires : goal.part-requires
part-requires c =
    let within = row_within _ c.args.self.now c.self.invariant c.self.view_is c.args.row c.requires c.place.result c.place.ensures in
    omega (arith, ap (λ (l : List ℤ). length l) c.deref.ensures.value)

pub returns-clause-each : goal.returns-clause-each
returns-clause-each c =
    row_reads _ c.args.self.now c.self.view_is c.part.result.now c.args.row c.place.result c.place.ensures
    (λ k l. c.part.ensures.each k l ∙ ap (λ (list : List ℤ). get_or list (c.place.result + k) (pos 0)) c.deref.ensures.value)
