use Rattle.std.proofs.Common.{◌∙◌, sym, subst, ap, ℤ, pos, List, get_or, arith}
use Rattle.std.proofs.lemmas.List.{with_items_is}
use Rattle.cpl_field.specs.Spots.{FieldNumbers, SetsRow}
use Rattle.cpl_field.proofs.Apart.{with_numbers, sets_row_by}
use Rattle.cpl_field.proofs.field.Field.set_row.Goals as goal

pub returns : goal.returns
returns c =
    let f : FieldNumbers = record { nx = c.self.inside.nx; ny = c.self.inside.ny; width = c.self.inside.width; numbers = c.self.inside.numbers.items } in
    let P : List ℤ → Type 0 = λ list. SetsRow c.args.self.now (with_numbers f list) c.args.j c.args.numbers.now in
    subst P (sym (with_items_is c.self.inside.numbers c.put_at.new.list (omega arith)))
    (sets_row_by _ c.args.self.now c.self.invariant c.self.view_is c.put_at.new.list c.args.numbers.now c.args.j c.place-from.result c.requires.row c.requires.count c.place-from.ensures c.put_at.ensures.there
    (λ m l. c.put_at.ensures.before m l ∙ ap (λ (list : List ℤ). get_or list m (pos 0)) c.deref_mut.ensures.value)
    (λ m l. c.put_at.ensures.after m l ∙ ap (λ (list : List ℤ). get_or list m (pos 0)) c.deref_mut.ensures.value))
