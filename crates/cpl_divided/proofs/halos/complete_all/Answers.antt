use Rattle.std.proofs.Common.{◌≡◌, sym, subst, ap, ℕ, ◌+◌, arith, List, [], slice_set, get_or}
use Rattle.std.specs.Prelude.{ℤ}
use Rattle.std.proofs.lemmas.List.{get_or_read, get_or_default}
use Rattle.cpl_field.specs.Spots.{FieldNumbers}
use Rattle.cpl_strip.specs.Strips.{strip_at}
use Rattle.cpl_group.specs.Parts.{Unpacks}
use Rattle.cpl_divided.specs.Fields.{field_at}
use Rattle.cpl_divided.specs.Buffers.{buffer_at, ends_at}
use Rattle.cpl_divided.proofs.Links.{CompletedTo, completed_more}
use Rattle.cpl_divided.proofs.halos.complete_all.Goals as goal

pub loop-m-preserved : goal.loop-m-preserved
loop-m-preserved c =
    let strips = c.args.group.now.strips in
    let s = c.loop-m.m in
    let count = c.requires.ends.count in
    let to : (ends_at c.args.ends.now s).1 ≡ (strip_at strips s).to = ap (λ (e : ℕ × ℕ). e.1) (c.requires.ends.each s (omega arith)) in
    let P : ℕ → Type 0 = λ p. CompletedTo strips c.args.buffers.now (s + 1) c.args.fields.now (slice_set c.loop-m.fields p c.complete.new.field) in
    let Q : ℕ → Type 0 = λ p. Unpacks (strip_at strips s) 0 (buffer_at c.args.buffers.now s) (field_at c.loop-m.fields p) c.complete.new.field in
    let buffers = c.requires.started.sized.count in
    let buffer : c.index-buffers-m.result ≡ buffer_at c.args.buffers.now s = get_or_read c.args.buffers.now s c.index-buffers-m.result (omega arith) c.index-buffers-m.is [] in
    let joined = c.requires.fields.to s (omega arith) in
    let fields = c.loop-m.invariant.count in
    let field : get_or c.loop-m.fields (ends_at c.args.ends.now s).1 c.index-fields-to.result ≡ field_at c.loop-m.fields (ends_at c.args.ends.now s).1 = get_or_default c.loop-m.fields (ends_at c.args.ends.now s).1 c.index-fields-to.result (record { nx = 0; ny = 0; width = 0; numbers = [] }) (omega arith) in
    let whole : Q (ends_at c.args.ends.now s).1 = subst (λ (f : FieldNumbers). Unpacks (strip_at strips s) 0 (buffer_at c.args.buffers.now s) f c.complete.new.field) field (subst (λ (b : List ℤ). Unpacks (strip_at strips s) 0 b (get_or c.loop-m.fields (ends_at c.args.ends.now s).1 c.index-fields-to.result) c.complete.new.field) buffer c.complete.ensures) in
    subst P (sym to) (completed_more strips c.args.buffers.now s c.args.fields.now c.loop-m.fields c.requires.fields (omega arith) c.loop-m.invariant c.complete.new.field (subst Q to whole))
