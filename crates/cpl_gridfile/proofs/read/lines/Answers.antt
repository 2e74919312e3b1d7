use Rattle.std.proofs.Common.{◌≡◌, ◌≢◌, ◌∙◌, rules, length, []}
use Rattle.cpl_gridfile.specs.declared.next_line.NextLine.TheVariants as next
use Rattle.cpl_gridfile.specs.Readers.{parts_of, stepped}
use Rattle.cpl_gridfile.proofs.Turns.{begins, goes_on, ends, is_whole, has_more}
use Rattle.cpl_gridfile.proofs.read.lines.Goals as goal

pub loop-reader-init : goal.loop-reader-init
loop-reader-init c =
    begins c.args.kind c.new-reader.result.kind c.args.bytes.now c.new-reader.ensures.kind c.new-reader.result.next (parts_of c.new-reader.result)
    c.new-reader.ensures.next c.new-reader.ensures.parts

pub returns-in-Err : goal.returns-in-Err
returns-in-Err c =
    let more : c.loop-reader.reader.next ≢ next.Nothing = search rules in
    rw c.at.ensures
    (ends c.args.kind c.loop-reader.reader.kind c.args.bytes.now c.loop-reader.reader.next (parts_of c.loop-reader.reader) c.loop-reader.number c.loop-reader.rest.now
    c.loop-reader.invariant c.in-Err.fault more c.in-Err.ensures.step)

pub loop-reader-smaller : goal.loop-reader-smaller
loop-reader-smaller c =
    (goes_on c.args.kind c.loop-reader.reader.kind c.args.bytes.now c.loop-reader.reader.next (parts_of c.loop-reader.reader) c.loop-reader.number c.loop-reader.rest.now
    c.loop-reader.invariant (stepped c.line.new.self c.in-Ok.rest.now) c.in-Ok.ensures.step).1

pub loop-reader-preserved : goal.loop-reader-preserved
loop-reader-preserved c =
    let on = goes_on c.args.kind c.loop-reader.reader.kind c.args.bytes.now c.loop-reader.reader.next (parts_of c.loop-reader.reader) c.loop-reader.number c.loop-reader.rest.now
    c.loop-reader.invariant (stepped c.line.new.self c.in-Ok.rest.now) c.in-Ok.ensures.step in
    record { kind_is = c.in-Ok.ensures.kind ∙ c.loop-reader.invariant.kind_is; far = on.0; few = on.2 }

pub returns-then-not-is_empty : goal.returns-then-not-is_empty
returns-then-not-is_empty c =
    let done : c.loop-reader.reader.next ≡ next.Nothing = search rules in
    let more : c.loop-reader.rest.now ≢ [] = search rules in
    has_more c.args.kind c.loop-reader.reader.kind c.args.bytes.now c.loop-reader.reader.next (parts_of c.loop-reader.reader) c.loop-reader.number c.loop-reader.rest.now
    c.loop-reader.invariant done more

pub returns : goal.returns
returns c =
    let done : c.loop-reader.reader.next ≡ next.Nothing = search rules in
    let none : length c.loop-reader.rest.now ≡ 0 = search rules in
    is_whole c.args.kind c.loop-reader.reader.kind c.args.bytes.now c.loop-reader.reader.next (parts_of c.loop-reader.reader) c.loop-reader.number c.loop-reader.rest.now
    c.loop-reader.invariant done none
