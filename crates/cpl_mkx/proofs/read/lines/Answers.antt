use Rattle.std.proofs.Common.{◌≡◌, ◌≢◌, rules, length, []}
use Rattle.cpl_mkx.specs.declared.next_line.NextLine.TheVariants as next
use Rattle.cpl_mkx.specs.Readers.{pair_of, stepped}
use Rattle.cpl_mkx.proofs.LinesLeft.{small}
use Rattle.cpl_mkx.proofs.Turns.{begins, goes_on, ends, is_whole, has_more}
use Rattle.cpl_mkx.proofs.read.lines.Goals as goal

pub turns-init : goal.turns-init
turns-init c = begins c.args.bytes.now c.new-reader.result.next (pair_of c.new-reader.result) c.new-reader.ensures.next c.new-reader.ensures.boxes

pub line-requires : goal.line-requires
line-requires c = small c.turns.reader.next c.turns.invariant.sizes

pub returns-in-Err : goal.returns-in-Err
returns-in-Err c =
    let more : c.turns.reader.next ≢ next.Nothing = search rules in
    rw c.at.ensures
    (ends c.args.bytes.now c.turns.reader.next (pair_of c.turns.reader) c.turns.number c.turns.rest.now
    c.turns.invariant c.in-Err.fault more c.in-Err.ensures)

pub turns-smaller : goal.turns-smaller
turns-smaller c =
    (goes_on c.args.bytes.now c.turns.reader.next (pair_of c.turns.reader) c.turns.number c.turns.rest.now
    c.turns.invariant (stepped c.line.new.self c.in-Ok.rest.now) c.in-Ok.ensures).1

pub turns-preserved : goal.turns-preserved
turns-preserved c =
    (goes_on c.args.bytes.now c.turns.reader.next (pair_of c.turns.reader) c.turns.number c.turns.rest.now
    c.turns.invariant (stepped c.line.new.self c.in-Ok.rest.now) c.in-Ok.ensures).0

pub returns-then-not-is_empty : goal.returns-then-not-is_empty
returns-then-not-is_empty c =
    let done : c.turns.reader.next ≡ next.Nothing = search rules in
    let more : c.turns.rest.now ≢ [] = search rules in
    has_more c.args.bytes.now c.turns.reader.next (pair_of c.turns.reader) c.turns.number c.turns.rest.now
    c.turns.invariant done more

pub returns : goal.returns
returns c =
    let done : c.turns.reader.next ≡ next.Nothing = search rules in
    let none : length c.turns.rest.now ≡ 0 = search rules in
    is_whole c.args.bytes.now c.turns.reader.next (pair_of c.turns.reader) c.turns.number c.turns.rest.now
    c.turns.invariant done none
