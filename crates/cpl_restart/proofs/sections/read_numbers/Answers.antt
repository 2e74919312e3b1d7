use Rattle.std.proofs.Common.{◌≡◌, ◌*◌, ◌∙◌, false, ltb, length, refl, sym, arith}
use Rattle.std.proofs.lemmas.Bool.{le-ltb}
use Rattle.std.proofs.lemmas.List.{take_at}
use Rattle.cpl_restart.specs.Numbers.{numbers_in}
use Rattle.cpl_restart.proofs.Words.{numbers_read}
use Rattle.cpl_restart.proofs.sections.read_numbers.Goals as goal

pub returns : goal.returns
returns c =
    let numbers = c.read_i64_into.new.dst in
    let len : length numbers ≡ c.args.count = omega (arith, c.read_i64_into.auto.dst, c.deref_mut.ensures.len, c.in_ok-numbers.ensures.len) in
    let whole : c.from_vec.result ≡ numbers = c.from_vec.ensures ∙ take_at numbers _ c.in_ok-numbers.numbers.len (len ∙ sym c.in_ok-numbers.ensures.len) in
    let read : numbers ≡ numbers_in c.args.count c.args.bytes.now = numbers_read c.args.count c.args.bytes.now c.split_at.result.0.now numbers (omega arith) c.split_at.ensures.front len c.read_i64_into.ensures in
    let long : ltb (length c.args.bytes.now) (8 * c.args.count) ≡ false = le-ltb _ _ (omega arith) in
    record {
      exact = rw (long, whole, read, c.split_at.ensures.back) refl;
      count = rw whole len;
    }
