use Rattle.std.proofs.Common.{◌≡◌, ◌∙◌, sym, ap, subst, ℕ, ◌+◌, ◌<◌, arith, List, [], ◌∷◌, ◌++◌, map, take, get_or, set, refl, eqb}
use Rattle.std.specs.List.{range_with_len}
use Rattle.std.proofs.lemmas.List.{get_or_read, length-take}
use Rattle.std.proofs.lemmas.List.FromFn.{map-range_with_len_more}
use Rattle.std.proofs.lemmas.List.Sums.{count_by-le-length}
use Rattle.cpl_wires.specs.Tables.{slot_in}
use Rattle.cpl_wires.proofs.Slotted.{AreCounts, counts_more}
use Rattle.cpl_wires.proofs.slots.slots_of.Goals as goal

pub overflow_add-before : goal.overflow_add-before
overflow_add-before c =
    let keys = c.args.keys.now in
    let key = get_or keys c.loop-key.key-index 0 in
    let low : key < c.args.count = c.requires.keys c.loop-key.key-index 0 c.loop-key-test.true in
    let size = c.loop-key.invariant.counts.size in
    let read = get_or_read c.loop-key.counts.items key c.index-before.result.now (omega arith) c.index-before.ensures 0 in
    let is = c.loop-key.invariant.counts.each key low in
    let most = count_by-le-length (λ k. eqb k key) (take c.loop-key.key-index keys) in
    let few = length-take c.loop-key.key-index keys in
    let long = c.requires.few in
    omega arith

pub loop-key-preserved : goal.loop-key-preserved
loop-key-preserved c =
    let keys = c.args.keys.now in
    let n = c.loop-key.key-index in
    let key = get_or keys n 0 in
    let counts = c.loop-key.counts.items in
    let low : key < c.args.count = c.requires.keys n 0 c.loop-key-test.true in
    let size = c.loop-key.invariant.counts.size in
    let read : c.index-before.result.now ≡ get_or counts key 0 = get_or_read counts key c.index-before.result.now (omega arith) c.index-before.ensures 0 in
    let is : c.index-before.result.now ≡ slot_in keys n = read ∙ c.loop-key.invariant.counts.each key low in
    record {
      counts = subst (λ (m : ℕ). AreCounts c.args.count keys (n + 1) (set counts key (m + 1))) (sym read)
          (counts_more c.args.count keys n key counts c.loop-key.invariant.counts c.loop-key-test.true refl low);
      slots =
          c.in_ok-push.ensures.items
          ∙ ap (λ (l : List ℕ). l ++ c.index-before.result.now ∷ []) c.loop-key.invariant.slots
          ∙ ap (λ (x : ℕ). map (slot_in keys) (range_with_len 0 n) ++ x ∷ []) is
          ∙ sym (map-range_with_len_more (slot_in keys) 0 n n (omega arith));
    }
