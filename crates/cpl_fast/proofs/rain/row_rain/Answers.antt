use Rattle.std.proofs.Common.{◌≡◌, ◌∙◌, sym, ap, subst, ℕ, ◌+◌, ◌≤◌, arith, to_z, of_z, w64, slice_set, length}
use Rattle.std.specs.Int.{w128}
use Rattle.std.specs.Prelude.{ℤ, pos, ◌+ℤ◌}
use Rattle.std.proofs.lemmas.Int.{ints}
use Rattle.cpl_fixed.specs.Amounts.{IsAmount}
use Rattle.cpl_fixed.specs.Shares.{share}
use Rattle.cpl_diffusion.proofs.Sums.{sum_to}
use Rattle.cpl_fast.specs.declared.flows.Tables.{Tables}
use Rattle.cpl_fast.specs.declared.portions.Portions.{Portions}
use Rattle.cpl_fast.specs.Flows.{ArePortions, area_in, before_in, flow_at}
use Rattle.cpl_fast.specs.Rain.{rain_in, rained_on}
use Rattle.cpl_fast.specs.Sums.{IsSmall}
use Rattle.cpl_fast.proofs.Ends.{row_end, total_entries}
use Rattle.cpl_fast.proofs.Nothing.{rained_clear}
use Rattle.cpl_fast.proofs.Parts.{amount_passed, area_read, share_none}
use Rattle.cpl_fast.proofs.Small.{plus_small, sum_to_more, wider}
use Rattle.cpl_fast.proofs.Places.{area_passed, before_more, cell_passed}
use Rattle.cpl_fast.proofs.Written.{IsWritten, all_written, one_passed, one_written}
use Rattle.cpl_fast.proofs.rain.row_rain.Goals as goal
use Rattle.cpl_fast.proofs.rain.row_rain.Goals.{then-b-ne0, else-b-ne0}

-- an amount is one number of 64 bits
amount_small : (x : ℤ) → IsAmount x → IsSmall 1 (to_z w64 (of_z w64 x))
amount_small x h = let a = h.0 in let b = h.1 in (omega (arith, ints), omega (arith, ints))

-- a share more, in 128 bits
rain_added : (k : ℕ) (sum wide share : ℤ) → IsSmall k sum → k ≤ 6 → IsAmount share → wide ≡ to_z w64 (of_z w64 share)
    → to_z w128 (of_z w128 (sum +ℤ to_z w128 (of_z w128 wide))) ≡ sum +ℤ to_z w64 (of_z w64 share)
rain_added k sum wide share small few h e = let p = small.0 in let q = small.1 in let a = h.0 in let b = h.1 in omega (arith, ints)

-- no rain on an element of the area 0
no_rain_in : (rain area : ℤ) (tables : Tables) (row k : ℕ) → area_in tables row k ≡ pos 0 → rain_in rain area tables row k ≡ pos 0
no_rain_in rain area tables row k empty =
    let from = before_in tables row k in
    (λ i. share rain from (from +ℤ empty i) area) ∙ share_none rain from area

-- and no share more
plus_none : (sum x : ℤ) → x ≡ pos 0 → sum ≡ sum +ℤ x
plus_none sum x e = omega (arith, ints)

pub portions-portions-requires-clause-cell : goal.portions-portions-requires-clause-cell
portions-portions-requires-clause-cell c = cell_passed c.args.area c.args.tables.now c.args.row 0 (c.requires.can 0 c.requires.some)

pub returns-clause-rain : goal.returns-clause-rain
returns-clause-rain c =
    let tables = c.args.tables.now in
    let rows = length tables.links.items in
    let row = c.args.row in
    let area = area_passed c.args.area tables row 0 (c.requires.can 0 c.requires.some) in
    let rain = amount_passed c.args.rain c.requires.rain in
    let n : c.loop-k.k ≡ c.used-k-end.result = omega arith in
    let end = row_end tables c.requires.fit.used row c.requires.row c.used-k-end.result c.used-k-end.ensures.value in
    c.loop-k.invariant.sum ∙ (λ i. sum_to (rain_in (rain i) (area i) tables row) (n i))
    ∙ total_entries tables.areas.items rows tables.width row c.used-k-end.result end (rain_in c.args.rain c.args.area tables row) (λ k l empty. no_rain_in c.args.rain c.args.area tables row k empty)

pub returns-clause-small : goal.returns-clause-small
returns-clause-small c =
    let most = c.used-k-end.ensures.most in
    let width = c.requires.fit.width in
    wider c.loop-k.k 6 _ (omega (arith, most, width)) c.loop-k.invariant.small

pub returns-clause-row : goal.returns-clause-row
returns-clause-row c =
    let tables = c.args.tables.now in
    let row = c.args.row in
    let area = area_passed c.args.area tables row 0 (c.requires.can 0 c.requires.some) in
    let rain = amount_passed c.args.rain c.requires.rain in
    let is = subst (IsWritten c.args.flows.now c.loop-k.flows (length tables.links.items) row c.loop-k.k) (λ i. rained_on (rain i) (area i) tables c.args.flows.now row) c.loop-k.invariant.flows in
    all_written tables c.requires.fit.used c.args.flows.now c.loop-k.flows row c.used-k-end.result c.loop-k.k (rained_on c.args.rain c.args.area tables c.args.flows.now row)
    c.requires.row c.used-k-end.ensures.value (omega arith) is
    (λ j l empty. (let clear = c.requires.clear j l empty in clear ∙ sym (rained_clear c.args.rain c.args.area tables c.args.flows.now row j empty clear)))

pub next-share-requires-clause-weight : goal.next-share-requires-clause-weight
next-share-requires-clause-weight c = let least = (c.requires.can c.loop-k.k (omega arith)).least in omega (arith, ints, c.area-b.ensures, least)

pub next-share-requires-clause-within : goal.next-share-requires-clause-within
next-share-requires-clause-within c =
    let can = c.requires.can c.loop-k.k (omega arith) in
    let low = can.least in let before = can.before in let within = can.within in let limit = can.range.1 in let some = can.range.0 in
    let b = area_read c.area-b.result (area_in c.args.tables.now c.args.row c.loop-k.k) c.args.area c.area-b.ensures low (omega (arith, ints)) limit in
    let from = c.loop-k.invariant.from in
    let whole = c.loop-k.invariant.whole in
    omega (arith, ints, b, from, whole, within)

pub loop-k-preserved : goal.loop-k-preserved
unfolding rained_on
loop-k-preserved c =
    let tables = c.args.tables.now in
    let row = c.args.row in
    let k = c.loop-k.k in
    let can = c.requires.can k (omega arith) in
    let low = can.least in let before = can.before in let within = can.within in let limit = can.range.1 in let some = can.range.0 in
    let b = area_read c.area-b.result (area_in tables row k) c.args.area c.area-b.ensures low (omega (arith, ints)) limit in
    let inv = c.loop-k.invariant in
    let rows = length tables.links.items in
    let old = inv.flows.ahead k (omega arith) in
    let f = rained_on (to_z w64 (of_z w64 c.args.rain)) (to_z w64 (of_z w64 c.args.area)) tables c.args.flows.now row in
    let rain = to_z w64 (of_z w64 c.args.rain) in
    let area = to_z w64 (of_z w64 c.args.area) in
    let one_more = sum_to_more (rain_in rain area tables row) k in
    elim c.if-b-ne0.branch [
      | then-b-ne0 w ↦
          let range = w.next-share.ensures.range in
          let set = w.flows-is ∙ (λ i. slice_set c.loop-k.flows (w.place.ensures.value i) (record (flow_at c.loop-k.flows (w.place.ensures.value i)) { rain = to_z w64 (of_z w64 w.next-share.result) })) in
          let part = amount_passed w.next-share.result range ∙ w.next-share.ensures.value ∙ (λ i. share (inv.rain i) (inv.from i) (inv.from i +ℤ b i) (inv.whole i)) in
          let added = w.sum-is ∙ rain_added k _ w.from-sum.result w.next-share.result inv.small (omega arith) range w.from-sum.ensures in
          let moved : w.next-share.new.self.from ≡ before_in tables row (k + 1) = w.next-share.ensures.from ∙ (λ i. inv.from i +ℤ b i) ∙ sym (before_more tables row k) in
          record {
            portions = subst ArePortions (sym w.portions-is) w.next-share.ensures.portions;
            rain = ap (λ (p : Portions). p.amount) w.portions-is ∙ w.next-share.ensures.amount ∙ inv.rain;
            whole = ap (λ (p : Portions). p.whole) w.portions-is ∙ w.next-share.ensures.whole ∙ inv.whole;
            from = ap (λ (p : Portions). p.from) w.portions-is ∙ moved;
            sum = added ∙ (λ i. inv.sum i +ℤ part i) ∙ sym one_more;
            small = subst (IsSmall (k + 1)) (sym added) (plus_small k 1 _ _ inv.small (amount_small w.next-share.result range));
            flows = one_written c.args.flows.now c.loop-k.flows _ rows tables.width row k f _ c.requires.row (omega arith) (omega arith) inv.flows set
                (λ i. record { heat = (old i).heat; water = (old i).water; sun = (old i).sun; rain = part i });
          }
      | else-b-ne0 w ↦
          let empty : area_in tables row k ≡ pos 0 = omega (arith, ints, c.area-b.ensures, w.if-b-ne0.false) in
          let clear = c.requires.clear k (omega arith) empty in
          let more = before_more tables row k in
          let from = inv.from in
          let none = no_rain_in rain area tables row k empty in
          let stays : before_in tables row k ≡ before_in tables row (k + 1) = omega (arith, ints, empty, more) in
          record {
            portions = subst ArePortions (sym w.portions-is) inv.portions;
            rain = ap (λ (p : Portions). p.amount) w.portions-is ∙ inv.rain;
            whole = ap (λ (p : Portions). p.whole) w.portions-is ∙ inv.whole;
            from = ap (λ (p : Portions). p.from) w.portions-is ∙ inv.from ∙ stays;
            sum = w.sum-is ∙ inv.sum ∙ plus_none _ (rain_in rain area tables row k) none ∙ sym one_more;
            small = subst (IsSmall (k + 1)) (sym w.sum-is) (wider k (k + 1) _ (omega arith) inv.small);
            flows = one_passed c.args.flows.now c.loop-k.flows _ rows row k f inv.flows w.flows-is (clear ∙ sym (rained_clear rain area tables c.args.flows.now row k empty clear));
          }
    ]
