-- A row of a list whose elements are written one after another.
use Rattle.std.proofs.Common.{◌≡◌, ◌≢◌, ◌∙◌, sym, subst, ℕ, ◌+◌, ◌*◌, ◌<◌, ◌≤◌, arith, List, length, slice_set}
use Rattle.std.specs.Prelude.{pos}
use Rattle.cpl_fast.specs.declared.flows.Flow.{Flow}
use Rattle.cpl_fast.specs.declared.flows.Tables.{Tables}
use Rattle.cpl_fast.specs.Flows.{AreUsed, area_in, flow_at, no_flow}
use Rattle.cpl_fast.specs.Places.{place_in, used_at}
use Rattle.cpl_fast.proofs.Ends.{entries_behind, row_end}
use Rattle.cpl_fast.proofs.Placed.{ahead_stays, entry_more_by, entry_set_by, entry_within, others_stand}

-- the first k elements of a row have their flows, and all others stand
pub record IsWritten (old now : List Flow) (rows row k : ℕ) (own : ℕ → Flow) : Type 0 where
  pub written : (j : ℕ) → j < k → flow_at now (place_in rows row j) ≡ own j
  pub ahead : (j : ℕ) → k ≤ j → flow_at now (place_in rows row j) ≡ flow_at old (place_in rows row j)
  pub others : (r j : ℕ) → r < rows → r ≢ row → flow_at now (place_in rows r j) ≡ flow_at old (place_in rows r j)

-- one element more is written
pub one_written : (old now next : List Flow) (rows width row k : ℕ) (own : ℕ → Flow) (flow : Flow) → row < rows → k < width → length now ≡ rows * width
    → IsWritten old now rows row k own → next ≡ slice_set now (place_in rows row k) flow → flow ≡ own k → IsWritten old next rows row (k + 1) own
one_written old now next rows width row k own flow l h long is set same =
    let place = entry_within rows width row k l h in
    subst (λ (flows : List Flow). IsWritten old flows rows row (k + 1) own) (sym set) (record {
      written = entry_set_by (λ j x. x ≡ own j) now rows row k no_flow flow l (omega (arith, place, long)) is.written same;
      ahead = ahead_stays now old rows row k no_flow flow l is.ahead;
      others = others_stand now old rows row k no_flow flow l is.others;
    })

-- one element more stood as it should be
pub one_passed : (old now next : List Flow) (rows row k : ℕ) (own : ℕ → Flow) → IsWritten old now rows row k own → next ≡ now → flow_at old (place_in rows row k) ≡ own k → IsWritten old next rows row (k + 1) own
one_passed old now next rows row k own is same stood =
    subst (λ (flows : List Flow). IsWritten old flows rows row (k + 1) own) (sym same) (record {
      written = entry_more_by (λ j x. x ≡ own j) now rows row k no_flow is.written (is.ahead k (omega arith) ∙ stood);
      ahead = λ j l. is.ahead j (omega arith);
      others = is.others;
    })

-- all elements have their flows once those that are looked at have, where those of the area 0 stood as they should be
pub all_written : (tables : Tables) → AreUsed tables → (old now : List Flow) (row end k : ℕ) (own : ℕ → Flow) → row < length tables.links.items → end ≡ used_at tables.used.items row → k ≡ end
    → IsWritten old now (length tables.links.items) row k own
    → ((j : ℕ) → j < tables.width → area_in tables row j ≡ pos 0 → flow_at old (place_in (length tables.links.items) row j) ≡ own j)
    → (j : ℕ) → j < tables.width → flow_at now (place_in (length tables.links.items) row j) ≡ own j
all_written tables used old now row end k own l e n is stood =
    let rows = length tables.links.items in
    entries_behind tables.areas.items rows tables.width row end (row_end tables used row l end e) (λ j. flow_at now (place_in rows row j) ≡ own j)
    (λ j below. is.written j (omega (arith, n, below))) (λ j behind h empty. is.ahead j (omega (arith, n, behind)) ∙ stood j h empty)
