-- The laws of reading boxes: what is read is the one spelling of boxes, that spelling is read, and the fault that is told is the first.
use Rattle.std.proofs.Common.{◌≡◌, ◌≢◌, ◌∙◌, refl, ap, subst, ℕ, List, Bool, true, false, cond, not, Option, Some, None, Result, Ok, Err}
use Rattle.std.specs.Prelude.{IfOk, IfErr}
use Rattle.std.specs.List.{flat_map}
use Rattle.cpl_fixed.specs.declared.words.Component.TheVariants.{Atmos, Ocean}
use Rattle.cpl_fixed.specs.Results.{Returns, Fails}
use Rattle.cpl_lines.specs.declared.fault.LinesError.{LinesError}
use Rattle.cpl_lines.specs.declared.fault.LinesError.TheVariants as lines
use Rattle.cpl_lines.specs.Lines.{Line, line_text}
use Rattle.cpl_lines.specs.Steps.{is_out_of_memory}
use Rattle.cpl_lines.specs.Reading.{lines_of, made_with}
use Rattle.cpl_lines.proofs.Turns.{IsFirst, fault_is_first, syntax_is_first, limit_is_first}
use Rattle.cpl_lines.proofs.Paths.{text_makes, made_is}
use Rattle.cpl_mkx.specs.declared.boxes.BoxPair.{BoxPair}
use Rattle.cpl_mkx.specs.declared.fault.BoxesError.{BoxesError}
use Rattle.cpl_mkx.specs.declared.fault.BoxesError.TheVariants.{Syntax, Limit, Order, OddFold, NoWet, TooMany, Memory}
use Rattle.cpl_mkx.specs.declared.next_line.NextLine.TheVariants as next
use Rattle.cpl_mkx.specs.Faults.{of_lines, is_memory}
use Rattle.cpl_mkx.specs.BoxFormat.{box_format, no_boxes}
use Rattle.cpl_mkx.specs.Rules.{◌then◌, rises, is_odd_fold, order_fault, fold_fault, boxes_fault}
use Rattle.cpl_mkx.specs.Boxes.{IsWithinLimits, IsBoxPair, IsRuleFault, IsReadingFault, box_lines, boxes_text}
use Rattle.cpl_mkx.specs.Reading.{lines_in, judged, judged_lines, boxes_of}
use Rattle.cpl_mkx.proofs.BoxLeads.{box_leads}
use Rattle.cpl_mkx.proofs.BoxOf.{boxes_of_lines}

-- RULES

-- a rule never tells a fault of lines, or of the overlay
abbrev IsRule : BoxesError → Type 0
IsRule (Order line) = Unit {0}
IsRule (OddFold component) = Unit {0}
IsRule fault = ⊥

choice_is_rule : (test : Bool) (first fault : BoxesError) (others : Option BoxesError) → IsRule first → ((other : BoxesError) → others ≡ Some other → IsRule other) → cond test (Some first) others ≡ Some fault → IsRule fault
choice_is_rule true first fault others is more e = let same : first ≡ fault = cc in subst IsRule same is
choice_is_rule false first fault others is more e = more fault e

none_is_rule : (fault : BoxesError) → None ≡ Some fault → IsRule fault
none_is_rule fault e = absurd cc

order_is_rule : (pair : BoxPair) (fault : BoxesError) → order_fault pair ≡ Some fault → IsRule fault
order_is_rule pair fault e =
    choice_is_rule (not (rises pair.air.x)) (Order 3) fault _ tt (λ f3 e3.
    choice_is_rule (not (rises pair.air.y)) (Order 4) f3 _ tt (λ f4 e4.
    choice_is_rule (not (rises pair.ocean.x)) (Order 6) f4 _ tt (λ f6 e6.
    choice_is_rule (not (rises pair.ocean.y)) (Order 7) f6 _ tt none_is_rule e6) e4) e3) e

fold_is_rule : (pair : BoxPair) (fault : BoxesError) → fold_fault pair ≡ Some fault → IsRule fault
fold_is_rule pair fault e =
    choice_is_rule (is_odd_fold pair.air.x pair.air.fold) (OddFold Atmos) fault _ tt (λ f1 e1.
    choice_is_rule (is_odd_fold pair.ocean.x pair.ocean.fold) (OddFold Ocean) f1 _ tt none_is_rule e1) e

then_is_rule : (first others : Option BoxesError) → ((fault : BoxesError) → first ≡ Some fault → IsRule fault) → ((fault : BoxesError) → others ≡ Some fault → IsRule fault)
    → (fault : BoxesError) → (first then others) ≡ Some fault → IsRule fault
then_is_rule (Some found) others one other fault e = one fault e
then_is_rule None others one other fault e = other fault e

broken_is_rule : (pair : BoxPair) (fault : BoxesError) → boxes_fault pair ≡ Some fault → IsRule fault
broken_is_rule pair = then_is_rule (order_fault pair) (fold_fault pair) (order_is_rule pair) (fold_is_rule pair)

-- TEXTS

-- the text of boxes within the limits tells them
spelled : (pair : BoxPair) → IsWithinLimits pair → lines_in (boxes_text pair) ≡ Ok pair
spelled pair within = text_makes box_format next.Head no_boxes (box_lines pair) next.Nothing pair (box_leads pair within) refl

-- boxes that are told are within the limits, and spelled so
record Told (bytes : List ℕ) (pair : BoxPair) : Type 0 where
  within : IsWithinLimits pair
  text : bytes ≡ boxes_text pair

told : (bytes : List ℕ) (pair : BoxPair) → lines_in bytes ≡ Ok pair → Told bytes pair
told bytes pair e =
    let made = made_is box_format next.Head no_boxes bytes pair e in
    let found = boxes_of_lines made.lines made.order in
    let same : found.pair ≡ pair = made.leads_to (box_lines found.pair) next.Nothing found.pair found.text (box_leads found.pair found.limits) in
    record {
      within = subst IsWithinLimits same found.limits;
      text = made.text ∙ ap (flat_map line_text) found.text ∙ ap boxes_text same;
    }

-- JUDGING

spelling_is_judged : (pair : BoxPair) → IsWithinLimits pair → boxes_of (boxes_text pair) ≡ judged (boxes_fault pair) pair
unfolding boxes_of
spelling_is_judged pair within = ap judged_lines (spelled pair within)

boxes_read : (pair : BoxPair) → IsBoxPair pair → boxes_of (boxes_text pair) ≡ Ok pair
boxes_read pair is = spelling_is_judged pair is.limits ∙ ap (λ (fault : Option BoxesError). judged fault pair) is.rules

judged_ok : (fault : Option BoxesError) (pair found : BoxPair) → judged fault pair ≡ Ok found → (fault ≡ None) × (pair ≡ found)
judged_ok (Some fault) pair found e = absurd cc
judged_ok None pair found e = (refl, cc)

judged_err : (broken : Option BoxesError) (pair : BoxPair) (fault : BoxesError) → judged broken pair ≡ Err fault → broken ≡ Some fault
judged_err (Some broken) pair fault e = cc
judged_err None pair fault e = absurd cc

found_are : (bytes : List ℕ) (read : Result BoxPair LinesError) → lines_in bytes ≡ read → (pair : BoxPair) → judged_lines read ≡ Ok pair → IsBoxPair pair × (bytes ≡ boxes_text pair)
found_are bytes (Err fault) is pair e = absurd cc
found_are bytes (Ok made) is pair e =
    let t = told bytes made is in
    let kept = judged_ok (boxes_fault made) made pair e in
    subst (λ (p : BoxPair). IsBoxPair p × (bytes ≡ boxes_text p)) kept.1 (record { limits = t.within; rules = kept.0 }, t.text)

reads_boxes : (bytes : List ℕ) (pair : BoxPair) → boxes_of bytes ≡ Ok pair → IsBoxPair pair × (bytes ≡ boxes_text pair)
unfolding boxes_of
reads_boxes bytes pair e = found_are bytes (lines_in bytes) refl pair e

-- A FAULT IS THE FIRST

rule_is_first : (bytes : List ℕ) (fault : BoxesError) → IsRule fault → IsRuleFault bytes fault → IsReadingFault bytes fault
rule_is_first bytes (Order line) rule is = is
rule_is_first bytes (OddFold component) rule is = is
rule_is_first bytes (Syntax number) rule is = absurd rule
rule_is_first bytes (Limit number) rule is = absurd rule
rule_is_first bytes NoWet rule is = absurd rule
rule_is_first bytes (TooMany count) rule is = absurd rule
rule_is_first bytes Memory rule is = absurd rule

lines_fault : (read : Result (List Line) LinesError) (fault : LinesError) → made_with box_format next.Head no_boxes read ≡ Err fault → read ≡ Err fault
lines_fault (Ok lines) fault e = absurd cc
lines_fault (Err other) fault e = cc

line_is_first : (bytes : List ℕ) (fault : LinesError) → IsFirst box_format next.Head bytes fault → IsReadingFault bytes (of_lines fault)
line_is_first bytes (lines.Syntax number) is = is
line_is_first bytes (lines.Limit number) is = is
line_is_first bytes lines.Memory is = tt

fault_from : (bytes : List ℕ) (read : Result BoxPair LinesError) → lines_in bytes ≡ read → (fault : BoxesError) → judged_lines read ≡ Err fault → IsReadingFault bytes fault
fault_from bytes (Ok pair) is fault e =
    let broken = judged_err (boxes_fault pair) pair fault e in
    let t = told bytes pair is in
    rule_is_first bytes fault (broken_is_rule pair fault broken) (record { pair = pair; limits = t.within; text = t.text; broken = broken })
fault_from bytes (Err lines) is fault e =
    let same : of_lines lines ≡ fault = cc in
    let first = fault_is_first box_format next.Head bytes lines (lines_fault (lines_of box_format next.Head bytes) lines is) in
    subst (IsReadingFault bytes) same (line_is_first bytes lines first)

fault_is_told : (bytes : List ℕ) (fault : BoxesError) → boxes_of bytes ≡ Err fault → IsReadingFault bytes fault
unfolding boxes_of
fault_is_told bytes fault e = fault_from bytes (lines_in bytes) refl fault e

broken_lines : (bytes : List ℕ) (fault : LinesError) → lines_of box_format next.Head bytes ≡ Err fault → boxes_of bytes ≡ Err (of_lines fault)
unfolding boxes_of
broken_lines bytes fault e = ap (λ (read : Result (List Line) LinesError). judged_lines (made_with box_format next.Head no_boxes read)) e

broken_rule_is_told : (bytes : List ℕ) (fault : BoxesError) → IsRuleFault bytes fault → boxes_of bytes ≡ Err fault
broken_rule_is_told bytes fault is =
    ap boxes_of is.text ∙ spelling_is_judged is.pair is.limits ∙ ap (λ (broken : Option BoxesError). judged broken is.pair) is.broken

first_is_told : (bytes : List ℕ) (fault : BoxesError) → fault ≢ Memory → IsReadingFault bytes fault → boxes_of bytes ≡ Err fault
first_is_told bytes Memory other is = absurd (other refl)
first_is_told bytes (Syntax number) other is = broken_lines bytes (lines.Syntax number) (syntax_is_first box_format next.Head bytes number is)
first_is_told bytes (Limit number) other is = broken_lines bytes (lines.Limit number) (limit_is_first box_format next.Head bytes number is)
first_is_told bytes fault other is = broken_rule_is_told bytes fault is

-- WHAT A READER RETURNED

module _ (bytes : List ℕ) (returned : Result BoxPair BoxesError) (reads : Returns is_memory returned (boxes_of bytes)) where
  are_boxes : (r : Result BoxPair BoxesError) → Returns is_memory r (boxes_of bytes) → IfOk r IsBoxPair
  are_boxes (Ok pair) reads = (reads_boxes bytes pair reads).0
  are_boxes (Err fault) reads = tt

  are_spelled : (r : Result BoxPair BoxesError) → Returns is_memory r (boxes_of bytes) → IfOk r (λ pair. bytes ≡ boxes_text pair)
  are_spelled (Ok pair) reads = (reads_boxes bytes pair reads).1
  are_spelled (Err fault) reads = tt

  is_first : (r : Result BoxPair BoxesError) → Returns is_memory r (boxes_of bytes) → IfErr r (IsReadingFault bytes)
  is_first (Ok pair) reads = tt
  is_first (Err Memory) reads = tt
  is_first (Err fault) reads = fault_is_told bytes fault reads

  pub returned_are_boxes : IfOk returned IsBoxPair
  returned_are_boxes = are_boxes returned reads

  pub returned_are_spelled : IfOk returned (λ pair. bytes ≡ boxes_text pair)
  returned_are_spelled = are_spelled returned reads

  pub spelled_are_returned : (pair : BoxPair) → IsBoxPair pair → bytes ≡ boxes_text pair → Returns is_memory returned (Ok pair)
  spelled_are_returned pair is text = subst (Returns is_memory returned) (ap boxes_of text ∙ boxes_read pair is) reads

  pub fault_is_first_of : IfErr returned (IsReadingFault bytes)
  fault_is_first_of = is_first returned reads

  pub first_is_returned : (fault : BoxesError) → fault ≢ Memory → IsReadingFault bytes fault → Returns is_memory returned (Err fault)
  first_is_returned fault other is = subst (Returns is_memory returned) (first_is_told bytes fault other is) reads

-- WHAT THE CODE TAKES

-- the fault of the lines is that of the boxes
pub lines_fail : (bytes : List ℕ) (fault : LinesError) → Fails is_out_of_memory fault (lines_in bytes) → Fails is_memory (of_lines fault) (boxes_of bytes)
unfolding boxes_of
lines_fail bytes (lines.Syntax number) e = ap judged_lines e
lines_fail bytes (lines.Limit number) e = ap judged_lines e
lines_fail bytes lines.Memory e = tt

-- what the rules say of the boxes that were read is the answer
pub pair_judged : (bytes : List ℕ) (pair : BoxPair) → lines_in bytes ≡ Ok pair → boxes_of bytes ≡ judged (boxes_fault pair) pair
unfolding boxes_of
pair_judged bytes pair e = ap judged_lines e

-- a fault that is the answer's is the answer's, also where it is free
fails_so : (fault : BoxesError) (answer : Result BoxPair BoxesError) → answer ≡ Err fault → Fails is_memory fault answer
fails_so Memory answer e = tt
fails_so (Syntax number) answer e = e
fails_so (Limit number) answer e = e
fails_so (Order line) answer e = e
fails_so (OddFold component) answer e = e
fails_so NoWet answer e = e
fails_so (TooMany count) answer e = e

-- a rule that was broken is the fault
pub broken_fails : (bytes : List ℕ) (pair : BoxPair) (fault : BoxesError) → lines_in bytes ≡ Ok pair → boxes_fault pair ≡ Some fault → Fails is_memory fault (boxes_of bytes)
broken_fails bytes pair fault e broken =
    fails_so fault (boxes_of bytes) (pair_judged bytes pair e ∙ ap (λ (b : Option BoxesError). judged b pair) broken)
