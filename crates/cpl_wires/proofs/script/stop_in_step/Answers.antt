use Rattle.std.proofs.Common.{◌≡◌, ◌∙◌, refl, sym, ap, subst, ℕ, ◌+◌, ◌-◌, ◌*◌, eqb, arith}
use Rattle.std.specs.Prelude.{◌/◌}
use Rattle.cpl_fixed.specs.declared.words.Component.{Component}
use Rattle.cpl_namelist.specs.declared.names.Names.{Names}
use Rattle.cpl_namelist.specs.Ranges.{AreNames}
use Rattle.cpl_wires.specs.declared.parts.Lengths.{Lengths}
use Rattle.cpl_wires.specs.Settings.{Setting, IsSetting, component_of}
use Rattle.cpl_wires.specs.Turns.{opening, fast_moves, ocean_moves, closing, summing}
use Rattle.cpl_wires.specs.Lengths.{AreShort, opens_by, closes_by}
use Rattle.cpl_wires.proofs.Sized.{fasts_few, oceans_few}
use Rattle.cpl_wires.proofs.Shortened.{lengths_short}
use Rattle.cpl_wires.proofs.Reached.{acted_same, in_opens, in_fasts, in_oceans, in_closes, in_sums}
use Rattle.cpl_wires.proofs.script.stop_in_step.Goals as goal

pub overflow_mul-fasts : goal.overflow_mul-fasts
overflow_mul-fasts c =
    let edges = c.args.edges.now in
    let piece = c.args.piece in
    let lengths = c.args.lengths.now in
    let names = c.names-names.result.now in
    let same = c.names-names.ensures.names ∙ ap (λ (setting : Setting). setting.names) (c.pieces.ensures ∙ c.shared.ensures) in
    let lawful = subst IsSetting (c.pieces.ensures ∙ c.shared.ensures) c.names-names.ensures.lawful in
    let short = subst AreShort (sym c.requires.lengths) (lengths_short edges lawful piece) in
    let are = subst AreNames (sym same) lawful.names_are in
    let fasts : c.from.result * lengths.fast ≡ names.fast * lengths.fast = ap (λ (n : ℕ). n * lengths.fast) c.from.ensures in
    let few = fasts_few names lengths are short in omega arith

pub overflow_mul-oceans : goal.overflow_mul-oceans
overflow_mul-oceans c =
    let edges = c.args.edges.now in
    let piece = c.args.piece in
    let lengths = c.args.lengths.now in
    let names = c.names-names.result.now in
    let same = c.names-names.ensures.names ∙ ap (λ (setting : Setting). setting.names) (c.pieces.ensures ∙ c.shared.ensures) in
    let lawful = subst IsSetting (c.pieces.ensures ∙ c.shared.ensures) c.names-names.ensures.lawful in
    let short = subst AreShort (sym c.requires.lengths) (lengths_short edges lawful piece) in
    let are = subst AreNames (sym same) lawful.names_are in
    let oceans : c.from-2.result * lengths.ocean ≡ names.ocean_steps * lengths.ocean = ap (λ (n : ℕ). n * lengths.ocean) c.from-2.ensures in
    let few = oceans_few names lengths are short in omega arith

pub returns-then-m-begins : goal.returns-then-m-begins
returns-then-m-begins c =
    let edges = c.args.edges.now in
    let piece = c.args.piece in
    let lengths = c.args.lengths.now in
    let names = c.names-names.result.now in
    let same = c.names-names.ensures.names ∙ ap (λ (setting : Setting). setting.names) (c.pieces.ensures ∙ c.shared.ensures) in
    let component_is = ap (λ (l : Lengths). l.component) c.requires.lengths in
    let step = c.args.step in
    let begins : c.opens-begins.result ≡ opens_by lengths (eqb step 0) = c.opens-begins.ensures in
    c.stop_among.ensures
    ∙ acted_same edges piece step 0 c.args.m c.opening-opens.result.now (opening (component_of edges piece) (eqb step 0))
    (c.opening-opens.ensures.moves ∙ ap (λ (k : Component). opening k (eqb step 0)) component_is)
    ∙ sym (in_opens edges piece lengths c.requires.lengths names same step c.args.m (omega arith))

pub returns-then-m-fasts : goal.returns-then-m-fasts
returns-then-m-fasts c =
    let edges = c.args.edges.now in
    let piece = c.args.piece in
    let lengths = c.args.lengths.now in
    let names = c.names-names.result.now in
    let same = c.names-names.ensures.names ∙ ap (λ (setting : Setting). setting.names) (c.pieces.ensures ∙ c.shared.ensures) in
    let component_is = ap (λ (l : Lengths). l.component) c.requires.lengths in
    let step = c.args.step in
    let begins : c.opens-begins.result ≡ opens_by lengths (eqb step 0) = c.opens-begins.ensures in
    let fasts : c.from.result * lengths.fast ≡ names.fast * lengths.fast = ap (λ (n : ℕ). n * lengths.fast) c.from.ensures in
    let k = c.args.m - c.opens-begins.result in
    let sub = k / lengths.fast in
    c.stop_among-then-m-fasts.ensures
    ∙ acted_same edges piece step sub (k - sub * lengths.fast) c.fast_moves.result.now (fast_moves (component_of edges piece)) (c.fast_moves.ensures.moves ∙ ap fast_moves component_is)
    ∙ sym (in_fasts edges piece lengths c.requires.lengths names same step c.args.m k sub (omega arith) (omega arith) refl)

pub returns-then-m-oceans : goal.returns-then-m-oceans
returns-then-m-oceans c =
    let edges = c.args.edges.now in
    let piece = c.args.piece in
    let lengths = c.args.lengths.now in
    let names = c.names-names.result.now in
    let same = c.names-names.ensures.names ∙ ap (λ (setting : Setting). setting.names) (c.pieces.ensures ∙ c.shared.ensures) in
    let component_is = ap (λ (l : Lengths). l.component) c.requires.lengths in
    let step = c.args.step in
    let begins : c.opens-begins.result ≡ opens_by lengths (eqb step 0) = c.opens-begins.ensures in
    let fasts : c.from.result * lengths.fast ≡ names.fast * lengths.fast = ap (λ (n : ℕ). n * lengths.fast) c.from.ensures in
    let oceans : c.from-2.result * lengths.ocean ≡ names.ocean_steps * lengths.ocean = ap (λ (n : ℕ). n * lengths.ocean) c.from-2.ensures in
    let k = c.args.m - c.opens-begins.result - c.from.result * c.args.lengths.now.fast in
    let sub = k / lengths.ocean in
    c.stop_among-then-m-oceans.ensures
    ∙ acted_same edges piece step sub (k - sub * lengths.ocean) c.ocean_moves.result.now (ocean_moves (component_of edges piece)) (c.ocean_moves.ensures.moves ∙ ap ocean_moves component_is)
    ∙ sym (in_oceans edges piece lengths c.requires.lengths names same step c.args.m k sub (omega arith) (omega arith) refl)

pub returns-then-m-ends : goal.returns-then-m-ends
returns-then-m-ends c =
    let edges = c.args.edges.now in
    let piece = c.args.piece in
    let lengths = c.args.lengths.now in
    let names = c.names-names.result.now in
    let same = c.names-names.ensures.names ∙ ap (λ (setting : Setting). setting.names) (c.pieces.ensures ∙ c.shared.ensures) in
    let component_is = ap (λ (l : Lengths). l.component) c.requires.lengths in
    let step = c.args.step in
    let begins : c.opens-begins.result ≡ opens_by lengths (eqb step 0) = c.opens-begins.ensures in
    let fasts : c.from.result * lengths.fast ≡ names.fast * lengths.fast = ap (λ (n : ℕ). n * lengths.fast) c.from.ensures in
    let oceans : c.from-2.result * lengths.ocean ≡ names.ocean_steps * lengths.ocean = ap (λ (n : ℕ). n * lengths.ocean) c.from-2.ensures in
    let ends : c.closes-ends.result ≡ closes_by lengths (eqb (step + 1) names.steps) = c.closes-ends.ensures in
    let k = c.args.m - c.opens-begins.result - c.from.result * c.args.lengths.now.fast - c.from-2.result * c.args.lengths.now.ocean in
    c.stop_among-then-m-ends.ensures
    ∙ acted_same edges piece step 0 k c.closing-closes.result.now (closing (component_of edges piece) (eqb (step + 1) edges.names.steps))
    (c.closing-closes.ensures.moves ∙ ap (λ (component : Component). closing component (eqb (step + 1) names.steps)) component_is
    ∙ ap (λ (n : Names). closing (component_of edges piece) (eqb (step + 1) n.steps)) same)
    ∙ sym (in_closes edges piece lengths c.requires.lengths names same step c.args.m k (omega arith) (omega arith))

pub returns : goal.returns
returns c =
    let edges = c.args.edges.now in
    let piece = c.args.piece in
    let lengths = c.args.lengths.now in
    let names = c.names-names.result.now in
    let same = c.names-names.ensures.names ∙ ap (λ (setting : Setting). setting.names) (c.pieces.ensures ∙ c.shared.ensures) in
    let component_is = ap (λ (l : Lengths). l.component) c.requires.lengths in
    let step = c.args.step in
    let begins : c.opens-begins.result ≡ opens_by lengths (eqb step 0) = c.opens-begins.ensures in
    let fasts : c.from.result * lengths.fast ≡ names.fast * lengths.fast = ap (λ (n : ℕ). n * lengths.fast) c.from.ensures in
    let oceans : c.from-2.result * lengths.ocean ≡ names.ocean_steps * lengths.ocean = ap (λ (n : ℕ). n * lengths.ocean) c.from-2.ensures in
    let ends : c.closes-ends.result ≡ closes_by lengths (eqb (step + 1) names.steps) = c.closes-ends.ensures in
    let k = c.args.m - c.opens-begins.result - c.from.result * c.args.lengths.now.fast - c.from-2.result * c.args.lengths.now.ocean - c.closes-ends.result in
    c.stop_among-2.ensures
    ∙ acted_same edges piece (step + 1) 0 k c.summing.result.now (summing (eqb piece 0)) c.summing.ensures.moves
    ∙ sym (in_sums edges piece lengths c.requires.lengths names same step c.args.m k (omega arith))
