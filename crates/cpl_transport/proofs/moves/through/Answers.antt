use Rattle.std.proofs.Common.{◌≡◌, ◌∙◌, refl, sym, ap, subst, arith, pos, ◌≤ℤ◌, ℤ}
use Rattle.std.specs.Prelude.{negsuc, ◌<ℤ◌}
use Rattle.std.proofs.lemmas.Int.{ints}
use Rattle.cpl_ice.specs.declared.parts.Salty.{Salty}
use Rattle.cpl_transport.specs.Heights.{IsFaceNumber}
use Rattle.cpl_transport.specs.Moves.{given, through}
use Rattle.cpl_transport.specs.Salts.{AreOutflows, AreSmall, turned}
use Rattle.cpl_transport.proofs.Bounds.{read}
use Rattle.cpl_transport.proofs.Leaving.{eighths_small, enter, leave, other_way, outflows_small}
use Rattle.cpl_transport.proofs.moves.through.Goals as goal

outward : (u : ℤ) (behind here there beyond : Salty) → pos 0 ≤ℤ u → given u behind here there ≡ through u behind here there beyond
outward (pos u) behind here there beyond h = refl
outward (negsuc u) behind here there beyond h = absurd (omega (arith, ints))

inward : (u : ℤ) (behind here there beyond : Salty) → u <ℤ pos 0 → turned (given u beyond there here) ≡ through u behind here there beyond
inward (pos u) behind here there beyond h = absurd (omega (arith, ints))
inward (negsuc u) behind here there beyond h = refl

pub returns-then-u-ge0-clause-value : goal.returns-then-u-ge0-clause-value
returns-then-u-ge0-clause-value c =
    let u : read c.args.u ≡ c.args.u = omega (arith, ints) in
    c.given.ensures.value
    ∙ ap (λ (v : ℤ). given v c.args.behind c.args.here c.args.there) u
    ∙ outward c.args.u c.args.behind c.args.here c.args.there c.args.beyond (omega (arith, ints))

pub returns-then-u-ge0-clause-outflow : goal.returns-then-u-ge0-clause-outflow
returns-then-u-ge0-clause-outflow c = leave c.args.here c.args.there c.given.result c.requires.there c.given.ensures.eighths

pub turned-requires : goal.turned-requires
turned-requires c = eighths_small c.args.there c.given-else-u-ge0.result c.requires.there c.given-else-u-ge0.ensures.eighths

pub returns-else-u-ge0-clause-value : goal.returns-else-u-ge0-clause-value
returns-else-u-ge0-clause-value c =
    let u : read c.args.u ≡ c.args.u = omega (arith, ints) in
    c.turned.ensures
    ∙ ap turned (c.given-else-u-ge0.ensures.value ∙ ap (λ (v : ℤ). given v c.args.beyond c.args.there c.args.here) u)
    ∙ inward c.args.u c.args.behind c.args.here c.args.there c.args.beyond (omega (arith, ints))

pub returns-else-u-ge0-clause-outflow : goal.returns-else-u-ge0-clause-outflow
returns-else-u-ge0-clause-outflow c =
    subst (AreOutflows c.args.here c.args.there) (sym c.turned.ensures)
    (enter c.args.here c.args.there c.given-else-u-ge0.result c.requires.here c.given-else-u-ge0.ensures.eighths)

pub returns-then-u-ge0-clause-small : goal.returns-then-u-ge0-clause-small
returns-then-u-ge0-clause-small c = eighths_small c.args.here c.given.result c.requires.here c.given.ensures.eighths

pub returns-else-u-ge0-clause-small : goal.returns-else-u-ge0-clause-small
returns-else-u-ge0-clause-small c =
    let is = enter c.args.here c.args.there c.given-else-u-ge0.result c.requires.here c.given-else-u-ge0.ensures.eighths in
    subst AreSmall (sym c.turned.ensures) (outflows_small c.args.here c.args.there (turned c.given-else-u-ge0.result) c.requires.here c.requires.there is)

pub returns-then-u-ge0-clause-face : goal.returns-then-u-ge0-clause-face
returns-then-u-ge0-clause-face c = c.given.ensures.face

pub returns-else-u-ge0-clause-face : goal.returns-else-u-ge0-clause-face
returns-else-u-ge0-clause-face c =
    subst IsFaceNumber (sym (ap (λ (it : Salty). it.water) c.turned.ensures)) (other_way c.given-else-u-ge0.result.water c.given-else-u-ge0.ensures.face)
