use Rattle.std.proofs.Common.{◌≡◌, ◌∙◌, sym, ap, subst, arith, ◌^◌, pos, negsuc, ◌-ℤ◌, ◌≤ℤ◌, ℤ, to_z, of_z, w64}
use Rattle.std.proofs.lemmas.Int.{ints}
use Rattle.cpl_fixed.specs.Amounts.{IsAmount}
use Rattle.cpl_fixed.specs.Division.{trunc}
use Rattle.cpl_transport.specs.Moves.{minmod}
use Rattle.cpl_transport.specs.Salts.{IsSmall}
use Rattle.cpl_transport.proofs.moves.correction.Goals as goal

-- the difference of two amounts is read as it is
read : (x y : ℤ) → IsAmount x → IsAmount y → to_z w64 (of_z w64 (to_z w64 (of_z w64 x) -ℤ to_z w64 (of_z w64 y))) ≡ x -ℤ y
read x y h k = omega (arith, ints, h.0, h.1, k.0, k.1)

-- the lesser slope is within the first
within : (a b : ℤ) → (pos 0 -ℤ pos (2 ^ 62)) ≤ℤ a → a ≤ℤ pos (2 ^ 62) → ((pos 0 -ℤ pos (2 ^ 62)) ≤ℤ minmod a b) × (minmod a b ≤ℤ pos (2 ^ 62))
within (pos a) (pos b) h k = (omega (arith, ints), omega (arith, ints))
within (negsuc a) (negsuc b) h k = (omega (arith, ints), omega (arith, ints))
within (pos a) (negsuc b) h k = (omega (arith, ints), omega (arith, ints))
within (negsuc a) (pos b) h k = (omega (arith, ints), omega (arith, ints))

sixteenth : (m m' : ℤ) → m ≡ m' → ((pos 0 -ℤ pos (2 ^ 62)) ≤ℤ m') × (m' ≤ℤ pos (2 ^ 62))
    → (to_z w64 (of_z w64 (trunc (to_z w64 (of_z w64 m)) (pos 16))) ≡ trunc m' (pos 16)) × IsSmall (trunc m' (pos 16))
sixteenth m m' e h =
    let own : to_z w64 (of_z w64 (trunc (to_z w64 (of_z w64 m')) (pos 16))) ≡ trunc m' (pos 16) = omega (arith, ints, h.0, h.1) in
    (ap (λ (t : ℤ). to_z w64 (of_z w64 (trunc (to_z w64 (of_z w64 t)) (pos 16)))) e ∙ own, (omega (arith, ints, h.0, h.1), omega (arith, ints, h.0, h.1)))

slopes : (m behind here ahead : ℤ) → IsAmount behind → IsAmount here → IsAmount ahead
    → m ≡ minmod (to_z w64 (of_z w64 (to_z w64 (of_z w64 here) -ℤ to_z w64 (of_z w64 behind)))) (to_z w64 (of_z w64 (to_z w64 (of_z w64 ahead) -ℤ to_z w64 (of_z w64 here))))
    → (to_z w64 (of_z w64 (trunc (to_z w64 (of_z w64 m)) (pos 16))) ≡ trunc (minmod (here -ℤ behind) (ahead -ℤ here)) (pos 16)) × IsSmall (trunc (minmod (here -ℤ behind) (ahead -ℤ here)) (pos 16))
slopes m behind here ahead h k l e =
    sixteenth m _ (e ∙ (λ i. minmod (read here behind k h i) (read ahead here l k i)))
    (within (here -ℤ behind) (ahead -ℤ here) (omega (arith, ints, h.0, h.1, k.0, k.1)) (omega (arith, ints, h.0, h.1, k.0, k.1)))

pub returns-clause-value : goal.returns-clause-value
returns-clause-value c = (slopes c.minmod.result c.args.behind c.args.here c.args.ahead c.requires.behind c.requires.here c.requires.ahead c.minmod.ensures).0

pub returns-clause-small : goal.returns-clause-small
returns-clause-small c =
    let is = slopes c.minmod.result c.args.behind c.args.here c.args.ahead c.requires.behind c.requires.here c.requires.ahead c.minmod.ensures in
    subst IsSmall (sym is.0) is.1
