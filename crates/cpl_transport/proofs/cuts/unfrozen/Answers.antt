use Rattle.std.proofs.Common.{◌≡◌, ◌∙◌, sym, subst, ap, arith, ℕ, pos, ◌*◌, ◌≤◌, ◌-ℤ◌, ◌*ℤ◌, ℤ}
use Rattle.std.proofs.lemmas.Int.{ints}
use Rattle.cpl_fixed.specs.Amounts.{IsAmount, amount}
use Rattle.cpl_ice.specs.declared.parts.Salty.{Salty}
use Rattle.cpl_transport.specs.Cuts.{frazil_of, unfrozen}
use Rattle.cpl_transport.specs.Salts.{IsSalty}
use Rattle.cpl_transport.proofs.Bounds.{own_amount, read}
use Rattle.cpl_transport.proofs.Frazil.{frazil_most, unfrozen_salty}
use Rattle.cpl_transport.proofs.cuts.unfrozen.Goals as goal

less : (x : ℤ) (n : ℕ) → IsAmount x → n ≤ amount x → read (read x -ℤ read (pos n)) ≡ x -ℤ pos n
less x n h le = omega (arith, ints, h.0, h.1, le)

-- the heat of ice, as it is read
ice_heat : (x : ℤ) (n : ℕ) → IsAmount x → 1_092 * n ≤ amount x → read (read x -ℤ read (pos 1_092 *ℤ read (pos n))) ≡ x -ℤ pos (1_092 * n)
ice_heat x n h le = omega (arith, ints, h.0, h.1, le)

is : (top : Salty) (f : ℤ) → IsSalty top → f ≡ pos (frazil_of top)
    → ◌≡◌ {A = Salty} (record { water = read (read top.water -ℤ read f); heat = read (read top.heat -ℤ read (pos 1_092 *ℤ read f)); salt = read top.salt }) (unfrozen top)
is top f h e =
    let most = frazil_most (amount top.water) (amount top.heat) in
    let water = ap (λ (t : ℤ). read (read top.water -ℤ read t)) e ∙ less top.water (frazil_of top) h.water (omega (arith, most.0)) in
    let heat = ap (λ (t : ℤ). read (read top.heat -ℤ read (pos 1_092 *ℤ read t))) e ∙ ice_heat top.heat (frazil_of top) h.heat most.1 in
    λ i. record { water = water i; heat = heat i; salt = own_amount top.salt h.salt i }

pub returns-clause-value : goal.returns-clause-value
returns-clause-value c = is c.args.top c.args.frazil_water c.requires.top c.requires.frazil

pub returns-clause-salty : goal.returns-clause-salty
returns-clause-salty c = subst IsSalty (sym (is c.args.top c.args.frazil_water c.requires.top c.requires.frazil)) (unfrozen_salty c.args.top c.requires.top)
