use Rattle.std.proofs.Common.{◌≡◌, ◌∙◌, sym, ap, subst, arith, ℕ, pos, ℤ}
use Rattle.std.proofs.lemmas.Int.{ints}
use Rattle.cpl_fixed.specs.Amounts.{IsAmount, amount}
use Rattle.cpl_ice.specs.declared.parts.Salty.{Salty}
use Rattle.cpl_transport.specs.Heights.{IsFaceNumber}
use Rattle.cpl_transport.specs.Moves.{carried, correction, moved}
use Rattle.cpl_transport.specs.Salts.{IsEighth}
use Rattle.cpl_transport.proofs.Bounds.{own_amount, own_eighth, read}
use Rattle.cpl_transport.proofs.Leaving.{moved_face}
use Rattle.cpl_transport.proofs.moves.given.Goals as goal

-- the water that was moved, as it is read again
water_is : (u water m : ℤ) → read u ≡ u → IsAmount water → m ≡ pos (moved (read u) (read water)) → IsEighth (read water) m → read m ≡ pos (moved u water)
water_is u water m same h e k =
    let own = own_amount water h in
    own_eighth water m h (subst (λ (w : ℤ). IsEighth w m) own k) ∙ e ∙ (λ i. pos (moved (same i) (own i)))

-- what goes with it
carried_is : (water m behind here ahead r : ℤ) (n : ℕ) → read m ≡ pos n → IsAmount water → IsAmount behind → IsAmount here → IsAmount ahead
    → r ≡ carried (read here) (read water) (amount (read m)) (correction (read behind) (read here) (read ahead)) → IsEighth (read here) r
    → read r ≡ carried here water n (correction behind here ahead)
carried_is water m behind here ahead r n is w b h a e k =
    let x = own_amount here h in
    own_eighth here r h (subst (λ (y : ℤ). IsEighth y r) x k) ∙ e
    ∙ (λ i. carried (x i) (own_amount water w i) (amount (is i)) (correction (own_amount behind b i) (x i) (own_amount ahead a i)))

read_eighth : (there x : ℤ) → IsAmount there → IsEighth (read there) x → IsEighth there (read x)
read_eighth there x h k =
    let is = subst (λ (y : ℤ). IsEighth y x) (own_amount there h) k in
    subst (IsEighth there) (sym (own_eighth there x h is)) is

pub returns-clause-value : goal.returns-clause-value
returns-clause-value c =
    let u : read c.args.u ≡ c.args.u = omega (arith, ints) in
    let behind = c.requires.behind in
    let here = c.requires.here in
    let ahead = c.requires.ahead in
    let m = c.moved-water.result in
    let water = water_is c.args.u c.args.here.water m u here.water c.moved-water.ensures.value c.moved-water.ensures.eighth in
    let heat = carried_is c.args.here.water m c.args.behind.heat c.args.here.heat c.args.ahead.heat c.carried.result _ water here.water behind.heat here.heat ahead.heat c.carried.ensures.value c.carried.ensures.eighth in
    let salt = carried_is c.args.here.water m c.args.behind.salt c.args.here.salt c.args.ahead.salt c.carried-2.result _ water here.water behind.salt here.salt ahead.salt c.carried-2.ensures.value c.carried-2.ensures.eighth in
    λ i. record { water = water i; heat = heat i; salt = salt i }

pub returns-clause-eighths : goal.returns-clause-eighths
returns-clause-eighths c = record {
  water = read_eighth c.args.here.water c.moved-water.result c.requires.here.water c.moved-water.ensures.eighth;
  heat = read_eighth c.args.here.heat c.carried.result c.requires.here.heat c.carried.ensures.eighth;
  salt = read_eighth c.args.here.salt c.carried-2.result c.requires.here.salt c.carried-2.ensures.eighth;
}

pub returns-clause-face : goal.returns-clause-face
returns-clause-face c =
    subst IsFaceNumber (sym (ap (λ (it : Salty). it.water) (returns-clause-value c))) (moved_face c.args.u c.args.here.water c.requires.number)
