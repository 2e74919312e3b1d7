-- Each purpose is posted by its component, and taken by the one that it leads to, once for each use.
use Rattle.std.proofs.Common.{◌≡◌, refl, subst, ℕ, ◌+◌, Bool, true, false}
use Rattle.std.specs.Option.{unwrap_or}
use Rattle.std.specs.List.{count_by}
use Rattle.cpl_fixed.specs.declared.words.Component.{Component}
use Rattle.cpl_fixed.specs.declared.words.Component.TheVariants.{Atmos, Land, Ice, Ocean}
use Rattle.cpl_namelist.specs.declared.names.Names.{Names}
use Rattle.cpl_wires.specs.declared.parts.Purpose.{Purpose}
use Rattle.cpl_wires.specs.declared.parts.Purpose.TheVariants.{AirHalo, LandToAir, IceToAir, AirToLand, AirToIce, LandToIce, IceToOcean, OceanToIce, OceanHalo, Sums}
use Rattle.cpl_wires.specs.declared.parts.Move.{Move}
use Rattle.cpl_wires.specs.declared.parts.Move.TheVariants.{Posts, Takes, Does}
use Rattle.cpl_wires.specs.Purposes.{is_same_purpose, giver, receiver, uses_for}
use Rattle.cpl_wires.specs.Turns.{opening, closing, summing, turns_for}
use Rattle.cpl_wires.specs.Stops.{post_use, take_use}
use Rattle.cpl_wires.proofs.Turned.{CountedTurns, in_fast, in_ocean, in_closing, in_closing_but_last, in_opening_but_first, in_summing}

-- whether a move posts this purpose, or takes it
abbrev pub posting : Purpose → Move → Bool
posting purpose (Posts other) = is_same_purpose purpose other
posting purpose (Takes other) = false
posting purpose (Does job) = false

abbrev pub taking : Purpose → Move → Bool
taking purpose (Posts other) = false
taking purpose (Takes other) = is_same_purpose purpose other
taking purpose (Does job) = false

-- what holds of true and of false holds of both
both : (f : Bool → ℕ) (n : ℕ) → f true ≡ n → f false ≡ n → (b : Bool) → f b ≡ n
both f n at_true at_false true = at_true
both f n at_true at_false false = at_false

opens : (p : Move → Bool) (c : Component) (n : ℕ) → count_by p (opening c true) ≡ n → count_by p (opening c false) ≡ n → (b : Bool) → count_by p (opening c b) ≡ n
opens p c n at_true at_false b = both (λ b. count_by p (opening c b)) n at_true at_false b

closes : (p : Move → Bool) (c : Component) (n : ℕ) → count_by p (closing c true) ≡ n → count_by p (closing c false) ≡ n → (b : Bool) → count_by p (closing c b) ≡ n
closes p c n at_true at_false b = both (λ b. count_by p (closing c b)) n at_true at_false b

sums : (p : Move → Bool) (n : ℕ) → count_by p (summing true) ≡ n → count_by p (summing false) ≡ n → (first : Bool) → count_by p (summing first) ≡ n
sums p n at_true at_false first = both (λ b. count_by p (summing b)) n at_true at_false first

-- all components post the sums alike
sums_posted : (names : Names) (c : Component) (first : Bool) → CountedTurns (posting Sums) (λ n i. n) 0 (names.steps + 1) (turns_for names c first)
sums_posted names Atmos first = in_summing (posting Sums) names Atmos first (opens (posting Sums) Atmos 0 refl refl) refl refl (closes (posting Sums) Atmos 0 refl refl) (sums (posting Sums) 1 refl refl first)
sums_posted names Land first = in_summing (posting Sums) names Land first (opens (posting Sums) Land 0 refl refl) refl refl (closes (posting Sums) Land 0 refl refl) (sums (posting Sums) 1 refl refl first)
sums_posted names Ice first = in_summing (posting Sums) names Ice first (opens (posting Sums) Ice 0 refl refl) refl refl (closes (posting Sums) Ice 0 refl refl) (sums (posting Sums) 1 refl refl first)
sums_posted names Ocean first = in_summing (posting Sums) names Ocean first (opens (posting Sums) Ocean 0 refl refl) refl refl (closes (posting Sums) Ocean 0 refl refl) (sums (posting Sums) 1 refl refl first)

sums_taken : (names : Names) (c : Component) → CountedTurns (taking Sums) (λ n i. n) 0 (names.steps + 1) (turns_for names c true)
sums_taken names Atmos = in_summing (taking Sums) names Atmos true (opens (taking Sums) Atmos 0 refl refl) refl refl (closes (taking Sums) Atmos 0 refl refl) refl
sums_taken names Land = in_summing (taking Sums) names Land true (opens (taking Sums) Land 0 refl refl) refl refl (closes (taking Sums) Land 0 refl refl) refl
sums_taken names Ice = in_summing (taking Sums) names Ice true (opens (taking Sums) Ice 0 refl refl) refl refl (closes (taking Sums) Ice 0 refl refl) refl
sums_taken names Ocean = in_summing (taking Sums) names Ocean true (opens (taking Sums) Ocean 0 refl refl) refl refl (closes (taking Sums) Ocean 0 refl refl) refl

-- each post has its use
pub posts_counted : (names : Names) (purpose : Purpose) (c : Component) (first : Bool)
    → CountedTurns (posting purpose) (post_use names purpose) 0 (uses_for names purpose) (turns_for names (unwrap_or (giver purpose) c) first)
unfolding uses_for
posts_counted names AirHalo c first = in_fast (posting AirHalo) names Atmos first (opens (posting AirHalo) Atmos 0 refl refl) refl refl (closes (posting AirHalo) Atmos 0 refl refl) (sums (posting AirHalo) 0 refl refl first)
posts_counted names LandToAir c first = in_fast (posting LandToAir) names Land first (opens (posting LandToAir) Land 0 refl refl) refl refl (closes (posting LandToAir) Land 0 refl refl) (sums (posting LandToAir) 0 refl refl first)
posts_counted names IceToAir c first = in_fast (posting IceToAir) names Ice first (opens (posting IceToAir) Ice 0 refl refl) refl refl (closes (posting IceToAir) Ice 0 refl refl) (sums (posting IceToAir) 0 refl refl first)
posts_counted names AirToLand c first = in_fast (posting AirToLand) names Atmos first (opens (posting AirToLand) Atmos 0 refl refl) refl refl (closes (posting AirToLand) Atmos 0 refl refl) (sums (posting AirToLand) 0 refl refl first)
posts_counted names AirToIce c first = in_fast (posting AirToIce) names Atmos first (opens (posting AirToIce) Atmos 0 refl refl) refl refl (closes (posting AirToIce) Atmos 0 refl refl) (sums (posting AirToIce) 0 refl refl first)
posts_counted names LandToIce c first = in_closing (posting LandToIce) names Land first (opens (posting LandToIce) Land 0 refl refl) refl refl (closes (posting LandToIce) Land 1 refl refl) (sums (posting LandToIce) 0 refl refl first)
posts_counted names IceToOcean c first = in_closing_but_last (posting IceToOcean) names Ice first (opens (posting IceToOcean) Ice 0 refl refl) refl refl refl refl (sums (posting IceToOcean) 0 refl refl first)
posts_counted names OceanToIce c first = in_closing_but_last (posting OceanToIce) names Ocean first (opens (posting OceanToIce) Ocean 0 refl refl) refl refl refl refl (sums (posting OceanToIce) 0 refl refl first)
posts_counted names OceanHalo c first = in_ocean (posting OceanHalo) names Ocean first (opens (posting OceanHalo) Ocean 0 refl refl) refl refl (closes (posting OceanHalo) Ocean 0 refl refl) (sums (posting OceanHalo) 0 refl refl first)
posts_counted names Sums c first = sums_posted names c first

-- each take has its use; piece 0 alone takes the sums
pub takes_counted : (names : Names) (purpose : Purpose) (c : Component) (first : Bool) → (is_same_purpose purpose Sums ≡ true → true ≡ first)
    → CountedTurns (taking purpose) (take_use names purpose) 0 (uses_for names purpose) (turns_for names (unwrap_or (receiver purpose) c) first)
unfolding uses_for
takes_counted names AirHalo c first h = in_fast (taking AirHalo) names Atmos first (opens (taking AirHalo) Atmos 0 refl refl) refl refl (closes (taking AirHalo) Atmos 0 refl refl) (sums (taking AirHalo) 0 refl refl first)
takes_counted names LandToAir c first h = in_fast (taking LandToAir) names Atmos first (opens (taking LandToAir) Atmos 0 refl refl) refl refl (closes (taking LandToAir) Atmos 0 refl refl) (sums (taking LandToAir) 0 refl refl first)
takes_counted names IceToAir c first h = in_fast (taking IceToAir) names Atmos first (opens (taking IceToAir) Atmos 0 refl refl) refl refl (closes (taking IceToAir) Atmos 0 refl refl) (sums (taking IceToAir) 0 refl refl first)
takes_counted names AirToLand c first h = in_fast (taking AirToLand) names Land first (opens (taking AirToLand) Land 0 refl refl) refl refl (closes (taking AirToLand) Land 0 refl refl) (sums (taking AirToLand) 0 refl refl first)
takes_counted names AirToIce c first h = in_fast (taking AirToIce) names Ice first (opens (taking AirToIce) Ice 0 refl refl) refl refl (closes (taking AirToIce) Ice 0 refl refl) (sums (taking AirToIce) 0 refl refl first)
takes_counted names LandToIce c first h = in_closing (taking LandToIce) names Ice first (opens (taking LandToIce) Ice 0 refl refl) refl refl (closes (taking LandToIce) Ice 1 refl refl) (sums (taking LandToIce) 0 refl refl first)
takes_counted names IceToOcean c first h = in_opening_but_first (taking IceToOcean) names Ocean first refl refl refl refl (closes (taking IceToOcean) Ocean 0 refl refl) (sums (taking IceToOcean) 0 refl refl first)
takes_counted names OceanToIce c first h = in_opening_but_first (taking OceanToIce) names Ice first refl refl refl refl (closes (taking OceanToIce) Ice 0 refl refl) (sums (taking OceanToIce) 0 refl refl first)
takes_counted names OceanHalo c first h = in_ocean (taking OceanHalo) names Ocean first (opens (taking OceanHalo) Ocean 0 refl refl) refl refl (closes (taking OceanHalo) Ocean 0 refl refl) (sums (taking OceanHalo) 0 refl refl first)
takes_counted names Sums c first h = subst (λ (b : Bool). CountedTurns (taking Sums) (λ n i. n) 0 (names.steps + 1) (turns_for names c b)) (h refl) (sums_taken names c)
