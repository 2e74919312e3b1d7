use Rattle.std.specs.Prelude.{pos}
use Rattle.std.proofs.Common.{[], ◌∷◌}
use Rattle.cpl_whole.proofs.Holds.{fit_each}
use Rattle.cpl_whole.proofs.Words.{amount_word, row_word}
use Rattle.cpl_whole.proofs.exchanges.flying_in.Goals as goal

pub narrow-requires : goal.narrow-requires
narrow-requires c = amount_word c.args.holdings.now.heat.to_ice (fit_each c.args.holdings.now.heat c.requires.heat).to_ice

pub narrow-requires-2 : goal.narrow-requires-2
narrow-requires-2 c = amount_word c.args.holdings.now.water.to_ice (fit_each c.args.holdings.now.water c.requires.water).to_ice

pub narrow-requires-3 : goal.narrow-requires-3
narrow-requires-3 c = amount_word c.args.holdings.now.salt.to_ice (fit_each c.args.holdings.now.salt c.requires.salt).to_ice

pub narrow-requires-4 : goal.narrow-requires-4
narrow-requires-4 c = amount_word c.args.holdings.now.heat.to_ocean (fit_each c.args.holdings.now.heat c.requires.heat).to_ocean

pub narrow-requires-5 : goal.narrow-requires-5
narrow-requires-5 c = amount_word c.args.holdings.now.water.to_ocean (fit_each c.args.holdings.now.water c.requires.water).to_ocean

pub narrow-requires-6 : goal.narrow-requires-6
narrow-requires-6 c = amount_word c.args.holdings.now.salt.to_ocean (fit_each c.args.holdings.now.salt c.requires.salt).to_ocean

pub returns : goal.returns
returns c =
    let of = c.args.holdings.now in
    let a = row_word of.heat.to_ice c.narrow.result (fit_each of.heat c.requires.heat).to_ice c.narrow.ensures in
    let b = row_word of.water.to_ice c.narrow-2.result (fit_each of.water c.requires.water).to_ice c.narrow-2.ensures in
    let d = row_word of.salt.to_ice c.narrow-3.result (fit_each of.salt c.requires.salt).to_ice c.narrow-3.ensures in
    let e = row_word of.heat.to_ocean c.narrow-4.result (fit_each of.heat c.requires.heat).to_ocean c.narrow-4.ensures in
    let f = row_word of.water.to_ocean c.narrow-5.result (fit_each of.water c.requires.water).to_ocean c.narrow-5.ensures in
    let g = row_word of.salt.to_ocean c.narrow-6.result (fit_each of.salt c.requires.salt).to_ocean c.narrow-6.ensures in
    λ i. pos 0 ∷ pos 0 ∷ pos 0 ∷ pos 0 ∷ pos 0 ∷ pos 0 ∷ pos 0 ∷ pos 0 ∷ pos 0 ∷ a i ∷ b i ∷ d i ∷ e i ∷ f i ∷ g i ∷ []
