use Rattle.std.proofs.Common.{◌≡◌, ◌∙◌, sym, ap, ◌*◌, List, ℕ, [], ◌∷◌, ◌++◌, codes, decimal, append_assoc}
use Rattle.std.specs.List.{flat_map}
use Rattle.cpl_make.specs.Texts.{ended, names_text}
use Rattle.cpl_make.proofs.names.names_text.Goals as goal

-- the four parts of the text about its digits
abbrev first : List ℕ
first = flat_map ended (codes "&coupler_nml" ∷ codes " current_date = 2001,1,1,0,0,0" ∷ [])

abbrev second : List ℕ
second = ended (codes " calendar = 'gregorian'") ++ codes " seconds = "

abbrev third : List ℕ
third = 10 ∷ flat_map ended (codes " dt_atmos = 1800" ∷ codes " dt_cpld = 3600" ∷ codes "/" ∷ [])

abbrev fourth : List ℕ
fourth = flat_map ended (codes "&ocean_nml" ∷ codes " dt_ocean = 1800" ∷ codes "/" ∷ [])

-- what follows the line of the digits
abbrev rest : List ℕ
rest = flat_map ended (codes " dt_atmos = 1800" ∷ codes " dt_cpld = 3600" ∷ codes "/" ∷ codes "&ocean_nml" ∷ codes " dt_ocean = 1800" ∷ codes "/" ∷ [])

written : (steps : ℕ) → (((first ++ second) ++ decimal (3600 * steps)) ++ third) ++ fourth ≡ names_text steps
unfolding names_text
written steps =
    let digits = decimal (3600 * steps) in
    ap (λ (l : List ℕ). first ++ (second ++ l)) (append_assoc digits third fourth ∙ sym (append_assoc digits (10 ∷ []) rest))

pub returns : goal.returns
returns c =
    let e0 : c.new-text.result.items ≡ [] = c.new-text.ensures.items in
    let e1 : c.extend_from_slice.new.self.items ≡ c.new-text.result.items ++ first = c.in_ok-extend_from_slice.ensures.items in
    let e2 : c.extend_from_slice-2.new.self.items ≡ c.extend_from_slice.new.self.items ++ second = c.in_ok-extend_from_slice-2.ensures.items in
    let e3 : c.extend_from_slice-3.new.self.items ≡ c.extend_from_slice-2.new.self.items ++ c.as_bytes.result.now = c.in_ok-extend_from_slice-3.ensures.items in
    let e4 : c.extend_from_slice-4.new.self.items ≡ c.extend_from_slice-3.new.self.items ++ third = c.in_ok-extend_from_slice-4.ensures.items in
    let e5 : c.extend_from_slice-5.new.self.items ≡ c.extend_from_slice-4.new.self.items ++ fourth = c.in_ok-extend_from_slice-5.ensures.items in
    let digits = c.as_bytes.ensures.value ∙ c.format.ensures.text in
    let a = e1 ∙ ap (λ (l : List ℕ). l ++ first) e0 in
    let b = e2 ∙ ap (λ (l : List ℕ). l ++ second) a in
    let d = e3 ∙ (λ i. b i ++ digits i) in
    let e = e4 ∙ ap (λ (l : List ℕ). l ++ third) d in
    e5 ∙ ap (λ (l : List ℕ). l ++ fourth) e ∙ written c.args.steps
