use Rattle.std.proofs.Common.{◌≡◌, List, ℕ, ℤ, ◌++◌, [], OnOk, ap, sym, subst, ◌∙◌}
use Rattle.std.proofs.lemmas.List.{append-nil}
use Rattle.cpl_restart.specs.RestartBytes.{summed_bytes}
use Rattle.cpl_restart.proofs.Steps.{one_before}
use Rattle.cpl_restart.proofs.restart.write_sections.Goals as goal

pub returns : goal.returns
returns c =
    let text : List ℤ → List ℕ = λ xs. summed_bytes c.args.version xs in
    let whole = c.args.whole.now in
    let t14 : List ℕ = text whole.to_ocean ++ [] in
    let t13 : List ℕ = text whole.to_ice ++ t14 in
    let t12 : List ℕ = text whole.faces ++ t13 in
    let t11 : List ℕ = text whole.salt ++ t12 in
    let t10 : List ℕ = text whole.heat ++ t11 in
    let t9 : List ℕ = text whole.water ++ t10 in
    let t8 : List ℕ = text whole.ice_heat ++ t9 in
    let t7 : List ℕ = text whole.ice ++ t8 in
    let t6 : List ℕ = text whole.parts ++ t7 in
    let t5 : List ℕ = text whole.land_water ++ t6 in
    let t4 : List ℕ = text whole.land_heat ++ t5 in
    let t3 : List ℕ = text whole.air_sun ++ t4 in
    let t2 : List ℕ = text whole.air_vapour ++ t3 in
    let all : c.write_summed-13.new.out.items ++ text whole.to_ocean ≡ c.args.out.now.items ++ (text whole.air_heat ++ t2) =
    ap (λ (t : List ℕ). c.write_summed-13.new.out.items ++ t) (sym (append-nil (text whole.to_ocean)))
    ∙ one_before c.write_summed-12.new.out.items c.write_summed-13.new.out.items (text whole.to_ice) t14 c.in_ok-write_summed-13.ensures
    ∙ one_before c.write_summed-11.new.out.items c.write_summed-12.new.out.items (text whole.faces) t13 c.in_ok-write_summed-12.ensures
    ∙ one_before c.write_summed-10.new.out.items c.write_summed-11.new.out.items (text whole.salt) t12 c.in_ok-write_summed-11.ensures
    ∙ one_before c.write_summed-9.new.out.items c.write_summed-10.new.out.items (text whole.heat) t11 c.in_ok-write_summed-10.ensures
    ∙ one_before c.write_summed-8.new.out.items c.write_summed-9.new.out.items (text whole.water) t10 c.in_ok-write_summed-9.ensures
    ∙ one_before c.write_summed-7.new.out.items c.write_summed-8.new.out.items (text whole.ice_heat) t9 c.in_ok-write_summed-8.ensures
    ∙ one_before c.write_summed-6.new.out.items c.write_summed-7.new.out.items (text whole.ice) t8 c.in_ok-write_summed-7.ensures
    ∙ one_before c.write_summed-5.new.out.items c.write_summed-6.new.out.items (text whole.parts) t7 c.in_ok-write_summed-6.ensures
    ∙ one_before c.write_summed-4.new.out.items c.write_summed-5.new.out.items (text whole.land_water) t6 c.in_ok-write_summed-5.ensures
    ∙ one_before c.write_summed-3.new.out.items c.write_summed-4.new.out.items (text whole.land_heat) t5 c.in_ok-write_summed-4.ensures
    ∙ one_before c.write_summed-2.new.out.items c.write_summed-3.new.out.items (text whole.air_sun) t4 c.in_ok-write_summed-3.ensures
    ∙ one_before c.write_summed.new.out.items c.write_summed-2.new.out.items (text whole.air_vapour) t3 c.in_ok-write_summed-2.ensures
    ∙ one_before c.args.out.now.items c.write_summed.new.out.items (text whole.air_heat) t2 c.in_ok-write_summed.ensures in
    subst (λ (t : List ℕ). OnOk c.write_summed-14.result (c.write_summed-14.new.out.items ≡ t)) all c.write_summed-14.ensures
