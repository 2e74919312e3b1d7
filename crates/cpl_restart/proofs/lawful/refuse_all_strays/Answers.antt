use Rattle.std.proofs.Common.{◌≡◌, List, ℤ, Ok, rules, ap, sym, ◌∙◌}
use Rattle.cpl_restart.specs.Lawful.{no_stray, spread}
use Rattle.cpl_state.specs.States.{categories, part_count}
use Rattle.cpl_restart.proofs.Steps.{reads_on}
use Rattle.cpl_restart.proofs.lawful.refuse_all_strays.Goals as goal

pub returns-in_err-refuse_strays-4 : goal.returns-in_err-refuse_strays-4
returns-in_err-refuse_strays-4 c =
    let h1 : no_stray (spread 4 c.args.grid.now.land 1 c.args.whole.now.land_heat) ≡ Ok tt = ap (λ (xs : List ℤ). no_stray (spread 4 c.args.grid.now.land 1 xs)) (sym c.as_slice.ensures) ∙ c.in_ok-refuse_strays.ensures in
    let h2 : no_stray (spread 5 c.args.grid.now.land 1 c.args.whole.now.land_water) ≡ Ok tt = ap (λ (xs : List ℤ). no_stray (spread 5 c.args.grid.now.land 1 xs)) (sym c.as_slice-2.ensures) ∙ c.in_ok-refuse_strays-2.ensures in
    let h3 : no_stray (spread 6 c.args.grid.now.ocean (part_count c.args.grid.now) c.args.whole.now.parts) ≡ Ok tt = ap (λ (xs : List ℤ). no_stray (spread 6 c.args.grid.now.ocean (part_count c.args.grid.now) xs)) (sym c.as_slice-3.ensures) ∙ c.in_ok-refuse_strays-3.ensures in
    reads_on _ _ _ _ _ h1 (reads_on _ _ _ _ _ h2 (reads_on _ _ _ _ _ h3 (search rules)))

pub returns-in_err-refuse_strays-5 : goal.returns-in_err-refuse_strays-5
returns-in_err-refuse_strays-5 c =
    let h1 : no_stray (spread 4 c.args.grid.now.land 1 c.args.whole.now.land_heat) ≡ Ok tt = ap (λ (xs : List ℤ). no_stray (spread 4 c.args.grid.now.land 1 xs)) (sym c.as_slice.ensures) ∙ c.in_ok-refuse_strays.ensures in
    let h2 : no_stray (spread 5 c.args.grid.now.land 1 c.args.whole.now.land_water) ≡ Ok tt = ap (λ (xs : List ℤ). no_stray (spread 5 c.args.grid.now.land 1 xs)) (sym c.as_slice-2.ensures) ∙ c.in_ok-refuse_strays-2.ensures in
    let h3 : no_stray (spread 6 c.args.grid.now.ocean (part_count c.args.grid.now) c.args.whole.now.parts) ≡ Ok tt = ap (λ (xs : List ℤ). no_stray (spread 6 c.args.grid.now.ocean (part_count c.args.grid.now) xs)) (sym c.as_slice-3.ensures) ∙ c.in_ok-refuse_strays-3.ensures in
    let h4 : no_stray (spread 7 c.args.grid.now.ocean (categories c.args.grid.now) c.args.whole.now.ice) ≡ Ok tt = ap (λ (xs : List ℤ). no_stray (spread 7 c.args.grid.now.ocean (categories c.args.grid.now) xs)) (sym c.as_slice-4.ensures) ∙ c.in_ok-refuse_strays-4.ensures in
    reads_on _ _ _ _ _ h1 (reads_on _ _ _ _ _ h2 (reads_on _ _ _ _ _ h3 (reads_on _ _ _ _ _ h4 (search rules))))

pub returns-in_err-refuse_strays-6 : goal.returns-in_err-refuse_strays-6
returns-in_err-refuse_strays-6 c =
    let h1 : no_stray (spread 4 c.args.grid.now.land 1 c.args.whole.now.land_heat) ≡ Ok tt = ap (λ (xs : List ℤ). no_stray (spread 4 c.args.grid.now.land 1 xs)) (sym c.as_slice.ensures) ∙ c.in_ok-refuse_strays.ensures in
    let h2 : no_stray (spread 5 c.args.grid.now.land 1 c.args.whole.now.land_water) ≡ Ok tt = ap (λ (xs : List ℤ). no_stray (spread 5 c.args.grid.now.land 1 xs)) (sym c.as_slice-2.ensures) ∙ c.in_ok-refuse_strays-2.ensures in
    let h3 : no_stray (spread 6 c.args.grid.now.ocean (part_count c.args.grid.now) c.args.whole.now.parts) ≡ Ok tt = ap (λ (xs : List ℤ). no_stray (spread 6 c.args.grid.now.ocean (part_count c.args.grid.now) xs)) (sym c.as_slice-3.ensures) ∙ c.in_ok-refuse_strays-3.ensures in
    let h4 : no_stray (spread 7 c.args.grid.now.ocean (categories c.args.grid.now) c.args.whole.now.ice) ≡ Ok tt = ap (λ (xs : List ℤ). no_stray (spread 7 c.args.grid.now.ocean (categories c.args.grid.now) xs)) (sym c.as_slice-4.ensures) ∙ c.in_ok-refuse_strays-4.ensures in
    let h5 : no_stray (spread 8 c.args.grid.now.ocean (categories c.args.grid.now) c.args.whole.now.ice_heat) ≡ Ok tt = ap (λ (xs : List ℤ). no_stray (spread 8 c.args.grid.now.ocean (categories c.args.grid.now) xs)) (sym c.as_slice-5.ensures) ∙ c.in_ok-refuse_strays-5.ensures in
    reads_on _ _ _ _ _ h1 (reads_on _ _ _ _ _ h2 (reads_on _ _ _ _ _ h3 (reads_on _ _ _ _ _ h4 (reads_on _ _ _ _ _ h5 (search rules)))))

pub returns-in_err-refuse_strays-7 : goal.returns-in_err-refuse_strays-7
returns-in_err-refuse_strays-7 c =
    let h1 : no_stray (spread 4 c.args.grid.now.land 1 c.args.whole.now.land_heat) ≡ Ok tt = ap (λ (xs : List ℤ). no_stray (spread 4 c.args.grid.now.land 1 xs)) (sym c.as_slice.ensures) ∙ c.in_ok-refuse_strays.ensures in
    let h2 : no_stray (spread 5 c.args.grid.now.land 1 c.args.whole.now.land_water) ≡ Ok tt = ap (λ (xs : List ℤ). no_stray (spread 5 c.args.grid.now.land 1 xs)) (sym c.as_slice-2.ensures) ∙ c.in_ok-refuse_strays-2.ensures in
    let h3 : no_stray (spread 6 c.args.grid.now.ocean (part_count c.args.grid.now) c.args.whole.now.parts) ≡ Ok tt = ap (λ (xs : List ℤ). no_stray (spread 6 c.args.grid.now.ocean (part_count c.args.grid.now) xs)) (sym c.as_slice-3.ensures) ∙ c.in_ok-refuse_strays-3.ensures in
    let h4 : no_stray (spread 7 c.args.grid.now.ocean (categories c.args.grid.now) c.args.whole.now.ice) ≡ Ok tt = ap (λ (xs : List ℤ). no_stray (spread 7 c.args.grid.now.ocean (categories c.args.grid.now) xs)) (sym c.as_slice-4.ensures) ∙ c.in_ok-refuse_strays-4.ensures in
    let h5 : no_stray (spread 8 c.args.grid.now.ocean (categories c.args.grid.now) c.args.whole.now.ice_heat) ≡ Ok tt = ap (λ (xs : List ℤ). no_stray (spread 8 c.args.grid.now.ocean (categories c.args.grid.now) xs)) (sym c.as_slice-5.ensures) ∙ c.in_ok-refuse_strays-5.ensures in
    let h6 : no_stray (spread 9 c.args.grid.now.ocean 1 c.args.whole.now.water) ≡ Ok tt = ap (λ (xs : List ℤ). no_stray (spread 9 c.args.grid.now.ocean 1 xs)) (sym c.as_slice-6.ensures) ∙ c.in_ok-refuse_strays-6.ensures in
    reads_on _ _ _ _ _ h1 (reads_on _ _ _ _ _ h2 (reads_on _ _ _ _ _ h3 (reads_on _ _ _ _ _ h4 (reads_on _ _ _ _ _ h5 (reads_on _ _ _ _ _ h6 (search rules))))))

pub returns-in_err-refuse_strays-8 : goal.returns-in_err-refuse_strays-8
returns-in_err-refuse_strays-8 c =
    let h1 : no_stray (spread 4 c.args.grid.now.land 1 c.args.whole.now.land_heat) ≡ Ok tt = ap (λ (xs : List ℤ). no_stray (spread 4 c.args.grid.now.land 1 xs)) (sym c.as_slice.ensures) ∙ c.in_ok-refuse_strays.ensures in
    let h2 : no_stray (spread 5 c.args.grid.now.land 1 c.args.whole.now.land_water) ≡ Ok tt = ap (λ (xs : List ℤ). no_stray (spread 5 c.args.grid.now.land 1 xs)) (sym c.as_slice-2.ensures) ∙ c.in_ok-refuse_strays-2.ensures in
    let h3 : no_stray (spread 6 c.args.grid.now.ocean (part_count c.args.grid.now) c.args.whole.now.parts) ≡ Ok tt = ap (λ (xs : List ℤ). no_stray (spread 6 c.args.grid.now.ocean (part_count c.args.grid.now) xs)) (sym c.as_slice-3.ensures) ∙ c.in_ok-refuse_strays-3.ensures in
    let h4 : no_stray (spread 7 c.args.grid.now.ocean (categories c.args.grid.now) c.args.whole.now.ice) ≡ Ok tt = ap (λ (xs : List ℤ). no_stray (spread 7 c.args.grid.now.ocean (categories c.args.grid.now) xs)) (sym c.as_slice-4.ensures) ∙ c.in_ok-refuse_strays-4.ensures in
    let h5 : no_stray (spread 8 c.args.grid.now.ocean (categories c.args.grid.now) c.args.whole.now.ice_heat) ≡ Ok tt = ap (λ (xs : List ℤ). no_stray (spread 8 c.args.grid.now.ocean (categories c.args.grid.now) xs)) (sym c.as_slice-5.ensures) ∙ c.in_ok-refuse_strays-5.ensures in
    let h6 : no_stray (spread 9 c.args.grid.now.ocean 1 c.args.whole.now.water) ≡ Ok tt = ap (λ (xs : List ℤ). no_stray (spread 9 c.args.grid.now.ocean 1 xs)) (sym c.as_slice-6.ensures) ∙ c.in_ok-refuse_strays-6.ensures in
    let h7 : no_stray (spread 10 c.args.grid.now.ocean 1 c.args.whole.now.heat) ≡ Ok tt = ap (λ (xs : List ℤ). no_stray (spread 10 c.args.grid.now.ocean 1 xs)) (sym c.as_slice-7.ensures) ∙ c.in_ok-refuse_strays-7.ensures in
    reads_on _ _ _ _ _ h1 (reads_on _ _ _ _ _ h2 (reads_on _ _ _ _ _ h3 (reads_on _ _ _ _ _ h4 (reads_on _ _ _ _ _ h5 (reads_on _ _ _ _ _ h6 (reads_on _ _ _ _ _ h7 (search rules)))))))

pub returns-in_err-refuse_strays-9 : goal.returns-in_err-refuse_strays-9
returns-in_err-refuse_strays-9 c =
    let h1 : no_stray (spread 4 c.args.grid.now.land 1 c.args.whole.now.land_heat) ≡ Ok tt = ap (λ (xs : List ℤ). no_stray (spread 4 c.args.grid.now.land 1 xs)) (sym c.as_slice.ensures) ∙ c.in_ok-refuse_strays.ensures in
    let h2 : no_stray (spread 5 c.args.grid.now.land 1 c.args.whole.now.land_water) ≡ Ok tt = ap (λ (xs : List ℤ). no_stray (spread 5 c.args.grid.now.land 1 xs)) (sym c.as_slice-2.ensures) ∙ c.in_ok-refuse_strays-2.ensures in
    let h3 : no_stray (spread 6 c.args.grid.now.ocean (part_count c.args.grid.now) c.args.whole.now.parts) ≡ Ok tt = ap (λ (xs : List ℤ). no_stray (spread 6 c.args.grid.now.ocean (part_count c.args.grid.now) xs)) (sym c.as_slice-3.ensures) ∙ c.in_ok-refuse_strays-3.ensures in
    let h4 : no_stray (spread 7 c.args.grid.now.ocean (categories c.args.grid.now) c.args.whole.now.ice) ≡ Ok tt = ap (λ (xs : List ℤ). no_stray (spread 7 c.args.grid.now.ocean (categories c.args.grid.now) xs)) (sym c.as_slice-4.ensures) ∙ c.in_ok-refuse_strays-4.ensures in
    let h5 : no_stray (spread 8 c.args.grid.now.ocean (categories c.args.grid.now) c.args.whole.now.ice_heat) ≡ Ok tt = ap (λ (xs : List ℤ). no_stray (spread 8 c.args.grid.now.ocean (categories c.args.grid.now) xs)) (sym c.as_slice-5.ensures) ∙ c.in_ok-refuse_strays-5.ensures in
    let h6 : no_stray (spread 9 c.args.grid.now.ocean 1 c.args.whole.now.water) ≡ Ok tt = ap (λ (xs : List ℤ). no_stray (spread 9 c.args.grid.now.ocean 1 xs)) (sym c.as_slice-6.ensures) ∙ c.in_ok-refuse_strays-6.ensures in
    let h7 : no_stray (spread 10 c.args.grid.now.ocean 1 c.args.whole.now.heat) ≡ Ok tt = ap (λ (xs : List ℤ). no_stray (spread 10 c.args.grid.now.ocean 1 xs)) (sym c.as_slice-7.ensures) ∙ c.in_ok-refuse_strays-7.ensures in
    let h8 : no_stray (spread 11 c.args.grid.now.ocean 1 c.args.whole.now.salt) ≡ Ok tt = ap (λ (xs : List ℤ). no_stray (spread 11 c.args.grid.now.ocean 1 xs)) (sym c.as_slice-8.ensures) ∙ c.in_ok-refuse_strays-8.ensures in
    reads_on _ _ _ _ _ h1 (reads_on _ _ _ _ _ h2 (reads_on _ _ _ _ _ h3 (reads_on _ _ _ _ _ h4 (reads_on _ _ _ _ _ h5 (reads_on _ _ _ _ _ h6 (reads_on _ _ _ _ _ h7 (reads_on _ _ _ _ _ h8 (search rules))))))))

pub returns : goal.returns
returns c =
    let h1 : no_stray (spread 4 c.args.grid.now.land 1 c.args.whole.now.land_heat) ≡ Ok tt = ap (λ (xs : List ℤ). no_stray (spread 4 c.args.grid.now.land 1 xs)) (sym c.as_slice.ensures) ∙ c.in_ok-refuse_strays.ensures in
    let h2 : no_stray (spread 5 c.args.grid.now.land 1 c.args.whole.now.land_water) ≡ Ok tt = ap (λ (xs : List ℤ). no_stray (spread 5 c.args.grid.now.land 1 xs)) (sym c.as_slice-2.ensures) ∙ c.in_ok-refuse_strays-2.ensures in
    let h3 : no_stray (spread 6 c.args.grid.now.ocean (part_count c.args.grid.now) c.args.whole.now.parts) ≡ Ok tt = ap (λ (xs : List ℤ). no_stray (spread 6 c.args.grid.now.ocean (part_count c.args.grid.now) xs)) (sym c.as_slice-3.ensures) ∙ c.in_ok-refuse_strays-3.ensures in
    let h4 : no_stray (spread 7 c.args.grid.now.ocean (categories c.args.grid.now) c.args.whole.now.ice) ≡ Ok tt = ap (λ (xs : List ℤ). no_stray (spread 7 c.args.grid.now.ocean (categories c.args.grid.now) xs)) (sym c.as_slice-4.ensures) ∙ c.in_ok-refuse_strays-4.ensures in
    let h5 : no_stray (spread 8 c.args.grid.now.ocean (categories c.args.grid.now) c.args.whole.now.ice_heat) ≡ Ok tt = ap (λ (xs : List ℤ). no_stray (spread 8 c.args.grid.now.ocean (categories c.args.grid.now) xs)) (sym c.as_slice-5.ensures) ∙ c.in_ok-refuse_strays-5.ensures in
    let h6 : no_stray (spread 9 c.args.grid.now.ocean 1 c.args.whole.now.water) ≡ Ok tt = ap (λ (xs : List ℤ). no_stray (spread 9 c.args.grid.now.ocean 1 xs)) (sym c.as_slice-6.ensures) ∙ c.in_ok-refuse_strays-6.ensures in
    let h7 : no_stray (spread 10 c.args.grid.now.ocean 1 c.args.whole.now.heat) ≡ Ok tt = ap (λ (xs : List ℤ). no_stray (spread 10 c.args.grid.now.ocean 1 xs)) (sym c.as_slice-7.ensures) ∙ c.in_ok-refuse_strays-7.ensures in
    let h8 : no_stray (spread 11 c.args.grid.now.ocean 1 c.args.whole.now.salt) ≡ Ok tt = ap (λ (xs : List ℤ). no_stray (spread 11 c.args.grid.now.ocean 1 xs)) (sym c.as_slice-8.ensures) ∙ c.in_ok-refuse_strays-8.ensures in
    let h9 : no_stray (spread 13 c.args.grid.now.ocean 5 c.args.whole.now.to_ice) ≡ Ok tt = ap (λ (xs : List ℤ). no_stray (spread 13 c.args.grid.now.ocean 5 xs)) (sym c.as_slice-9.ensures) ∙ c.in_ok-refuse_strays-9.ensures in
    reads_on _ _ _ _ _ h1 (reads_on _ _ _ _ _ h2 (reads_on _ _ _ _ _ h3 (reads_on _ _ _ _ _ h4 (reads_on _ _ _ _ _ h5 (reads_on _ _ _ _ _ h6 (reads_on _ _ _ _ _ h7 (reads_on _ _ _ _ _ h8 (reads_on _ _ _ _ _ h9 (search rules)))))))))
