use Rattle.std.proofs.Common.{◌≡◌, ◌∷◌, [], Ok, rules, ap, sym, ◌∙◌}
use Rattle.cpl_restart.specs.Sections.{no_negative}
use Rattle.cpl_restart.proofs.Steps.{reads_on}
use Rattle.cpl_restart.proofs.lawful.refuse_negatives.Goals as goal

pub returns-in_err-refuse_negative-3 : goal.returns-in_err-refuse_negative-3
returns-in_err-refuse_negative-3 c =
    let h0 : no_negative 0 (c.args.whole.now.elapsed ∷ []) ≡ Ok tt = c.in_ok-refuse_negative_elapsed.ensures in
    let h1 : no_negative 1 c.args.whole.now.air_heat ≡ Ok tt = ap (no_negative 1) (sym c.as_slice.ensures) ∙ c.in_ok-refuse_negative.ensures in
    let h2 : no_negative 2 c.args.whole.now.air_vapour ≡ Ok tt = ap (no_negative 2) (sym c.as_slice-2.ensures) ∙ c.in_ok-refuse_negative-2.ensures in
    reads_on _ _ _ _ _ h0 (reads_on _ _ _ _ _ h1 (reads_on _ _ _ _ _ h2 (search rules)))

pub returns-in_err-refuse_negative-4 : goal.returns-in_err-refuse_negative-4
returns-in_err-refuse_negative-4 c =
    let h0 : no_negative 0 (c.args.whole.now.elapsed ∷ []) ≡ Ok tt = c.in_ok-refuse_negative_elapsed.ensures in
    let h1 : no_negative 1 c.args.whole.now.air_heat ≡ Ok tt = ap (no_negative 1) (sym c.as_slice.ensures) ∙ c.in_ok-refuse_negative.ensures in
    let h2 : no_negative 2 c.args.whole.now.air_vapour ≡ Ok tt = ap (no_negative 2) (sym c.as_slice-2.ensures) ∙ c.in_ok-refuse_negative-2.ensures in
    let h3 : no_negative 3 c.args.whole.now.air_sun ≡ Ok tt = ap (no_negative 3) (sym c.as_slice-3.ensures) ∙ c.in_ok-refuse_negative-3.ensures in
    reads_on _ _ _ _ _ h0 (reads_on _ _ _ _ _ h1 (reads_on _ _ _ _ _ h2 (reads_on _ _ _ _ _ h3 (search rules))))

pub returns-in_err-refuse_negative-5 : goal.returns-in_err-refuse_negative-5
returns-in_err-refuse_negative-5 c =
    let h0 : no_negative 0 (c.args.whole.now.elapsed ∷ []) ≡ Ok tt = c.in_ok-refuse_negative_elapsed.ensures in
    let h1 : no_negative 1 c.args.whole.now.air_heat ≡ Ok tt = ap (no_negative 1) (sym c.as_slice.ensures) ∙ c.in_ok-refuse_negative.ensures in
    let h2 : no_negative 2 c.args.whole.now.air_vapour ≡ Ok tt = ap (no_negative 2) (sym c.as_slice-2.ensures) ∙ c.in_ok-refuse_negative-2.ensures in
    let h3 : no_negative 3 c.args.whole.now.air_sun ≡ Ok tt = ap (no_negative 3) (sym c.as_slice-3.ensures) ∙ c.in_ok-refuse_negative-3.ensures in
    let h4 : no_negative 4 c.args.whole.now.land_heat ≡ Ok tt = ap (no_negative 4) (sym c.as_slice-4.ensures) ∙ c.in_ok-refuse_negative-4.ensures in
    reads_on _ _ _ _ _ h0 (reads_on _ _ _ _ _ h1 (reads_on _ _ _ _ _ h2 (reads_on _ _ _ _ _ h3 (reads_on _ _ _ _ _ h4 (search rules)))))

pub returns-in_err-refuse_negative-6 : goal.returns-in_err-refuse_negative-6
returns-in_err-refuse_negative-6 c =
    let h0 : no_negative 0 (c.args.whole.now.elapsed ∷ []) ≡ Ok tt = c.in_ok-refuse_negative_elapsed.ensures in
    let h1 : no_negative 1 c.args.whole.now.air_heat ≡ Ok tt = ap (no_negative 1) (sym c.as_slice.ensures) ∙ c.in_ok-refuse_negative.ensures in
    let h2 : no_negative 2 c.args.whole.now.air_vapour ≡ Ok tt = ap (no_negative 2) (sym c.as_slice-2.ensures) ∙ c.in_ok-refuse_negative-2.ensures in
    let h3 : no_negative 3 c.args.whole.now.air_sun ≡ Ok tt = ap (no_negative 3) (sym c.as_slice-3.ensures) ∙ c.in_ok-refuse_negative-3.ensures in
    let h4 : no_negative 4 c.args.whole.now.land_heat ≡ Ok tt = ap (no_negative 4) (sym c.as_slice-4.ensures) ∙ c.in_ok-refuse_negative-4.ensures in
    let h5 : no_negative 5 c.args.whole.now.land_water ≡ Ok tt = ap (no_negative 5) (sym c.as_slice-5.ensures) ∙ c.in_ok-refuse_negative-5.ensures in
    reads_on _ _ _ _ _ h0 (reads_on _ _ _ _ _ h1 (reads_on _ _ _ _ _ h2 (reads_on _ _ _ _ _ h3 (reads_on _ _ _ _ _ h4 (reads_on _ _ _ _ _ h5 (search rules))))))

pub returns-in_err-refuse_negative-7 : goal.returns-in_err-refuse_negative-7
returns-in_err-refuse_negative-7 c =
    let h0 : no_negative 0 (c.args.whole.now.elapsed ∷ []) ≡ Ok tt = c.in_ok-refuse_negative_elapsed.ensures in
    let h1 : no_negative 1 c.args.whole.now.air_heat ≡ Ok tt = ap (no_negative 1) (sym c.as_slice.ensures) ∙ c.in_ok-refuse_negative.ensures in
    let h2 : no_negative 2 c.args.whole.now.air_vapour ≡ Ok tt = ap (no_negative 2) (sym c.as_slice-2.ensures) ∙ c.in_ok-refuse_negative-2.ensures in
    let h3 : no_negative 3 c.args.whole.now.air_sun ≡ Ok tt = ap (no_negative 3) (sym c.as_slice-3.ensures) ∙ c.in_ok-refuse_negative-3.ensures in
    let h4 : no_negative 4 c.args.whole.now.land_heat ≡ Ok tt = ap (no_negative 4) (sym c.as_slice-4.ensures) ∙ c.in_ok-refuse_negative-4.ensures in
    let h5 : no_negative 5 c.args.whole.now.land_water ≡ Ok tt = ap (no_negative 5) (sym c.as_slice-5.ensures) ∙ c.in_ok-refuse_negative-5.ensures in
    let h6 : no_negative 6 c.args.whole.now.parts ≡ Ok tt = ap (no_negative 6) (sym c.as_slice-6.ensures) ∙ c.in_ok-refuse_negative-6.ensures in
    reads_on _ _ _ _ _ h0 (reads_on _ _ _ _ _ h1 (reads_on _ _ _ _ _ h2 (reads_on _ _ _ _ _ h3 (reads_on _ _ _ _ _ h4 (reads_on _ _ _ _ _ h5 (reads_on _ _ _ _ _ h6 (search rules)))))))

pub returns-in_err-refuse_negative-8 : goal.returns-in_err-refuse_negative-8
returns-in_err-refuse_negative-8 c =
    let h0 : no_negative 0 (c.args.whole.now.elapsed ∷ []) ≡ Ok tt = c.in_ok-refuse_negative_elapsed.ensures in
    let h1 : no_negative 1 c.args.whole.now.air_heat ≡ Ok tt = ap (no_negative 1) (sym c.as_slice.ensures) ∙ c.in_ok-refuse_negative.ensures in
    let h2 : no_negative 2 c.args.whole.now.air_vapour ≡ Ok tt = ap (no_negative 2) (sym c.as_slice-2.ensures) ∙ c.in_ok-refuse_negative-2.ensures in
    let h3 : no_negative 3 c.args.whole.now.air_sun ≡ Ok tt = ap (no_negative 3) (sym c.as_slice-3.ensures) ∙ c.in_ok-refuse_negative-3.ensures in
    let h4 : no_negative 4 c.args.whole.now.land_heat ≡ Ok tt = ap (no_negative 4) (sym c.as_slice-4.ensures) ∙ c.in_ok-refuse_negative-4.ensures in
    let h5 : no_negative 5 c.args.whole.now.land_water ≡ Ok tt = ap (no_negative 5) (sym c.as_slice-5.ensures) ∙ c.in_ok-refuse_negative-5.ensures in
    let h6 : no_negative 6 c.args.whole.now.parts ≡ Ok tt = ap (no_negative 6) (sym c.as_slice-6.ensures) ∙ c.in_ok-refuse_negative-6.ensures in
    let h7 : no_negative 7 c.args.whole.now.ice ≡ Ok tt = ap (no_negative 7) (sym c.as_slice-7.ensures) ∙ c.in_ok-refuse_negative-7.ensures in
    reads_on _ _ _ _ _ h0 (reads_on _ _ _ _ _ h1 (reads_on _ _ _ _ _ h2 (reads_on _ _ _ _ _ h3 (reads_on _ _ _ _ _ h4 (reads_on _ _ _ _ _ h5 (reads_on _ _ _ _ _ h6 (reads_on _ _ _ _ _ h7 (search rules))))))))

pub returns-in_err-refuse_negative-9 : goal.returns-in_err-refuse_negative-9
returns-in_err-refuse_negative-9 c =
    let h0 : no_negative 0 (c.args.whole.now.elapsed ∷ []) ≡ Ok tt = c.in_ok-refuse_negative_elapsed.ensures in
    let h1 : no_negative 1 c.args.whole.now.air_heat ≡ Ok tt = ap (no_negative 1) (sym c.as_slice.ensures) ∙ c.in_ok-refuse_negative.ensures in
    let h2 : no_negative 2 c.args.whole.now.air_vapour ≡ Ok tt = ap (no_negative 2) (sym c.as_slice-2.ensures) ∙ c.in_ok-refuse_negative-2.ensures in
    let h3 : no_negative 3 c.args.whole.now.air_sun ≡ Ok tt = ap (no_negative 3) (sym c.as_slice-3.ensures) ∙ c.in_ok-refuse_negative-3.ensures in
    let h4 : no_negative 4 c.args.whole.now.land_heat ≡ Ok tt = ap (no_negative 4) (sym c.as_slice-4.ensures) ∙ c.in_ok-refuse_negative-4.ensures in
    let h5 : no_negative 5 c.args.whole.now.land_water ≡ Ok tt = ap (no_negative 5) (sym c.as_slice-5.ensures) ∙ c.in_ok-refuse_negative-5.ensures in
    let h6 : no_negative 6 c.args.whole.now.parts ≡ Ok tt = ap (no_negative 6) (sym c.as_slice-6.ensures) ∙ c.in_ok-refuse_negative-6.ensures in
    let h7 : no_negative 7 c.args.whole.now.ice ≡ Ok tt = ap (no_negative 7) (sym c.as_slice-7.ensures) ∙ c.in_ok-refuse_negative-7.ensures in
    let h8 : no_negative 8 c.args.whole.now.ice_heat ≡ Ok tt = ap (no_negative 8) (sym c.as_slice-8.ensures) ∙ c.in_ok-refuse_negative-8.ensures in
    reads_on _ _ _ _ _ h0 (reads_on _ _ _ _ _ h1 (reads_on _ _ _ _ _ h2 (reads_on _ _ _ _ _ h3 (reads_on _ _ _ _ _ h4 (reads_on _ _ _ _ _ h5 (reads_on _ _ _ _ _ h6 (reads_on _ _ _ _ _ h7 (reads_on _ _ _ _ _ h8 (search rules)))))))))

pub returns-in_err-refuse_negative-10 : goal.returns-in_err-refuse_negative-10
returns-in_err-refuse_negative-10 c =
    let h0 : no_negative 0 (c.args.whole.now.elapsed ∷ []) ≡ Ok tt = c.in_ok-refuse_negative_elapsed.ensures in
    let h1 : no_negative 1 c.args.whole.now.air_heat ≡ Ok tt = ap (no_negative 1) (sym c.as_slice.ensures) ∙ c.in_ok-refuse_negative.ensures in
    let h2 : no_negative 2 c.args.whole.now.air_vapour ≡ Ok tt = ap (no_negative 2) (sym c.as_slice-2.ensures) ∙ c.in_ok-refuse_negative-2.ensures in
    let h3 : no_negative 3 c.args.whole.now.air_sun ≡ Ok tt = ap (no_negative 3) (sym c.as_slice-3.ensures) ∙ c.in_ok-refuse_negative-3.ensures in
    let h4 : no_negative 4 c.args.whole.now.land_heat ≡ Ok tt = ap (no_negative 4) (sym c.as_slice-4.ensures) ∙ c.in_ok-refuse_negative-4.ensures in
    let h5 : no_negative 5 c.args.whole.now.land_water ≡ Ok tt = ap (no_negative 5) (sym c.as_slice-5.ensures) ∙ c.in_ok-refuse_negative-5.ensures in
    let h6 : no_negative 6 c.args.whole.now.parts ≡ Ok tt = ap (no_negative 6) (sym c.as_slice-6.ensures) ∙ c.in_ok-refuse_negative-6.ensures in
    let h7 : no_negative 7 c.args.whole.now.ice ≡ Ok tt = ap (no_negative 7) (sym c.as_slice-7.ensures) ∙ c.in_ok-refuse_negative-7.ensures in
    let h8 : no_negative 8 c.args.whole.now.ice_heat ≡ Ok tt = ap (no_negative 8) (sym c.as_slice-8.ensures) ∙ c.in_ok-refuse_negative-8.ensures in
    let h9 : no_negative 9 c.args.whole.now.water ≡ Ok tt = ap (no_negative 9) (sym c.as_slice-9.ensures) ∙ c.in_ok-refuse_negative-9.ensures in
    reads_on _ _ _ _ _ h0 (reads_on _ _ _ _ _ h1 (reads_on _ _ _ _ _ h2 (reads_on _ _ _ _ _ h3 (reads_on _ _ _ _ _ h4 (reads_on _ _ _ _ _ h5 (reads_on _ _ _ _ _ h6 (reads_on _ _ _ _ _ h7 (reads_on _ _ _ _ _ h8 (reads_on _ _ _ _ _ h9 (search rules))))))))))

pub returns-in_err-refuse_negative-11 : goal.returns-in_err-refuse_negative-11
returns-in_err-refuse_negative-11 c =
    let h0 : no_negative 0 (c.args.whole.now.elapsed ∷ []) ≡ Ok tt = c.in_ok-refuse_negative_elapsed.ensures in
    let h1 : no_negative 1 c.args.whole.now.air_heat ≡ Ok tt = ap (no_negative 1) (sym c.as_slice.ensures) ∙ c.in_ok-refuse_negative.ensures in
    let h2 : no_negative 2 c.args.whole.now.air_vapour ≡ Ok tt = ap (no_negative 2) (sym c.as_slice-2.ensures) ∙ c.in_ok-refuse_negative-2.ensures in
    let h3 : no_negative 3 c.args.whole.now.air_sun ≡ Ok tt = ap (no_negative 3) (sym c.as_slice-3.ensures) ∙ c.in_ok-refuse_negative-3.ensures in
    let h4 : no_negative 4 c.args.whole.now.land_heat ≡ Ok tt = ap (no_negative 4) (sym c.as_slice-4.ensures) ∙ c.in_ok-refuse_negative-4.ensures in
    let h5 : no_negative 5 c.args.whole.now.land_water ≡ Ok tt = ap (no_negative 5) (sym c.as_slice-5.ensures) ∙ c.in_ok-refuse_negative-5.ensures in
    let h6 : no_negative 6 c.args.whole.now.parts ≡ Ok tt = ap (no_negative 6) (sym c.as_slice-6.ensures) ∙ c.in_ok-refuse_negative-6.ensures in
    let h7 : no_negative 7 c.args.whole.now.ice ≡ Ok tt = ap (no_negative 7) (sym c.as_slice-7.ensures) ∙ c.in_ok-refuse_negative-7.ensures in
    let h8 : no_negative 8 c.args.whole.now.ice_heat ≡ Ok tt = ap (no_negative 8) (sym c.as_slice-8.ensures) ∙ c.in_ok-refuse_negative-8.ensures in
    let h9 : no_negative 9 c.args.whole.now.water ≡ Ok tt = ap (no_negative 9) (sym c.as_slice-9.ensures) ∙ c.in_ok-refuse_negative-9.ensures in
    let h10 : no_negative 10 c.args.whole.now.heat ≡ Ok tt = ap (no_negative 10) (sym c.as_slice-10.ensures) ∙ c.in_ok-refuse_negative-10.ensures in
    reads_on _ _ _ _ _ h0 (reads_on _ _ _ _ _ h1 (reads_on _ _ _ _ _ h2 (reads_on _ _ _ _ _ h3 (reads_on _ _ _ _ _ h4 (reads_on _ _ _ _ _ h5 (reads_on _ _ _ _ _ h6 (reads_on _ _ _ _ _ h7 (reads_on _ _ _ _ _ h8 (reads_on _ _ _ _ _ h9 (reads_on _ _ _ _ _ h10 (search rules)))))))))))

pub returns-in_err-refuse_negative-12 : goal.returns-in_err-refuse_negative-12
returns-in_err-refuse_negative-12 c =
    let h0 : no_negative 0 (c.args.whole.now.elapsed ∷ []) ≡ Ok tt = c.in_ok-refuse_negative_elapsed.ensures in
    let h1 : no_negative 1 c.args.whole.now.air_heat ≡ Ok tt = ap (no_negative 1) (sym c.as_slice.ensures) ∙ c.in_ok-refuse_negative.ensures in
    let h2 : no_negative 2 c.args.whole.now.air_vapour ≡ Ok tt = ap (no_negative 2) (sym c.as_slice-2.ensures) ∙ c.in_ok-refuse_negative-2.ensures in
    let h3 : no_negative 3 c.args.whole.now.air_sun ≡ Ok tt = ap (no_negative 3) (sym c.as_slice-3.ensures) ∙ c.in_ok-refuse_negative-3.ensures in
    let h4 : no_negative 4 c.args.whole.now.land_heat ≡ Ok tt = ap (no_negative 4) (sym c.as_slice-4.ensures) ∙ c.in_ok-refuse_negative-4.ensures in
    let h5 : no_negative 5 c.args.whole.now.land_water ≡ Ok tt = ap (no_negative 5) (sym c.as_slice-5.ensures) ∙ c.in_ok-refuse_negative-5.ensures in
    let h6 : no_negative 6 c.args.whole.now.parts ≡ Ok tt = ap (no_negative 6) (sym c.as_slice-6.ensures) ∙ c.in_ok-refuse_negative-6.ensures in
    let h7 : no_negative 7 c.args.whole.now.ice ≡ Ok tt = ap (no_negative 7) (sym c.as_slice-7.ensures) ∙ c.in_ok-refuse_negative-7.ensures in
    let h8 : no_negative 8 c.args.whole.now.ice_heat ≡ Ok tt = ap (no_negative 8) (sym c.as_slice-8.ensures) ∙ c.in_ok-refuse_negative-8.ensures in
    let h9 : no_negative 9 c.args.whole.now.water ≡ Ok tt = ap (no_negative 9) (sym c.as_slice-9.ensures) ∙ c.in_ok-refuse_negative-9.ensures in
    let h10 : no_negative 10 c.args.whole.now.heat ≡ Ok tt = ap (no_negative 10) (sym c.as_slice-10.ensures) ∙ c.in_ok-refuse_negative-10.ensures in
    let h11 : no_negative 11 c.args.whole.now.salt ≡ Ok tt = ap (no_negative 11) (sym c.as_slice-11.ensures) ∙ c.in_ok-refuse_negative-11.ensures in
    reads_on _ _ _ _ _ h0 (reads_on _ _ _ _ _ h1 (reads_on _ _ _ _ _ h2 (reads_on _ _ _ _ _ h3 (reads_on _ _ _ _ _ h4 (reads_on _ _ _ _ _ h5 (reads_on _ _ _ _ _ h6 (reads_on _ _ _ _ _ h7 (reads_on _ _ _ _ _ h8 (reads_on _ _ _ _ _ h9 (reads_on _ _ _ _ _ h10 (reads_on _ _ _ _ _ h11 (search rules))))))))))))

pub returns : goal.returns
returns c =
    let h0 : no_negative 0 (c.args.whole.now.elapsed ∷ []) ≡ Ok tt = c.in_ok-refuse_negative_elapsed.ensures in
    let h1 : no_negative 1 c.args.whole.now.air_heat ≡ Ok tt = ap (no_negative 1) (sym c.as_slice.ensures) ∙ c.in_ok-refuse_negative.ensures in
    let h2 : no_negative 2 c.args.whole.now.air_vapour ≡ Ok tt = ap (no_negative 2) (sym c.as_slice-2.ensures) ∙ c.in_ok-refuse_negative-2.ensures in
    let h3 : no_negative 3 c.args.whole.now.air_sun ≡ Ok tt = ap (no_negative 3) (sym c.as_slice-3.ensures) ∙ c.in_ok-refuse_negative-3.ensures in
    let h4 : no_negative 4 c.args.whole.now.land_heat ≡ Ok tt = ap (no_negative 4) (sym c.as_slice-4.ensures) ∙ c.in_ok-refuse_negative-4.ensures in
    let h5 : no_negative 5 c.args.whole.now.land_water ≡ Ok tt = ap (no_negative 5) (sym c.as_slice-5.ensures) ∙ c.in_ok-refuse_negative-5.ensures in
    let h6 : no_negative 6 c.args.whole.now.parts ≡ Ok tt = ap (no_negative 6) (sym c.as_slice-6.ensures) ∙ c.in_ok-refuse_negative-6.ensures in
    let h7 : no_negative 7 c.args.whole.now.ice ≡ Ok tt = ap (no_negative 7) (sym c.as_slice-7.ensures) ∙ c.in_ok-refuse_negative-7.ensures in
    let h8 : no_negative 8 c.args.whole.now.ice_heat ≡ Ok tt = ap (no_negative 8) (sym c.as_slice-8.ensures) ∙ c.in_ok-refuse_negative-8.ensures in
    let h9 : no_negative 9 c.args.whole.now.water ≡ Ok tt = ap (no_negative 9) (sym c.as_slice-9.ensures) ∙ c.in_ok-refuse_negative-9.ensures in
    let h10 : no_negative 10 c.args.whole.now.heat ≡ Ok tt = ap (no_negative 10) (sym c.as_slice-10.ensures) ∙ c.in_ok-refuse_negative-10.ensures in
    let h11 : no_negative 11 c.args.whole.now.salt ≡ Ok tt = ap (no_negative 11) (sym c.as_slice-11.ensures) ∙ c.in_ok-refuse_negative-11.ensures in
    let h12 : no_negative 13 c.args.whole.now.to_ice ≡ Ok tt = ap (no_negative 13) (sym c.as_slice-12.ensures) ∙ c.in_ok-refuse_negative-12.ensures in
    reads_on _ _ _ _ _ h0 (reads_on _ _ _ _ _ h1 (reads_on _ _ _ _ _ h2 (reads_on _ _ _ _ _ h3 (reads_on _ _ _ _ _ h4 (reads_on _ _ _ _ _ h5 (reads_on _ _ _ _ _ h6 (reads_on _ _ _ _ _ h7 (reads_on _ _ _ _ _ h8 (reads_on _ _ _ _ _ h9 (reads_on _ _ _ _ _ h10 (reads_on _ _ _ _ _ h11 (reads_on _ _ _ _ _ h12 (search rules)))))))))))))
