use Rattle.std.proofs.Common.{◌≡◌, ◌∙◌, ◌++◌, ap, rules, w64, ℤ}
use Rattle.std.specs.Int.{cast_signed, cast_unsigned}
use Rattle.std.specs.Int.RustNames.{FitsSigned}
use Rattle.std.specs.List.{flat_map}
use Rattle.std.proofs.lemmas.Int.{to_z-of_z}
use Rattle.cpl_restart.specs.Numbers.{numbers_bytes, section_bytes}
use Rattle.cpl_restart.specs.RestartBytes.{sections_of}
use Rattle.cpl_combine.specs.Cuts.{all_gathered, head_of, parts_of, piece_bytes, piece_mark}
use Rattle.cpl_combine.specs.Places.{of_component}
use Rattle.cpl_combine.proofs.Steps.{spelled}
use Rattle.cpl_combine.proofs.cutting.cut.Goals as goal

pub returns : goal.returns
unfolding piece_bytes parts_of
returns c =
    let mark : c.extend_from_slice.new.self.items ≡ piece_mark = search rules in
    let fits : FitsSigned w64 c.args.whole.now.elapsed = search rules in
    let elapsed : cast_signed w64 (cast_unsigned w64 c.args.whole.now.elapsed) ≡ c.args.whole.now.elapsed = to_z-of_z w64 c.args.whole.now.elapsed fits in
    let head = ap (λ (e : ℤ). c.extend_from_slice.new.self.items ++ numbers_bytes (head_of c.args.window e)) elapsed in
    record {
      spelled = spelled _ _ _ piece_mark _ _ _ mark (c.in_ok-write_head.ensures ∙ head) c.in_ok-write_parts.ensures (ap (λ places. flat_map section_bytes (all_gathered (of_component c.args.window.component (sections_of c.args.whole.now)) places)) c.in_ok-places.ensures);
    }
