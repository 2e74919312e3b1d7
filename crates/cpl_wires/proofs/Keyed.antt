-- Keys of pairs are below the number of pairs.
use Rattle.std.proofs.Common.{◌<◌, arith, List, get_or}
use Rattle.std.specs.Prelude.{map}
use Rattle.std.proofs.lemmas.List.Elements.{All-map}
use Rattle.cpl_layout.specs.Layouts.{Cuts, IsLayout}
use Rattle.cpl_strip.specs.declared.parts.Strip.{Strip}
use Rattle.cpl_strip.specs.declared.parts.FaceStrip.{FaceStrip}
use Rattle.cpl_xgrid.specs.Groups.{AreKeys}
use Rattle.cpl_wires.specs.Tables.{Pair, ArePairs, pair_key, strip_key, face_strip_key, HavePieces, HaveFacePieces}
use Rattle.cpl_wires.proofs.Sharing.{owner_few}

pub pairs_below : (one other : Cuts) (pairs : List Pair) → IsLayout one → IsLayout other → ArePairs one.tiles other.tiles pairs → AreKeys 4_096 (map (pair_key one other) pairs)
pairs_below one other pairs first second are = All-map (λ key. key < 4_096) (pair_key one other) pairs (λ k d h.
    let inside = are k d h in
    let a = owner_few one (get_or pairs k d).0 first inside.0 in
    let b = owner_few other (get_or pairs k d).1 second inside.1 in omega arith)

pub strips_below : (strips : List Strip) → HavePieces strips → AreKeys 4_096 (map strip_key strips)
strips_below strips are = All-map (λ key. key < 4_096) strip_key strips (λ k d h. let few = are k d h in omega (arith, few.0, few.1))

pub face_strips_below : (strips : List FaceStrip) → HaveFacePieces strips → AreKeys 4_096 (map face_strip_key strips)
face_strips_below strips are = All-map (λ key. key < 4_096) face_strip_key strips (λ k d h. let few = are k d h in omega (arith, few.0, few.1))
