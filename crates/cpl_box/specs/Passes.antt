-- What a clause says of boxes and their passes.
use Rattle.std.specs.Prelude.{◌≡◌, ℕ, ℤ, List, ◌∷◌, map, length}
use Rattle.std.specs.Global.{Vec}
use Rattle.atomic_table.specs.Seated.{TableId}
use Rattle.cpl_core.specs.declared.wiring.Channel.{Channel}
use Rattle.cpl_core.specs.declared.wiring.Wires.{Wires}
use Rattle.cpl_box.specs.declared.view.View.{View}
use Rattle.cpl_box.specs.declared.pass.Pass.{Pass}
use Rattle.cpl_box.specs.declared.pass.PostBox.{PostBox}

-- what the pass knows
abbrev pub view_of : Pass → View
view_of pass = pass.seat.me.0

-- the numbers that tell a table from every other
abbrev pub name_of : TableId → List ℕ
name_of z = z.words ∷ z.slots ∷ z.views_name ∷ z.atom ∷ z.block ∷ z.offset ∷ z.slot_names

-- the name of some boxes, and of those that made a pass
abbrev pub box_name : {W : Type 0} → PostBox W → List ℕ
box_name boxes = name_of boxes.table.shared.table_id

abbrev pub pass_name : Pass → List ℕ
pass_name pass = name_of pass.seat.table_id

-- the pass was made by these boxes
abbrev pub IsPassOf : {W : Type 0} → PostBox W → Pass → Type 0
IsPassOf boxes pass = pass_name pass ≡ box_name boxes

-- the lengths of the edges, and of some lists
abbrev pub lens_of : Wires → List ℕ
lens_of wires = map (λ (c : Channel). c.len) wires.channels

abbrev pub lens_in : List (Vec ℤ) → List ℕ
lens_in lists = map (λ (list : Vec ℤ). length list.items) lists
