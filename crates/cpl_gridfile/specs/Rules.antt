-- The rules of a grid.
use Rattle.std.specs.Prelude.{ℕ, ◌==◌, Bool, false, Option, Some, None, ℤ, pos, negsuc}
use Rattle.std.specs.List.{position}
use Rattle.cpl_fixed.specs.declared.words.Component.{Component}
use Rattle.cpl_fixed.specs.declared.words.Component.TheVariants.{Atmos}
use Rattle.cpl_mosaic.specs.declared.parts.MosaicError.{MosaicError}
use Rattle.cpl_mosaic.specs.declared.parts.MosaicError.TheVariants as mosaic
use Rattle.cpl_mosaic.specs.declared.mosaic.Mesh.{Mesh}
use Rattle.cpl_mosaic.specs.Contacts.{contact_fault}
use Rattle.cpl_gridfile.specs.declared.fault.GridError.{GridError}
use Rattle.cpl_gridfile.specs.declared.fault.GridError.TheVariants.{Area, ContactRange, ContactTwice, SelfMeet, Memory}

-- the first of faults, some of which are none
infixr 10 ◌then◌
abbrev pub ◌then◌ : Option GridError → Option GridError → Option GridError
(Some fault) then others = Some fault
None then others = others

abbrev pub is_zero : ℤ → Bool
is_zero (pos n) = n == 0
is_zero (negsuc n) = false

-- the least cell of the air without area
abbrev pub at_cell : Option ℕ → Option GridError
at_cell (Some cell) = Some (Area Atmos cell)
at_cell None = None

abbrev pub area_fault : Mesh → Option GridError
area_fault mesh = at_cell (position is_zero mesh.area)

-- the first broken rule of contacts
abbrev pub of_contacts : Component → MosaicError → GridError
of_contacts component (mosaic.ContactRange n) = ContactRange component n
of_contacts component (mosaic.ContactTwice n) = ContactTwice component n
of_contacts component (mosaic.SelfMeet n) = SelfMeet component n
of_contacts component mosaic.Memory = Memory

abbrev pub at_contact : Component → Option MosaicError → Option GridError
at_contact component (Some fault) = Some (of_contacts component fault)
at_contact component None = None

abbrev pub mosaic_fault : Component → Mesh → Option GridError
mosaic_fault component mesh = at_contact component (contact_fault mesh.mosaic.tiles mesh.mosaic.contacts)
