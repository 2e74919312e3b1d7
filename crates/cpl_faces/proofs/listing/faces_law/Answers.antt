use Rattle.cpl_faces.specs.Faces.{faces_of}
use Rattle.cpl_faces.proofs.Apart.{are_apart}
use Rattle.cpl_faces.proofs.Listed.{are_faces}
use Rattle.cpl_faces.proofs.listing.faces_law.Goals as goal

pub returns : goal.returns
returns c = record {
  each = λ mosaic numbers mates. are_faces mosaic numbers mates;
  apart = λ mosaic numbers mates. are_apart mosaic (faces_of mosaic) numbers mates (are_faces mosaic numbers mates);
}
