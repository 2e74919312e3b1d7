-- The commands, and the answer to words: a function from words and files to a refusal, or to files and a line.
use Rattle.std.specs.Prelude.{ℕ, List, [], ◌∷◌, codes, Result, Err, Option, Some, None, if◌then◌else◌}
use Rattle.std.specs.List.{list_all}
use Rattle.std.specs.Str.{bytes_eq}
use Rattle.cpl_io.specs.Files.{Files}
use Rattle.cpl_words.specs.Arguments.{is_argument}
use Rattle.cpl_top.specs.Reads.{Reads, answer_from}
use Rattle.cpl_top.specs.Check.{check_of}
use Rattle.cpl_top.specs.Make.{make_of}
use Rattle.cpl_top.specs.Migrate.{migrate_of}
use Rattle.cpl_top.specs.Solo.{solo_of}
use Rattle.cpl_top.specs.Summary.{summary_of}
use Rattle.cpl_top.specs.Whole.{whole_of}
use Rattle.cpl_top.specs.declared.output.Reply.{Reply}
use Rattle.cpl_top.specs.declared.status.Status.{Status}
use Rattle.cpl_top.specs.declared.status.Status.TheVariants as status

-- a command: its name, and what it reads and answers for its arguments, if they are its arguments
pub record Command : Type 0 where
  pub name : List ℕ
  pub reads : List (List ℕ) → Option Reads

-- the commands that `still_top` serves
abbrev pub still_commands : List Command
still_commands =
    record { name = codes "check"; reads = check_of } ∷ record { name = codes "make"; reads = make_of }
    ∷ record { name = codes "migrate"; reads = migrate_of } ∷ record { name = codes "solo"; reads = solo_of }
    ∷ record { name = codes "summary"; reads = summary_of } ∷ record { name = codes "whole"; reads = whole_of } ∷ []

-- the command of this name among these, with these arguments
abbrev pub command_named : List Command → List ℕ → List (List ℕ) → Option Reads
command_named [] name arguments = None
command_named (command ∷ commands) name arguments =
    if bytes_eq name command.name then command.reads arguments else command_named commands name arguments

abbrev pub command_with : List Command → List (List ℕ) → Option Reads
command_with commands [] = None
command_with commands (name ∷ arguments) = command_named commands name arguments

-- the command that words are, if they are one of these
abbrev pub command_among : List Command → List (List ℕ) → Option Reads
command_among commands words = if list_all is_argument words then command_with commands words else None

-- the command of `still_top` that words are, if they are one
unfoldable pub command_of : List (List ℕ) → Option Reads
command_of words = command_among still_commands words

abbrev pub answer_to : Files → Option Reads → Result Reply Status
answer_to files None = Err status.Usage
answer_to files (Some reads) = answer_from files reads

-- the answer to words
abbrev pub answer : List (List ℕ) → Files → Result Reply Status
answer words files = answer_to files (command_of words)
