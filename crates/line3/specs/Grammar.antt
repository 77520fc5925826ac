-- The command line as clap reads it: five commands, each with the names of files.
use Rattle.std.specs.Prelude.{true, Some, codes}
use Rattle.clap.specs.Lexer.{usize_max}
use Rattle.clap.specs.Words.{App, Rule, Text, new_app, new_rule, with_rule, with_subcommand}

-- the name of a file, which has to be there
abbrev pub file_rule : Text → Rule
file_rule id = record (new_rule id) { required = true }

-- one or more of them
abbrev pub streams_rule : Rule
streams_rule =
    record (file_rule (codes "STREAMS")) {
      range =
          Some (record { start_inclusive = 1; end_inclusive = usize_max });
    }

-- a command with the name of a file
abbrev pub one_file : Text → App
one_file name = with_rule (new_app name) (file_rule (codes "FILE"))

-- a command with the names of two files
abbrev pub two_files : Text → Text → Text → App
two_files name first second =
    with_rule (with_rule (new_app name) (file_rule first)) (file_rule second)

-- a command with an output and its streams
abbrev pub packing_form : App
packing_form = with_rule (with_rule (new_app (codes "pack")) (file_rule (codes "OUT"))) streams_rule

-- the program's name; a command has to follow
abbrev pub bare : App
bare = record (new_app (codes "nfs3canon")) {
  top =
      record (new_app (codes "nfs3canon")).top { subcommand_required = true };
}

-- the five commands
abbrev pub app : App
app =
    with_subcommand
    (with_subcommand
    (with_subcommand
    (with_subcommand (with_subcommand bare (one_file (codes "check")).top)
    (one_file (codes "show")).top) (two_files (codes "canon") (codes "IN") (codes "OUT")).top)
    (two_files (codes "same") (codes "A") (codes "B")).top) packing_form.top
