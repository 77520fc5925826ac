-- The command line as clap reads it: the names of two files, and words that change a mask.
use Rattle.std.specs.Prelude.{Some, codes}
use Rattle.clap.specs.Lexer.{usize_max}
use Rattle.clap.specs.Words.{App, Rule, new_app, new_rule, with_rule}
use Rattle.line3.specs.Grammar.{file_rule}

-- any number of them
abbrev pub changes_rule : Rule
changes_rule = record (new_rule (codes "CLASS=WAY")) {
  range = Some (record { start_inclusive = 0; end_inclusive = usize_max });
}

abbrev pub mask_app : App
mask_app = with_rule (with_rule (with_rule (new_app (codes "nfs3mask")) (file_rule (codes "IN")))
    (file_rule (codes "OUT"))) changes_rule
