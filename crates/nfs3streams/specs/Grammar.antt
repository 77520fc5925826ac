-- The command line as clap reads it: what is wanted, ports, and the names of two files.
use Rattle.std.specs.Prelude.{Some, codes}
use Rattle.clap.specs.Words.{App, Rule, new_app, new_rule, with_rule}
use Rattle.clap.specs.declared.builder.action.ArgAction.TheVariants.{Append, Count}
use Rattle.line3.specs.Grammar.{file_rule}

-- a flag
abbrev pub index_rule : Rule
index_rule = record (new_rule (codes "index")) {
  long = Some (codes "index");
  action = Some Count;
}

-- an option, which may be given several times
abbrev pub port_rule : Rule
port_rule = record (new_rule (codes "PORT")) {
  long = Some (codes "port");
  action = Some Append;
  value_names = 1;
}

abbrev pub streams_app : App
streams_app = with_rule (with_rule (with_rule (with_rule (new_app (codes "nfs3streams")) index_rule)
    port_rule) (file_rule (codes "RECORDING"))) (file_rule (codes "OUT"))
