-- The names that most proofs of the crate cite, passed on from one place. Declares nothing.
pub use Rattle.clap.specs.Words.{App, Text, app_of, is_simple, takes, with_subcommand}
pub use Rattle.std.proofs.Common.{Bool, Contains, Global, IfErr, IfOk, List, None, Some, String, [], ap, append-nil, append_assoc, ap₂, arith, bytes_eq, codes, drop, false, fold, if◌then◌else◌, inl, inr, is_some, le-leb, length, map, not, option_and_then, refl, rules, remove, slice_index_or, string_bytes, string_eq, subst, suc, sym, take, true, zero, ℕ, ◌%◌, ◌&&◌, ◌+◌, ◌++◌, ◌-◌, ◌<◌, ◌==◌, ◌||◌, ◌∙◌, ◌∷◌, ◌≡◌, ◌≢◌, ◌≤◌, ◌⊎◌}
pub use Rattle.std.proofs.lemmas.List.{length-map}
pub use Rattle.line3.specs.Asked.{AreRefused, Asks, Canon, Check, Form, IsFileWord, IsLine, IsUsage, NameFiles, Pack, Same, Show, is_end, names_in, without_end, words_of}
pub use Rattle.line3.specs.declared.asked.LineFault.{LineFault}
pub use Rattle.line3.specs.declared.asked.LineFault.TheVariants.{Memory, NotText, Odd, SameName, Usage}
