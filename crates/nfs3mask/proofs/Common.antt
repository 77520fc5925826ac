-- The names that most proofs of the crate cite, passed on from one place. Declares nothing.
pub use Rattle.clap.specs.Lexer.{usize_max}
pub use Rattle.clap.specs.Words.{App, Text, app_of, is_simple, takes}
pub use Rattle.line3.specs.Asked.{IsFileWord, IsUsage, NameFiles, names_in, without_end}
pub use Rattle.std.proofs.Common.{Bool, Global, IfErr, IfOk, List, None, Some, String, [], ap, append-nil, append_assoc, ap₂, arith, codes, drop, false, flat_map, fold, get_or, is_some, le-leb, length, map, refl, rules, slice_index_or, string_bytes, subst, suc, sym, take, true, zero, ℕ, ◌&&◌, ◌++◌, ◌+◌, ◌-◌, ◌<◌, ◌==◌, ◌∙◌, ◌∷◌, ◌≡◌, ◌≤◌}
pub use Rattle.nfs3mask.specs.Changes.{change_of, change_text, change_word, changes_of, with_change, ways_after}
pub use Rattle.nfs3mask.specs.MaskLine.{AreMaskWordsRefused, AsksForMask, IsMaskLine, mask_words}
pub use Rattle.nfs3mask.specs.declared.line.asked.Change.{Change}
pub use Rattle.nfs3mask.specs.machinery.ChangeWords.{AreChanges}
pub use Rattle.masking3.specs.Classes.{classes, position, row}
pub use Rattle.masking3.specs.Ways.{usual, way_of}
pub use Rattle.masking3.specs.declared.values.class.Class.{Class}
pub use Rattle.masking3.specs.declared.values.class.Class.TheVariants.{Times}
pub use Rattle.masking3.specs.declared.values.ways.Way.{Way}
pub use Rattle.masking3.specs.declared.values.ways.Way.TheVariants.{Keep}
pub use Rattle.masking3.specs.declared.values.ways.Ways.{Ways}
