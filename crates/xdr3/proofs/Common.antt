-- The names that most proofs of the crate cite, passed on from one place. Declares nothing.
pub use Rattle.byteorder.specs.Endian.{big_bytes, big_number}
pub use Rattle.byteorder.specs.Numbers.{big_from-take, length-bytes_high_first}
pub use Rattle.std.proofs.Common.{Bool, Err, List, Ok, Result, [], ap, append_assoc, arith, cond, drop, eqb, false, get_or, inl, inr, length, ltb, map, refl, replicate, subst, suc, sym, take, true, zero, ℕ, ◌++◌, ◌+◌, ◌-◌, ◌<◌, ◌^◌, ◌∙◌, ◌∷◌, ◌≡◌, ◌≤◌, ◌⊎◌}
pub use Rattle.std.proofs.lemmas.Bool.{cases_lt, le-ltb, lt-ltb, ltb-false, ltb-true}
pub use Rattle.std.proofs.lemmas.Grind.{flat_map-append}
pub use Rattle.std.proofs.lemmas.List.{append-nil, drop-drop, drop-take, drop_all, drop_more, length-append, length-drop, length-replicate, length-take, take-append-drop, take_at}
pub use Rattle.std.proofs.lemmas.Result.{err_from_is_err_and}
pub use Rattle.std.specs.List.{AllByRecursion, flat_map}
pub use Rattle.std.specs.Prelude.{⊤}
pub use Rattle.xdr3.specs.Field.{field_items}
pub use Rattle.xdr3.specs.Gives.{Fails, Gives, IsRead}
pub use Rattle.xdr3.specs.Item.{AreBytes, Fixed, Hyper, Item, Kind, Opaque, Rest, Spells, SpellsItem, Word, WriteVerf, residue, word_bytes, zero_spelling, zero_spelling_of}
pub use Rattle.xdr3.specs.Layout.{Layout, RefusesLayout, after, exactly, remaining}
unfoldable pub use Rattle.xdr3.specs.Layout.{reading_layout}
pub use Rattle.xdr3.specs.Reading.{Outcome, from_window, links_at, number_at, opaque_at, refused, run_at, window_at, word_at, ◌>>=◌}
unfoldable pub use Rattle.xdr3.specs.Reading.{reading}
pub use Rattle.xdr3.specs.Reason.{in_window}
unfoldable pub use Rattle.xdr3.specs.Scan.{Scans, ScansWord, Stops, StopsWord}
pub use Rattle.xdr3.specs.Shape.{Fits, IsShort, Reads, Refusal, Refuses, RefusesLink, RefusesWindow, RefusesWord, Shape, Then, ThenWord, both, choose, fixed, hyper, is_at_most, is_bool, linked, links, nothing, opaque, sized, repeated, write_verf}
unfoldable pub use Rattle.xdr3.specs.Shape.{array_named, optional_named}
pub use Rattle.xdr3.specs.View.{MovesOn, View, view_at}
unfoldable pub use Rattle.xdr3.specs.Visit.{Adds, AddsSome, AreWithinLimit}
pub use Rattle.xdr3.specs.declared.reason.GetError.{GetError}
pub use Rattle.xdr3.specs.declared.reason.Reason.{Reason}
pub use Rattle.xdr3.specs.declared.reason.Reason.TheVariants.{AuthLength, BadBool, Short, TooLong}
pub use Rattle.xdr3.specs.declared.reason.Stop.{Stop}
