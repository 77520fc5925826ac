-- What an entry is written as in the canonical form.
use Rattle.std.specs.Prelude.{◌≡◌, ℕ, Option, List, [], ◌∷◌, ◌++◌, Result, Ok, Err}
use Rattle.std.specs.Io.KnownBytes.{Appends}
use Rattle.std.specs.List.{flat_map}
use Rattle.xdr3.specs.Item.{word_bytes}
use Rattle.capture3.specs.declared.fault.Error.{Error}
use Rattle.capture3.specs.Entry.{Entry}
use Rattle.canon3.specs.declared.canonical_form.message_writer.MessageWriter.{MessageWriter}
use Rattle.canon3.specs.declared.canonical_form.spelling.Spelling.{Spelling}
use Rattle.canon3.specs.declared.canonical_form.spelling.Spelling.TheVariants.{Zero, One, Message}
use Rattle.canon3.specs.Bytes.{chunk_bytes, entry_bytes, record_bytes}
use Rattle.canon3.specs.CanonicalStream.{entries_after}
use Rattle.capture3.specs.OpenXids.{open_xids}
use Rattle.canon3.specs.machinery.MessageWriter.{HoldsBefore, IsGoing, message_of, values_before, values_of, WriterRests}
use Rattle.canon3.specs.SinkWrites.{AppendsFront}
use Rattle.canon3.specs.Values.{handles, verifiers}

-- the word 0, the word 1, or the message with this body
abbrev pub spelling_of : {S H : Type 0} → Spelling → MessageWriter S H → List ℕ
spelling_of Zero n = word_bytes 0
spelling_of One n = word_bytes 1
spelling_of (Message body) n = chunk_bytes (record_bytes (message_of n body.now))

-- the bytes of entries in the canonical form, where they come after others
abbrev pub bytes_after : (entries more : List Entry) → List ℕ
bytes_after entries more =
    flat_map entry_bytes
    (entries_after (handles entries) (verifiers entries) (open_xids [] entries) more)

-- The values are held, and the entry's bytes in the canonical form are told.
pub record HasSpelled {S H : Type 0} (n : MessageWriter S H) (form : Spelling)
    (entries : List Entry) (one : Entry) : Type 0 where
  pub holds : HoldsBefore n (values_of (entries ++ one ∷ []))
  pub spelled : spelling_of form n ≡ bytes_after entries (one ∷ [])

-- the entry's values are held after those before it, and its bytes in the canonical form are
-- written, or a front of them
abbrev pub Follows : {S H : Type 0} → MessageWriter S H → (old new : Option (List ℕ)) → List Entry
    → Entry → {X : Type 0} → Result X Error → Type 0
Follows n old new entries one (Ok x) = IsGoing n
    × WriterRests n (values_before (entries ++ one ∷ []))
    × Appends old new (bytes_after entries (one ∷ []))
Follows n old new entries one (Err error) = AppendsFront old new (bytes_after entries (one ∷ []))
