-- Many bytes at once: those of a word, and those of a chunk.
use Rattle.capture3.proofs.Common.{◌≡◌, ℕ, ◌+◌, ◌<◌, List, [], ◌++◌, length, refl, sym, ap, ◌∙◌, Goes, Ends, Runs, Stops, after, landed, within, IsWord, word_next, Joining, after-append, nested_runs, nested_stops, word_runs, word_stops, Side, Streams, with_more, SideWord, SideLength, awaiting_side, measured, mixed_next, sided, Unpacking, mixed_at, mixed_ended, mixed_on, unpack_next, unpacking_with, mixing_in, opened_word, word_read}
use Rattle.capture3.specs.declared.container.position.counts.Counts.{Counts}
use Rattle.capture3.specs.declared.container.position.spot.WordOf.{WordOf}
use Rattle.capture3.specs.declared.container.position.spot.WordOf.TheVariants as words
use Rattle.capture3.proofs.Lemmas.Container.SidedChunksMachineLemmas.{chunk_bytes}

-- from a part of a word
from_part : (part bytes : List ℕ) → length part < 4
    → after word_next (Runs part) bytes ≡ after word_next (Runs []) (part ++ bytes)
from_part part bytes short =
    ap (λ r. after word_next r bytes) (sym (word_runs part short))
    ∙ sym (after-append word_next (Runs []) part bytes)

-- where this word is open, with its bytes so far
abbrev with_word : WordOf → Counts → Streams → Joining → List ℕ → Unpacking
with_word word c streams joining part =
    unpacking_with c.at c.total c.connections c.records (opened_word streams word part) joining

-- a byte of a word
word_commutes : (word : WordOf) (c : Counts) (streams : Streams) (joining : Joining)
    (part : List ℕ) (byte : ℕ)
    → unpack_next (with_word word c streams joining part) byte
    ≡ within (with_word word c streams joining) (word_read word c streams joining)
    (word_next part byte)
word_commutes (words.Mark version) c streams joining part byte = refl
word_commutes (words.Length side) c streams joining part byte = refl
word_commutes words.Side c streams joining part byte =
    elim (word_next part byte) as (λ n.
    mixed_on c.connections c.records joining
    (within (λ p. mixing_in c.at c.total streams (SideWord p)) (sided c.at c.total streams) n)
    ≡ within (with_word words.Side c streams joining) (word_read words.Side c streams joining) n)
    [ Goes p ↦ refl | Ends n ↦ refl ]
word_commutes (words.SideLength side) c streams joining part byte =
    elim (word_next part byte) as (λ n.
    mixed_on c.connections c.records joining
    (within (λ p. mixing_in c.at c.total streams (SideLength side p))
    (measured c.at c.total streams side) n)
    ≡ within (with_word (words.SideLength side) c streams joining)
    (word_read (words.SideLength side) c streams joining) n)
    [ Goes p ↦ refl | Ends n ↦ refl ]

-- a word that is open, with more of its bytes
module _ (word : WordOf) (c : Counts) (streams : Streams) (joining : Joining)
    (part bytes : List ℕ) (short : length part < 4) where
  pub word_goes_on : (longer : List ℕ) → longer ≡ part ++ bytes → length longer < 4
      → after unpack_next (Runs (with_word word c streams joining part)) bytes
      ≡ Runs (with_word word c streams joining longer)
  word_goes_on longer is still =
      nested_runs word_next unpack_next (with_word word c streams joining)
      (word_read word c streams joining) (word_commutes word c streams joining) bytes part longer
      (from_part part bytes short ∙ ap (after word_next (Runs [])) (sym is)
      ∙ word_runs longer still)

  pub word_ends : (n : ℕ) → IsWord (part ++ bytes) n
      → after unpack_next (Runs (with_word word c streams joining part)) bytes
      ≡ landed (word_read word c streams joining n)
  word_ends n (four, is) =
      nested_stops word_next unpack_next (with_word word c streams joining)
      (word_read word c streams joining) (word_commutes word c streams joining) bytes part n
      (from_part part bytes short ∙ word_stops (part ++ bytes) four ∙ ap Stops is)

-- bytes of a chunk are kept, all at once
pub side_chunk_kept : (at total connections records : ℕ) (streams : Streams) (side : Side)
    (joining : Joining) (got : List ℕ) (n m : ℕ) → n ≡ length got + m
    → after unpack_next
    (Runs
    (mixed_at connections records joining (mixing_in at total streams (awaiting_side side n))))
    got
    ≡ Runs (mixed_at connections records joining
    (mixing_in at total (with_more streams side got) (awaiting_side side m)))
side_chunk_kept at total connections records streams side joining got n m size =
    nested_runs mixed_next unpack_next (mixed_at connections records joining)
    (mixed_ended connections joining) (λ s byte. refl) got
    (mixing_in at total streams (awaiting_side side n))
    (mixing_in at total (with_more streams side got) (awaiting_side side m))
    (chunk_bytes at total streams side got n m size)
