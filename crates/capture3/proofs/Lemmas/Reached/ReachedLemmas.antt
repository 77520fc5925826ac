-- What a clean prefix reaches, by its parts and by the machine.
use Rattle.capture3.proofs.Common.{◌≡◌, inl, inr, ℕ, suc, ◌+◌, List, [], ◌∷◌, ◌++◌, length, map, refl, sym, ap, ◌∙◌, append_assoc, append-nil, arith, BeginsStream, next_position, server_position, calls_in_turn, replies_to, ReachesInside, AreWhole, InMagic, BetweenConnections, InConnection, Reading, Judgement, HoldsSoFar, Position, reply_entry, Version, One, Two, digit, magic_front, magic, total_size, parsing_in, reading_with, Opening, InClient, InServer, InMixed, opening_entries, Siding}
use Rattle.capture3.specs.Entry.{Entry, Begin, Call, Turn}
use Rattle.capture3.specs.FileMachine.{Mark, Ended, Parsing, emitted, magic_left, spot_entries}
use Rattle.capture3.proofs.Lemmas.Files.FileMachineLemmas.{Stands, AtMagic, AtMark, AtInside, AtEnd, at_mark, inside_at, magic_parts, magic_split}
use Rattle.capture3.proofs.Lemmas.Container.SidedChunksMachineLemmas.{mixed_state}
use Rattle.capture3.proofs.Lemmas.Connections.ConnectionMachineLemmas.{HasOpening}
use Rattle.capture3.proofs.Lemmas.Sides.SideMachineLemmas.{HasSide, side_state}
use Rattle.capture3.proofs.Lemmas.Sides.StreamMachineLemmas.{has_read, holds_so_far}

-- ---- a side

-- the machine in a side that is not whole
module _ {M : Type 0} (judge : Judgement M) (position : Position) (bytes stream : List ℕ) where
  side_messages : (reading : Reading M) (b : BeginsStream position.before bytes stream)
      → (side_state position bytes stream reading b).reading.messages ≡ reading.messages
  side_messages reading (inl b) = refl
  side_messages reading (inr b) = refl

  -- the machine in a side that is not whole
  side_begun : (messages : List M) → BeginsStream position.before bytes stream
      → HoldsSoFar judge stream messages
      → (s : Siding M) × HasSide judge position bytes s × (s.reading.messages ≡ messages)
  side_begun messages b h =
      let read = has_read judge stream messages h in
      let reading : Reading M = reading_with messages read.0 in (
        side_state position bytes stream reading b,
        record { stream = stream; reading = reading; begins = b; read = read.1; is = refl },
        side_messages reading b,
      )

-- and the other way round
begun_side : {M : Type 0} (judge : Judgement M) (position : Position) (bytes : List ℕ)
    (s : Siding M) → HasSide judge position bytes s
    → (stream : List ℕ) × BeginsStream position.before bytes stream
    × HoldsSoFar judge stream s.reading.messages
begun_side judge position bytes s h = (
  h.stream,
  h.begins,
  rw (h.is, side_messages judge position bytes h.stream h.reading h.begins)
      (holds_so_far judge h.stream h.reading h.read),
)

-- ---- a connection

opening_begun : (version : Version) (context : Position) (bytes : List ℕ) (more : List Entry)
    → ReachesInside version context.before bytes more
    → (o : Opening) × HasOpening version context bytes o × (opening_entries o ≡ more)
opening_begun One context bytes more (inl r) =
    let s =
    side_begun calls_in_turn context bytes r.stream r.calls r.begins r.holds in
    (InClient s.0, s.1, ap (λ calls. Begin ∷ map Call calls) s.2 ∙ sym r.entries_are)
opening_begun One context bytes more (inr r) =
    let s =
    side_begun (replies_to r.calls) (server_position context r.front r.client) r.last r.server
    r.replies r.begins r.answers in (
      InServer r.calls s.0,
      record {
        front = r.front;
        last = r.last;
        client = r.client;
        split = r.split;
        first = r.first;
        holds = r.holds;
        fits = r.fits;
        rest = s.1;
      },
      ap (λ replies. (Begin ∷ map Call r.calls) ++ (Turn ∷ map reply_entry replies)) s.2
          ∙ sym r.entries_are,
    )
opening_begun Two context bytes more r =
    (InMixed (mixed_state context bytes r.0), (r.0, refl), sym r.1)

begun_opening : (version : Version) (context : Position) (bytes : List ℕ) (o : Opening)
    → HasOpening version context bytes o
    → ReachesInside version context.before bytes (opening_entries o)
begun_opening One context bytes (InClient s) h =
    let b = begun_side calls_in_turn context bytes s h in
    inl (record {
      stream = b.0;
      calls = s.reading.messages;
      begins = b.1;
      holds = b.2;
      entries_are = refl;
    })
begun_opening One context bytes (InServer calls s) h =
    let b =
    begun_side (replies_to calls) (server_position context h.front h.client) h.last s h.rest in
    inr (record {
      front = h.front;
      last = h.last;
      client = h.client;
      server = b.0;
      calls = calls;
      replies = s.reading.messages;
      split = h.split;
      first = h.first;
      holds = h.holds;
      fits = h.fits;
      begins = b.1;
      answers = b.2;
      entries_are = refl;
    })
begun_opening Two context bytes (InMixed s) h = (h.0, refl)
begun_opening version context bytes o h = absurd h

-- ---- a file

-- where the machine stands, and what it has emitted
pub record StandsAt (bytes : List ℕ) (entries : List Entry) : Type 0 where
  pub state : Parsing
  pub stands : Stands bytes state
  pub emits : emitted state ≡ entries

-- nothing is emitted in the magic
magic_emits : (more : List ℕ) → spot_entries (magic_left more) ≡ []
magic_emits [] = refl
magic_emits (due ∷ more) = refl

part_stands : (bytes more : List ℕ) → magic_front ≡ bytes ++ more → StandsAt bytes []
part_stands bytes more e = record {
  state = parsing_in One (length bytes) 0 0 [] (magic_left more);
  stands = AtMagic more e refl;
  emits = magic_emits more;
}

magic_stands : (bytes : List ℕ) (version : Version) (more : List ℕ) → magic version ≡ bytes ++ more
    → StandsAt bytes []
magic_stands bytes version [] e = record {
  state = at_mark version (length bytes) 0 0 [];
  stands =
      AtMark version bytes [] [] [] (sym (append-nil bytes)) (omega arith)
      (record {
        rest = [];
        split = sym (append-nil bytes) ∙ sym e ∙ sym (append-nil (magic version));
        joined = refl;
        messages = refl;
        few = omega arith;
        small = omega arith;
      }) refl;
  emits = refl;
}
magic_stands bytes version (due ∷ more) e =
    elim (magic_split magic_front bytes (digit version) due more (magic_parts version ∙ e)) [
      | inl l ↦ part_stands bytes (due ∷ l.0) l.1
      | inr r ↦ part_stands bytes [] (r ∙ sym (append-nil bytes))
    ]

pub whole_stands : (bytes : List ℕ) (entries : List Entry) → AreWhole bytes entries
    → StandsAt bytes entries
whole_stands bytes entries (InMagic version more e none) =
    rw none (magic_stands bytes version more e)
whole_stands bytes entries
    (BetweenConnections version front part connections split opens (inl short)) = record {
      state =
          parsing_in version (length front) (total_size connections) (length connections) entries
          (Mark part);
      stands = AtMark version front part connections entries split short opens refl;
      emits = append-nil entries;
    }
whole_stands bytes entries
    (BetweenConnections version front part connections split opens (inr last)) = record {
      state =
          parsing_in version (length bytes) (total_size connections) (length connections) entries
          Ended;
      stands = AtEnd version front part connections entries split opens last refl;
      emits = append-nil entries;
    }
whole_stands bytes entries
    (InConnection version front mark rest connections before more split opens one few inside are) =
    let o = opening_begun version (next_position front connections) rest more inside in
    record {
      state =
          inside_at version (length front + 4) (total_size connections) (suc (length connections))
          before o.0;
      stands =
          AtInside version front mark rest connections before o.0 split opens one few o.1 refl;
      emits = ap (λ (l : List Entry). before ++ l) o.2 ∙ sym are;
    }

pub stands_whole : (bytes : List ℕ) (s : Parsing) → Stands bytes s → AreWhole bytes (emitted s)
stands_whole bytes s (AtMagic more begins is) =
    rw is (InMagic One (more ++ digit One ∷ [])
    (ap (λ (b : List ℕ). b ++ digit One ∷ []) begins ∙ append_assoc bytes more (digit One ∷ []))
    (magic_emits more))
stands_whole bytes s (AtMark version front part connections entries split short opens is) =
    rw (is, append-nil)
    (BetweenConnections version front part connections split opens (inl short))
stands_whole bytes s
    (AtInside version front mark rest connections entries o split opens one few inside is) =
    rw is (InConnection version front mark rest connections entries (opening_entries o) split opens
    one few (begun_opening version (next_position front connections) rest o inside) refl)
stands_whole bytes s (AtEnd version front last connections entries split opens closes is) =
    rw (is, append-nil)
    (BetweenConnections version front last connections split opens (inr closes))
