-- The packets of frames, with one more frame.
use Rattle.std.proofs.Common.{◌≡◌, ◌∙◌, List, [], ◌∷◌, ◌++◌, Result, Ok, Err, ap, append_assoc, refl, subst, sym, inl, inr}
use Rattle.std.proofs.lemmas.List.{append-nil}
use Rattle.recording3.proofs.Files.OutcomesLemmas.{tallied_more}
use Rattle.recording3.specs.Frames.{Extends}
use Rattle.recording3.specs.Outcomes.{HaveOutcomes, IsOutcome, Tallied, no_outcomes, with_outcome}
use Rattle.recording3.specs.Places.{Passed}
use Rattle.recording3.specs.declared.parts.NoSegment.{NoSegment}
use Rattle.recording3.specs.declared.parts.Segment.{Segment}
use Rattle.connections3.specs.Connections.{ShowsPackets}
use Rattle.connections3.specs.Frames.{HasNotTaken, HasPackets, ShowsFrames, HavePackets, IsOneTooMany}
use Rattle.connections3.specs.declared.connection.Connection.{Connection}
use Rattle.connections3.specs.declared.packets.Packet.{Packet}
use Rattle.connections3.specs.declared.taker.NotTaken.{NotTaken}
use Rattle.connections3.specs.declared.taker.NotTaken.TheVariants.{Long, Memory, TooMany}
use Rattle.connections3.specs.declared.taker.PacketTaker.{PacketTaker}
use Rattle.connections3.specs.machinery.Taking.{IsInRange, packets_in}

have_more : (frames : List Passed) (packets : List Packet) (frame : Passed) (more : List Packet)
    → HavePackets frames packets → HasPackets frame more
    → HavePackets (frames ++ frame ∷ []) (packets ++ more)
have_more [] packets frame more e h =
    (more, [], h, refl, ap (λ (z : List Packet). z ++ more) e ∙ sym (append-nil more))
have_more (f ∷ frames) packets frame more (first, later, i, j, e) h = (
  first,
  later ++ more,
  i,
  have_more frames later frame more j h,
  ap (λ (z : List Packet). z ++ more) e ∙ append_assoc first later more,
)

pub taken_more : (old new : PacketTaker) (before : List Passed) (frame : Passed)
    (more : List Packet) (outcome : Result Segment NoSegment) → HasPackets frame more
    → IsOutcome frame outcome → new.tally ≡ with_outcome old.tally outcome
    → ((packets : List Packet) → ShowsPackets old.connections packets
    → ShowsPackets new.connections (packets ++ more))
    → ShowsFrames old before → ShowsFrames new (before ++ frame ∷ [])
taken_more old new before frame more outcome has is counts shows h =
    record {
      packets = h.packets ++ more;
      have = have_more before h.packets frame more h.have has;
      shows = shows h.packets h.shows;
      tallied = subst (Tallied (before ++ frame ∷ [])) (sym counts)
          (tallied_more before old.tally frame outcome h.tallied is);
    }

has_packets : (frame : Passed) (outcome : Result Segment NoSegment) → IsOutcome frame outcome
    → IsInRange frame.head outcome → HasPackets frame (packets_in frame.head outcome)
has_packets frame (Ok s) is range = inl (s, is, range, refl)
has_packets frame (Err why) is range = inr (why, is, refl)

-- a frame was taken
pub frame_taken : (old new : PacketTaker) (frame : Passed) (outcome : Result Segment NoSegment)
    → IsOutcome frame outcome → IsInRange frame.head outcome
    → new.tally ≡ with_outcome old.tally outcome
    → ((packets : List Packet) → ShowsPackets old.connections packets
    → ShowsPackets new.connections (packets ++ packets_in frame.head outcome))
    → Extends (ShowsFrames old) (ShowsFrames new) (frame ∷ [])
unfolding Extends
frame_taken old new frame outcome is range counts shows = λ before h.
    taken_more old new before frame (packets_in frame.head outcome) outcome
    (has_packets frame outcome is range) is counts shows h

-- it was not, for memory
pub frame_left : (old new : PacketTaker) (frame : Passed) → new ≡ old
    → Extends (ShowsFrames old) (HasNotTaken new Memory) (frame ∷ [])
unfolding Extends
frame_left old new frame e = λ before h. record {
  front = before;
  last = frame;
  split = refl;
  leaves = subst (λ (t : PacketTaker). ShowsFrames t before) (sym e) h;
}

-- for a stream that is too long
pub frame_long : (old new : PacketTaker) (frame : Passed) → new.tally ≡ old.tally
    → Extends (ShowsFrames old) (HasNotTaken new Long) (frame ∷ [])
unfolding Extends
frame_long old new frame e = λ before h. record {
  front = before;
  last = frame;
  split = refl;
  leaves = subst (Tallied before) (sym e) h.tallied;
}

-- for a limit
pub frame_beyond : (old new : PacketTaker) (frame : Passed) → new ≡ old → IsOneTooMany old frame
    → Extends (ShowsFrames old) (HasNotTaken new TooMany) (frame ∷ [])
unfolding Extends
frame_beyond old new frame e beyond = λ before h. record {
  front = before;
  last = frame;
  split = refl;
  leaves = (
    subst (λ (t : PacketTaker). ShowsFrames t before) (sym e) h,
    subst (λ (t : PacketTaker). IsOneTooMany t frame) (sym e) beyond,
  );
}

pub is_too_many : (taker : PacketTaker) (frame : Passed) (outcome : Result Segment NoSegment)
    → IsOutcome frame outcome → (IsInRange frame.head outcome → ⊥) → IsOneTooMany taker frame
is_too_many taker frame (Ok s) is lacks = inr (s, is, lacks)
is_too_many taker frame (Err why) is lacks = absurd (lacks tt)

pub frame_not_taken : (old : PacketTaker) (connections : List Connection) (error : NotTaken)
    (frame : Passed) (outcome : Result Segment NoSegment) → IsOutcome frame outcome
    → (error ≡ Memory → connections ≡ old.connections)
    → (error ≡ TooMany
    → (connections ≡ old.connections) × (IsInRange frame.head outcome → ⊥))
    → Extends (ShowsFrames old)
    (HasNotTaken (record { connections = connections; tally = old.tally }) error) (frame ∷ [])
frame_not_taken old connections Memory frame outcome is m t =
    frame_left old (record { connections = connections; tally = old.tally }) frame
    (ap (λ (c : List Connection). record { connections = c; tally = old.tally }) (m refl))
frame_not_taken old connections Long frame outcome is m t =
    frame_long old (record { connections = connections; tally = old.tally }) frame refl
frame_not_taken old connections TooMany frame outcome is m t =
    let h = t refl in
    frame_beyond old (record { connections = connections; tally = old.tally }) frame
    (ap (λ (c : List Connection). record { connections = c; tally = old.tally }) h.0)
    (is_too_many old frame outcome is h.1)

pub nothing_taken : (taker : PacketTaker) → ShowsPackets taker.connections []
    → taker.tally ≡ no_outcomes → ShowsFrames taker []
unfolding HaveOutcomes
nothing_taken taker shows counts = record {
  packets = [];
  have = refl;
  shows = shows;
  tallied = record { outcomes = []; each = refl; counts = counts };
}
