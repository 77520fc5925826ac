-- Where a reading of a recording stands, and the parts that begin there.
use Rattle.std.specs.Prelude.{◌≡◌, ◌⊎◌, ℕ, ◌+◌, ◌-◌, ◌^◌, ◌<◌, ◌≤◌, List, [], ◌∷◌, ◌++◌, length, take, drop}
use Rattle.recording3.specs.Octets.{octets}
use Rattle.recording3.specs.Pcap.{IsFileHeader, IsFrame, LacksFileHeader, LacksFrame}
use Rattle.recording3.specs.Pcapng.{IsBlock, LacksBlock, section}
use Rattle.recording3.specs.Reasons.{Either, When}
use Rattle.recording3.specs.declared.contents.Content.{Content}
use Rattle.recording3.specs.declared.contents.Content.TheVariants as contents
use Rattle.recording3.specs.declared.contents.Ending.{Ending}
use Rattle.recording3.specs.declared.contents.Ending.TheVariants.{End, Cut, TooMany}
use Rattle.recording3.specs.declared.contents.Frame as frames
use Rattle.recording3.specs.declared.contents.RecordingPart.{RecordingPart}
use Rattle.recording3.specs.declared.frames.FrameHead.{FrameHead}
use Rattle.recording3.specs.declared.pcap.Header as headers
use Rattle.recording3.specs.declared.pcap.Order.TheVariants.{Little}
use Rattle.recording3.specs.declared.pcapng.Interface as interfaces
use Rattle.recording3.specs.declared.places.Format.{Format}
use Rattle.recording3.specs.declared.places.Format.TheVariants.{Unknown, Pcap, Pcapng}

pub record ReadingPlace : Type 0 where
  -- what the next part is
  pub format : Format
  -- the interfaces that the section described so far
  pub interfaces : List interfaces.Interface
  -- how many frames came so far, with those of earlier files
  pub frames : ℕ
  -- how many octets of the file were read
  pub offset : ℕ

-- the front of a file, before which so many frames came in others
abbrev pub at_front : ℕ → ReadingPlace
at_front before = record { format = Unknown; interfaces = []; frames = before; offset = 0 }

-- the type of a Section Header Block, which is the Magic Number of pcapng
abbrev pub BeginsSection : List ℕ → Type 0
BeginsSection bytes = (4 ≤ length bytes) × (octets bytes 0 4 ≡ section)

-- The bytes begin with a part of a format. A file begins with a section of pcapng, or with a header
-- of pcap.
abbrev pub HasPart : Format → List interfaces.Interface → List ℕ → RecordingPart → Type 0
HasPart Unknown described bytes =
    Either (BeginsSection bytes) (IsBlock Little described bytes)
    (λ part. (h : headers.Header) × IsFileHeader bytes h
    × (part ≡ record { content = contents.Header h; size = 24 }))
HasPart (Pcap h) described bytes = λ part. (f : frames.Frame) × IsFrame h bytes 0 f
    × (part ≡ record { content = contents.Frame f; size = f.end })
HasPart (Pcapng order) described bytes = IsBlock order described bytes

-- why they begin with none
abbrev pub LacksPartOf : Format → List interfaces.Interface → List ℕ → Ending → Type 0
LacksPartOf Unknown described bytes =
    Either (BeginsSection bytes) (LacksBlock Little described bytes) (LacksFileHeader bytes)
LacksPartOf (Pcap h) described bytes = LacksFrame h bytes 0
LacksPartOf (Pcapng order) described bytes = LacksBlock order described bytes

-- how many frames and how many octets are read at most: a limit of this project
abbrev pub most : ℕ
most = 2 ^ 63

-- The bytes that follow a position begin with a part.
pub record IsPart (p : ReadingPlace) (bytes : List ℕ) (part : RecordingPart) : Type 0 where
  pub near : p.offset < most
  pub few : p.frames < most
  pub has : HasPart p.format p.interfaces bytes part

-- why they begin with none: the first of these reasons
abbrev pub LacksPart : ReadingPlace → List ℕ → Ending → Type 0
LacksPart p bytes =
    When (most ≤ p.offset) TooMany
    (When (most ≤ p.frames) TooMany
    (LacksPartOf p.format p.interfaces bytes))

-- more bytes may change that no part begins there
abbrev pub MayGoOn : Ending → Type 0
MayGoOn why = (why ≡ End) ⊎ (why ≡ Cut)

-- what the next part is, behind one
abbrev pub format_after : Format → Content → Format
format_after old (contents.Header h) = Pcap h
format_after old (contents.Section order) = Pcapng order
format_after old _ = old

-- the interfaces of the section, behind a part
abbrev pub interfaces_after : List interfaces.Interface → Content → List interfaces.Interface
interfaces_after old (contents.Section order) = []
interfaces_after old (contents.Interface i) = old ++ i ∷ []
interfaces_after old _ = old

-- how many frames came, with that of a part
abbrev pub frames_after : ℕ → Content → ℕ
frames_after n (contents.Frame f) = n + 1
frames_after n _ = n

-- behind a part
abbrev pub behind : ReadingPlace → RecordingPart → ReadingPlace
behind p part = record {
  format = format_after p.format part.content;
  interfaces = interfaces_after p.interfaces part.content;
  frames = frames_after p.frames part.content;
  offset = p.offset + part.size;
}

-- a frame as it is passed on: what is known of it, and the octets that were recorded
pub record Passed : Type 0 where
  pub head : FrameHead
  pub octets : List ℕ

-- The frames of a part, one or none. A frame's number counts from 1, its offset is where its part
-- begins, and its octets lie in the part.
abbrev pub frames_of : ReadingPlace → List ℕ → Content → List Passed
frames_of p bytes (contents.Frame f) = record {
  head = record {
    number = p.frames + 1;
    offset = p.offset;
    at = p.offset + f.begin;
    time = f.time;
    link = f.link;
    wire = f.wire;
  };
  octets = take (f.end - f.begin) (drop f.begin bytes);
} ∷ []
frames_of p bytes _ = []
