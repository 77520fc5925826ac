-- Blocks of a recording in the format pcapng (draft-ietf-opsawg-pcapng).
use Rattle.std.specs.Prelude.{◌≡◌, ◌≢◌, ◌⊎◌, ℕ, ◌+◌, ◌*◌, ◌-◌, ◌%◌, ◌<◌, ◌≤◌, ◌==◌, min, max, if◌then◌else◌, List, length, take, slice_get, Some}
use Rattle.recording3.specs.Clocks.{HasOptions, time_of}
use Rattle.recording3.specs.Pcap.{file_half, file_word}
use Rattle.recording3.specs.Reasons.{Either, When, Never}
use Rattle.recording3.specs.declared.contents.Content as contents
use Rattle.recording3.specs.declared.contents.Content.TheVariants.{Section, Other}
use Rattle.recording3.specs.declared.contents.Content.TheVariants as variants
use Rattle.recording3.specs.declared.contents.Ending.{Ending}
use Rattle.recording3.specs.declared.contents.Ending.TheVariants as endings
use Rattle.recording3.specs.declared.contents.Frame as frames
use Rattle.recording3.specs.declared.contents.RecordingPart.{RecordingPart}
use Rattle.recording3.specs.declared.pcap.Order.{Order}
use Rattle.recording3.specs.declared.pcap.Order.TheVariants.{Big, Little}
use Rattle.recording3.specs.declared.pcapng.Interface as interfaces

-- Block Type, the first word. That of a Section Header Block is the same in both byte orders.
abbrev pub section : ℕ
section = 0x0a0d0d0a

-- Block Type of an Interface Description Block (section 4.2 of the draft)
abbrev pub interface_description : ℕ
interface_description = 1

-- Block Type of an Enhanced Packet Block (section 4.3 of the draft)
abbrev pub enhanced_packet : ℕ
enhanced_packet = 6

-- Block Type of a Simple Packet Block (section 4.4 of the draft)
abbrev pub simple_packet : ℕ
simple_packet = 3

-- Block Type of a Packet Block, which is obsolete (appendix A of the draft)
abbrev pub obsolete_packet : ℕ
obsolete_packet = 2

-- Byte-Order Magic of a section, 0x1a2b3c4d, and the same with its lowest octet first
abbrev pub byte_order_magic : Order → ℕ
byte_order_magic Big = 0x1a2b3c4d
byte_order_magic Little = 0x4d3c2b1a

-- The block has this byte order: that of its section, or its own if it begins one.
pub record HasOrder (old : Order) (bytes : List ℕ) (order : Order) : Type 0 where
  pub whole : 12 ≤ length bytes
  pub own : file_word old bytes 0 ≡ section → file_word Big bytes 8 ≡ byte_order_magic order
  pub kept : file_word old bytes 0 ≢ section → order ≡ old

-- why it has none: the first of these reasons
abbrev pub NoOrder : Order → List ℕ → Ending → Type 0
NoOrder old bytes =
    When (length bytes ≡ 0) endings.End
    (When (length bytes < 12) endings.Cut
    (When
    ((file_word old bytes 0 ≡ section) × (file_word Big bytes 8 ≢ byte_order_magic Big)
    × (file_word Big bytes 8 ≢ byte_order_magic Little)) endings.BadOrder
    Never))

-- Block Total Length, which stands at the end of the block too. A limit of this project: a frame of
-- 2 ^ 24 octets with some options.
abbrev pub longest_block : ℕ
longest_block = 16781312

-- The block has a size, which stands at its front and at its end (section 3.1 of the draft).
pub record IsSized (order : Order) (bytes : List ℕ) (size : ℕ) : Type 0 where
  pub total : size ≡ file_word order bytes 4
  pub words : file_word order bytes 4 % 4 ≡ 0
  pub least : 12 ≤ file_word order bytes 4
  pub limit : file_word order bytes 4 ≤ longest_block
  pub whole : file_word order bytes 4 ≤ length bytes
  pub closes : file_word order bytes (file_word order bytes 4 - 4) ≡ file_word order bytes 4

-- why it has none: the first of these reasons
abbrev pub NoSize : Order → List ℕ → Ending → Type 0
NoSize order bytes =
    When (file_word order bytes 4 % 4 ≢ 0) endings.BadSize
    (When (file_word order bytes 4 < 12) endings.BadSize
    (When (longest_block < file_word order bytes 4) endings.BadSize
    (When (length bytes < file_word order bytes 4) endings.Cut
    (When (file_word order bytes (file_word order bytes 4 - 4) ≢ file_word order bytes 4)
    endings.Unequal
    Never))))

-- An Interface Description Block: LinkType, Reserved, SnapLen, Options.
pub record IsInterface (order : Order) (block : List ℕ) (i : interfaces.Interface) : Type 0 where
  pub least : 20 ≤ length block
  pub link : i.link ≡ file_half order block 8
  pub kept : i.kept ≡ file_word order block 12
  pub clock : HasOptions order (take (length block - 4) block) i.clock

-- why the block is none
abbrev pub NoInterfaceAt : List ℕ → Ending → Type 0
NoInterfaceAt block = When (length block < 20) endings.TooShort Never

-- An Enhanced Packet Block: Interface ID, Timestamp in two words, Captured Packet Length, Original
-- Packet Length, Packet Data. Options may follow. A Packet Block has the same but for a Drops Count
-- in the lower half of its Interface ID. The interface has this number.
pub record IsPacket (order : Order) (described : List interfaces.Interface) (block : List ℕ)
    (number : ℕ) (f : frames.Frame) : Type 0 where
  pub least : 32 ≤ length block
  pub interface : interfaces.Interface
  pub of : slice_get described number ≡ Some interface
  pub fits : 32 + file_word order block 20 ≤ length block
  pub time : f.time ≡
      time_of interface.clock (file_word order block 12 * 4294967296 + file_word order block 16)
  pub link : f.link ≡ interface.link
  -- a frame was no shorter than what was recorded of it
  pub wire : f.wire ≡ max (file_word order block 24) (file_word order block 20)
  pub begin : f.begin ≡ 28
  pub end : f.end ≡ 28 + file_word order block 20

-- why the block has no such frame: the first of these reasons
abbrev pub NoPacket : Order → List interfaces.Interface → List ℕ → ℕ → Ending → Type 0
NoPacket order described block number =
    When (length block < 32) endings.TooShort
    (When (length described ≤ number) endings.NoInterface
    (When (length block < 32 + file_word order block 20) endings.TooLong
    Never))

-- How many octets of a Simple Packet are recorded: as many as there were on the wire, but no more
-- than the interface's SnapLen, unless that is 0, nor than the block has room for.
abbrev pub simple_size : ℕ → ℕ → ℕ → ℕ
simple_size wire kept room = min room (if kept == 0 then wire else min wire kept)

-- A Simple Packet Block: Original Packet Length, Packet Data. It has no time, and is of the first
-- interface.
pub record IsSimple (order : Order) (described : List interfaces.Interface) (block : List ℕ)
    (f : frames.Frame) : Type 0 where
  pub least : 16 ≤ length block
  pub interface : interfaces.Interface
  pub of : slice_get described 0 ≡ Some interface
  pub time : f.time ≡ 0
  pub link : f.link ≡ interface.link
  pub wire : f.wire ≡ file_word order block 8
  pub begin : f.begin ≡ 12
  pub end : f.end ≡ 12 + simple_size (file_word order block 8) interface.kept (length block - 16)

-- why the block has no such frame: the first of these reasons
abbrev pub NoSimple : List interfaces.Interface → List ℕ → Ending → Type 0
NoSimple described block =
    When (length block < 16) endings.TooShort
    (When (length described ≡ 0) endings.NoInterface
    Never)

-- the number of the interface of an Enhanced Packet Block, and of a Packet Block
abbrev pub enhanced_number : Order → List ℕ → ℕ
enhanced_number order block = file_word order block 8

abbrev pub obsolete_number : Order → List ℕ → ℕ
obsolete_number order block = file_half order block 8

-- The content is a value that a relation holds of.
abbrev pub IsOne : {V : Type 0} → (V → contents.Content) → (V → Type 0) → contents.Content → Type 0
IsOne {V} one Holds content = (v : V) × Holds v × (content ≡ one v)

-- what the octets of a block are, by its type
abbrev pub HasContent : Order → List interfaces.Interface → List ℕ → contents.Content → Type 0
HasContent order described block =
    Either (file_word order block 0 ≡ section)
    (λ content. (28 ≤ length block) × (content ≡ Section order))
    (Either (file_word order block 0 ≡ interface_description)
    (IsOne variants.Interface (IsInterface order block))
    (Either (file_word order block 0 ≡ enhanced_packet)
    (IsOne variants.Frame (IsPacket order described block (enhanced_number order block)))
    (Either (file_word order block 0 ≡ obsolete_packet)
    (IsOne variants.Frame (IsPacket order described block (obsolete_number order block)))
    (Either (file_word order block 0 ≡ simple_packet)
    (IsOne variants.Frame (IsSimple order described block))
    (λ content. content ≡ Other)))))

-- why they are none that can be read
abbrev pub LacksContent : Order → List interfaces.Interface → List ℕ → Ending → Type 0
LacksContent order described block =
    Either (file_word order block 0 ≡ section)
    (When (length block < 28) endings.TooShort Never)
    (Either (file_word order block 0 ≡ interface_description)
    (NoInterfaceAt block)
    (Either (file_word order block 0 ≡ enhanced_packet)
    (NoPacket order described block (enhanced_number order block))
    (Either (file_word order block 0 ≡ obsolete_packet)
    (NoPacket order described block (obsolete_number order block))
    (Either (file_word order block 0 ≡ simple_packet)
    (NoSimple described block)
    Never))))

-- A block begins there, in a section of a byte order which described these interfaces. What it is
-- stands in as many octets as it has.
pub record IsBlock (old : Order) (described : List interfaces.Interface) (bytes : List ℕ)
    (part : RecordingPart) : Type 0 where
  pub order : Order
  pub has_order : HasOrder old bytes order
  pub size : IsSized order bytes part.size
  pub content : HasContent order described (take part.size bytes) part.content

-- why none begins there: the first of order, size and content that cannot be read
abbrev pub LacksBlock : Order → List interfaces.Interface → List ℕ → Ending → Type 0
LacksBlock old described bytes why = NoOrder old bytes why
    ⊎ ((o : Order) × HasOrder old bytes o × (NoSize o bytes why
    ⊎ ((s : ℕ) × IsSized o bytes s × LacksContent o described (take s bytes) why)))
