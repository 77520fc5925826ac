-- Recordings in the format pcap (draft-ietf-opsawg-pcap).
use Rattle.std.specs.Prelude.{◌≡◌, ℕ, ◌+◌, ◌*◌, ◌%◌, ◌<◌, ◌≤◌, max, List, length, drop}
use Rattle.byteorder.specs.Endian.{little_number}
use Rattle.recording3.specs.Octets.{octets}
use Rattle.recording3.specs.Reasons.{When, Never}
use Rattle.recording3.specs.declared.contents.Ending.{Ending}
use Rattle.recording3.specs.declared.contents.Ending.TheVariants as endings
use Rattle.recording3.specs.declared.contents.Frame.{Frame}
use Rattle.recording3.specs.declared.pcap.Form.{Form}
use Rattle.recording3.specs.declared.pcap.Header.{Header}
use Rattle.recording3.specs.declared.pcap.Order.{Order}
use Rattle.recording3.specs.declared.pcap.Order.TheVariants.{Big, Little}
use Rattle.recording3.specs.declared.pcap.Unit as units
use Rattle.recording3.specs.declared.pcap.Unit.TheVariants.{Microseconds, Nanoseconds}

-- a number of 32 bits, in the byte order of the machine that recorded (section 4 of the draft)
unfoldable pub file_word : Order → List ℕ → ℕ → ℕ
file_word Big file at = octets file at 4
file_word Little file at = little_number 4 (drop at file)

-- numbers of 16 and of 64 bits
unfoldable pub file_half : Order → List ℕ → ℕ → ℕ
file_half Big bytes at = octets bytes at 2
file_half Little bytes at = little_number 2 (drop at bytes)

unfoldable pub file_long : Order → List ℕ → ℕ → ℕ
file_long Big bytes at = octets bytes at 8
file_long Little bytes at = little_number 8 (drop at bytes)

-- the Magic Number, 0xa1b2c3d4 or 0xa1b23c4d, and the same with its lowest octet first
abbrev pub pcap_magic : Order → units.Unit → ℕ
pcap_magic Big Microseconds = 0xa1b2c3d4
pcap_magic Big Nanoseconds = 0xa1b23c4d
pcap_magic Little Microseconds = 0xd4c3b2a1
pcap_magic Little Nanoseconds = 0x4d3cb2a1

-- The header of a file: Magic Number, Major Version and Minor Version, Reserved1, Reserved2,
-- SnapLen, and LinkType in the lower 16 bits of the last word.
pub record IsFileHeader (file : List ℕ) (h : Header) : Type 0 where
  pub whole : 24 ≤ length file
  pub magic_number : octets file 0 4 ≡ pcap_magic h.form.order h.form.unit
  pub link_type : h.link ≡ file_word h.form.order file 20 % 65536

-- why it has none: the first of these reasons
abbrev pub LacksFileHeader : List ℕ → Ending → Type 0
LacksFileHeader file =
    When (length file < 4) endings.Cut
    (When ((form : Form) → octets file 0 4 ≡ pcap_magic form.order form.unit → ⊥)
    endings.NotRecording
    (When (length file < 24) endings.Cut
    Never))

-- how many nanoseconds the second word of a Timestamp counts (section 4 of the draft)
abbrev pub nanoseconds : units.Unit → ℕ
nanoseconds Microseconds = 1000
nanoseconds Nanoseconds = 1

-- how many octets of a frame are read at most: 2 ^ 24, a limit of this project
abbrev pub longest_frame : ℕ
longest_frame = 16777216

-- Captured Packet Length
abbrev pub captured : Header → List ℕ → ℕ → ℕ
captured h file at = file_word h.form.order file (at + 8)

-- A Packet Record begins at a place of the file: Timestamp in seconds and in microseconds or
-- nanoseconds, Captured Packet Length, Original Packet Length, Packet Data.
pub record IsFrame (h : Header) (file : List ℕ) (at : ℕ) (frame : Frame) : Type 0 where
  pub whole : at + 16 ≤ length file
  pub link : frame.link ≡ h.link
  pub begin : frame.begin ≡ at + 16
  pub end : frame.end ≡ at + 16 + captured h file at
  pub recorded : at + 16 + captured h file at ≤ length file
  pub limit : captured h file at ≤ longest_frame
  pub time : frame.time ≡ file_word h.form.order file at * 1000000000
      + file_word h.form.order file (at + 4) * nanoseconds h.form.unit
  -- Original Packet Length: a frame was no shorter than what was recorded of it
  pub wire : frame.wire ≡ max (file_word h.form.order file (at + 12)) (captured h file at)

-- why none begins there: the first of these reasons
abbrev pub LacksFrame : Header → List ℕ → ℕ → Ending → Type 0
LacksFrame h file at =
    When (length file ≤ at) endings.End
    (When (length file < at + 16) endings.Cut
    (When (longest_frame < captured h file at) endings.TooLong
    (When (length file < at + 16 + captured h file at) endings.Cut
    Never)))
