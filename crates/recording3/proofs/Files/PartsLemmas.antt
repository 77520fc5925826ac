-- A part is read alike with and without the bytes behind it.
use Rattle.std.proofs.Common.{◌≡◌, ℕ, ◌+◌, ◌-◌, ◌%◌, ◌≤◌, ◌<◌, ◌∙◌, List, [], ◌∷◌, length, take, drop, slice_index, refl, sym, ap, subst, inl, inr, take-take, arith}
use Rattle.std.proofs.lemmas.List.{drop-take, get_or-drop, get_or-take, length-take}
use Rattle.recording3.specs.Octets.{octets}
use Rattle.recording3.specs.Pcap.{IsFrame, IsFileHeader, file_word}
use Rattle.recording3.specs.Pcapng.{HasOrder, IsBlock, IsSized}
use Rattle.recording3.specs.Places.{BeginsSection, HasPart, IsPart, ReadingPlace, frames_of}
use Rattle.recording3.specs.machinery.Reached.{IsFrameInside}
use Rattle.recording3.specs.declared.contents.Content.{Content}
use Rattle.recording3.specs.declared.contents.Content.TheVariants as contents
use Rattle.recording3.specs.declared.contents.Frame as frames
use Rattle.recording3.specs.declared.contents.RecordingPart.{RecordingPart}
use Rattle.recording3.specs.declared.pcap.Header as headers
use Rattle.recording3.specs.declared.pcap.Order.{Order}
use Rattle.recording3.specs.declared.pcap.Order.TheVariants.{Big, Little}
use Rattle.recording3.specs.declared.pcapng.Interface as interfaces
use Rattle.recording3.specs.declared.places.Format.{Format}
use Rattle.recording3.specs.declared.places.Format.TheVariants.{Unknown, Pcap, Pcapng}

octet-take : (bytes : List ℕ) (n at i : ℕ) → at + i < n
    → slice_index (drop at (take n bytes)) i ≡ slice_index (drop at bytes) i
octet-take bytes n at i l =
    get_or-drop at (take n bytes) i 0 ∙ get_or-take n bytes (at + i) 0 l
    ∙ sym (get_or-drop at bytes i 0)

-- a number is the same in a front of the bytes that has it
word-take : (o : Order) (bytes : List ℕ) (n at : ℕ) → at + 4 ≤ n
    → file_word o (take n bytes) at ≡ file_word o bytes at
unfolding file_word octets
word-take Big bytes n at l =
    rw (
      octet-take bytes n at 0 (omega arith),
      octet-take bytes n at 1 (omega arith),
      octet-take bytes n at 2 (omega arith),
      octet-take bytes n at 3 (omega arith),
    ) refl
word-take Little bytes n at l =
    rw (
      octet-take bytes n at 0 (omega arith),
      octet-take bytes n at 1 (omega arith),
      octet-take bytes n at 2 (omega arith),
      octet-take bytes n at 3 (omega arith),
    ) refl

number-take : (bytes : List ℕ) (n : ℕ) → 4 ≤ n → octets (take n bytes) 0 4 ≡ octets bytes 0 4
unfolding file_word
number-take bytes n l = word-take Big bytes n 0 (omega arith)

pub length_front : (n : ℕ) (bytes : List ℕ) → n ≤ length bytes → length (take n bytes) ≡ n
length_front n bytes l = let e = length-take n bytes in omega arith

-- a front of itself
front_alone : (n : ℕ) (bytes : List ℕ) → n ≤ length bytes → take n (take n bytes) ≡ take n bytes
front_alone n bytes l = take-take n n bytes (omega arith)

header_alone : (bytes : List ℕ) (h : headers.Header) → IsFileHeader bytes h
    → IsFileHeader (take 24 bytes) h
header_alone bytes h i =
    let w = i.whole in
    let n = length_front 24 bytes w in
    let m = number-take bytes 24 (omega arith) in
    let k = word-take h.form.order bytes 24 20 (omega arith) in
    record {
      whole = omega arith;
      magic_number = m ∙ i.magic_number;
      link_type = i.link_type ∙ sym (ap (λ n. n % 65536) k);
    }

frame_alone : (h : headers.Header) (bytes : List ℕ) (f : frames.Frame) → IsFrame h bytes 0 f
    → IsFrame h (take f.end bytes) 0 f
frame_alone h bytes f i =
    let e = i.end in
    let r = i.recorded in
    let n : length (take f.end bytes) ≡ f.end = length_front f.end bytes (omega arith) in
    let t = word-take h.form.order bytes f.end 0 (omega arith) in
    let u = word-take h.form.order bytes f.end (0 + 4) (omega arith) in
    let c = word-take h.form.order bytes f.end (0 + 8) (omega arith) in
    let w = word-take h.form.order bytes f.end (0 + 12) (omega arith) in
    record {
      whole = omega arith;
      link = i.link;
      begin = i.begin;
      end = rw c i.end;
      recorded = rw c (omega arith);
      limit = rw c i.limit;
      time = rw (t, u) i.time;
      wire = rw (w, c) i.wire;
    }

order_alone : (old order : Order) (bytes : List ℕ) (size : ℕ) → 12 ≤ size → size ≤ length bytes
    → HasOrder old bytes order → HasOrder old (take size bytes) order
order_alone old order bytes size l m h =
    let n = length_front size bytes m in
    let a = word-take old bytes size 0 (omega arith) in
    let b = word-take Big bytes size 8 (omega arith) in
    record {
      whole = omega arith;
      own = λ e. b ∙ h.own (sym a ∙ e);
      kept = λ e. h.kept (λ s. e (a ∙ s));
    }

size_alone : (order : Order) (bytes : List ℕ) (size : ℕ) → IsSized order bytes size
    → IsSized order (take size bytes) size
size_alone order bytes size h =
    let t = h.total in let k = h.least in let w = h.whole in
    let n : length (take size bytes) ≡ size = length_front size bytes (omega arith) in
    let a = word-take order bytes size 4 (omega arith) in
    let b = word-take order bytes size (file_word order bytes 4 - 4) (omega arith) in
    record {
      total = rw a h.total;
      words = rw a h.words;
      least = rw a h.least;
      limit = rw a h.limit;
      whole = rw a (omega arith);
      closes = rw a (b ∙ h.closes);
    }

block_alone : (old : Order) (described : List interfaces.Interface) (bytes : List ℕ)
    (part : RecordingPart)
    → IsBlock old described bytes part → IsBlock old described (take part.size bytes) part
block_alone old described bytes part h =
    let s = h.size in
    let t = s.total in let k = s.least in let w = s.whole in
    record {
      order = h.order;
      has_order =
          order_alone old h.order bytes part.size (omega arith) (omega arith) h.has_order;
      size = size_alone h.order bytes part.size s;
      content = rw (front_alone part.size bytes (omega arith)) h.content;
    }

begins_alone : (bytes : List ℕ) (size : ℕ) → 4 ≤ size → size ≤ length bytes → BeginsSection bytes
    → BeginsSection (take size bytes)
begins_alone bytes size l m b =
    let n = length_front size bytes m in (omega arith, number-take bytes size l ∙ b.1)

not_alone : (bytes : List ℕ) (size : ℕ) → 4 ≤ size → size ≤ length bytes
    → (BeginsSection bytes → ⊥) → BeginsSection (take size bytes) → ⊥
not_alone bytes size l m n b = n (omega arith, sym (number-take bytes size l) ∙ b.1)

has_alone : (format : Format) (described : List interfaces.Interface) (bytes : List ℕ)
    (part : RecordingPart)
    → HasPart format described bytes part → HasPart format described (take part.size bytes) part
has_alone Unknown described bytes part (inl (b, k)) =
    let s = k.size in let t = s.total in let l = s.least in let w = s.whole in
    inl (
      begins_alone bytes part.size (omega arith) (omega arith) b,
      block_alone Little described bytes part k,
    )
has_alone Unknown described bytes part (inr (n, (h, i, e))) =
    let w = i.whole in
    subst (λ (x : RecordingPart). HasPart Unknown described (take x.size bytes) x) (sym e)
    (inr (not_alone bytes 24 (omega arith) w n, (h, header_alone bytes h i, refl)))
has_alone (Pcap h) described bytes part (f, i, e) =
    subst (λ (x : RecordingPart). HasPart (Pcap h) described (take x.size bytes) x) (sym e)
    (f, frame_alone h bytes f i, refl)
has_alone (Pcapng order) described bytes part k = block_alone order described bytes part k

pub part_alone : (p : ReadingPlace) (bytes : List ℕ) (part : RecordingPart) → IsPart p bytes part
    → IsPart p (take part.size bytes) part
part_alone p bytes part i =
    record {
      near = i.near;
      few = i.few;
      has = has_alone p.format p.interfaces bytes part i.has;
    }

octets_alone : (bytes : List ℕ) (begin end size : ℕ) → begin ≤ end → end ≤ size
    → take (end - begin) (drop begin (take size bytes)) ≡ take (end - begin) (drop begin bytes)
octets_alone bytes begin end size l m =
    let s : begin + (size - begin) ≡ size = omega arith in
    let d = rw s at (drop-take begin (size - begin) bytes) in
    ap (λ (xs : List ℕ). take (end - begin) xs) d
    ∙ take-take (end - begin) (size - begin) (drop begin bytes) (omega arith)

pub frames_alone : (p : ReadingPlace) (bytes : List ℕ) (content : Content) (size : ℕ)
    → IsFrameInside content size → frames_of p (take size bytes) content ≡ frames_of p bytes content
frames_alone p bytes (contents.Header h) size w = refl
frames_alone p bytes (contents.Section order) size w = refl
frames_alone p bytes (contents.Interface i) size w = refl
frames_alone p bytes (contents.Frame f) size w =
    ap (λ (xs : List ℕ). record {
      head = record {
        number = p.frames + 1;
        offset = p.offset;
        at = p.offset + f.begin;
        time = f.time;
        link = f.link;
        wire = f.wire;
      };
      octets = xs;
    } ∷ []) (octets_alone bytes f.begin f.end size w.0 w.1)
frames_alone p bytes contents.Other size w = refl
