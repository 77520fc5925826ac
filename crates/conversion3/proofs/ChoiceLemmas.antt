-- The first bytes of a call.
use Rattle.std.proofs.Common.{◌≡◌, ◌≢◌, ◌≤◌, ◌<◌, ◌^◌, ℕ, ◌+◌, ◌-◌, false, true, List, [], ◌∷◌, ◌++◌, Option, None, Some, length, get_or, take, drop, sym, ap, ◌∙◌, subst, arith, inl, inr}
use Rattle.std.specs.Option.{MatchOption, is_some}
use Rattle.std.proofs.lemmas.Bool.{cases_lt, false≢true}
use Rattle.std.proofs.lemmas.Grind.{same_number_lists}
use Rattle.std.proofs.lemmas.List.{append-nil, drop-take, length-append, length-take}
use Rattle.payload3.specs.Readings.{GivesPayload, PayloadReads, trail_of}
use Rattle.payload3.proofs.TrailLemmas.{same_runs}
use Rattle.streams3.specs.declared.runs.MissingBytes.{MissingBytes}
use Rattle.streams3.specs.declared.runs.Run.{Run}
use Rattle.streams3.specs.declared.segments.Mark.{Mark}
use Rattle.streams3.specs.declared.segments.Marks.{Marks}
use Rattle.streams3.specs.Content.{AreIn, AreStreamBytes, content_of}
use Rattle.streams3.specs.Order.{AreBetween, HasNoGap, IsGap, IsOrderOf, Ordered}
use Rattle.streams3.specs.Runs.{HasBytes, Lie, spot_in, spot_of}
use Rattle.streams3.specs.Streams.{Shown}
use Rattle.streams3.proofs.BetweenLemmas.{above_it, below_it}
use Rattle.streams3.proofs.LawsLemmas.{are_bytes}
use Rattle.streams3.proofs.RunsLemmas.{none_above, none_below, or_none_right, shown, some_none}
use Rattle.conversion3.specs.Choice.{BeginsWithCall, call_words}
use Rattle.conversion3.specs.machinery.Heads.{HasCallWords}

-- ---- bytes of runs that were read

-- what was read of runs into a block of 17 bytes
pub record HasRead (file : List ℕ) (runs : List Run) (block : List ℕ) (count : ℕ) : Type 0 where
  pub left : List ℕ
  pub content : content_of file runs ≡ take count block ++ left
  pub size : length (take count block) ≡ count
  pub all : count < 17 → left ≡ []
  pub within : count < 17 → AreIn file runs

pub has_read : (file : List ℕ) (old reads : PayloadReads) (runs : List Run) (block : List ℕ)
    (count : ℕ)
    → old ≡ record { runs = runs; readings = []; given = []; failures = 0; is_spent = false }
    → length block ≡ 17 → count ≤ 17 → (count < 17 → reads.is_spent ≡ true)
    → trail_of reads ≡ trail_of old ++ take count block → GivesPayload reads file
    → HasRead file runs block count
has_read file old reads runs block count is size few spent trail gives =
    let same =
    same_runs old reads (take count block) (ap (λ (r : PayloadReads). r.given) is) trail in
    let own : reads.runs ≡ runs = same.runs ∙ ap (λ (r : PayloadReads). r.runs) is in
    record {
      left = gives.left;
      content =
          ap (content_of file) (sym own) ∙ gives.first
          ∙ ap (λ (l : List ℕ). l ++ gives.left) same.given;
      size = omega (arith, length-take count block, size, few);
      all = λ lt. gives.all (spent lt);
      within = λ lt. subst (AreIn file) own (gives.within (spent lt));
    }

-- runs of 16 bytes were read
read_all : (file : List ℕ) (runs : List Run) (block : List ℕ) → HasRead file runs block 16
    → content_of file runs ≡ take 16 block
read_all file runs block read =
    read.content ∙ ap (λ (l : List ℕ). take 16 block ++ l) (read.all (omega arith))
    ∙ append-nil (take 16 block)

pub has_words : (file : List ℕ) (runs : List Run) (block : List ℕ) (count : ℕ) → count ≡ 16
    → HasRead file runs block count → take 8 (drop 8 block) ≡ call_words → HasCallWords file runs
has_words file runs block count is read words =
    let all = read_all file runs block (subst (HasRead file runs block) is read) in
    record {
      count =
          ap (λ (l : List ℕ). length l) all
          ∙ subst (λ (n : ℕ). length (take n block) ≡ n) is read.size;
      words = ap (drop 8) all ∙ drop-take 8 8 block ∙ words;
    }

pub words_are : (file : List ℕ) (runs : List Run) (block : List ℕ) (count : ℕ) → count ≡ 16
    → HasRead file runs block count → HasCallWords file runs → take 8 (drop 8 block) ≡ call_words
words_are file runs block count is read has =
    sym (drop-take 8 8 block)
    ∙ ap (drop 8) (sym (read_all file runs block (subst (HasRead file runs block) is read)))
    ∙ has.words

-- as many bytes as were read, and more only if all of the block was
read_size : (file : List ℕ) (runs : List Run) (block : List ℕ) (count : ℕ)
    → HasRead file runs block count → (count < 17 → length (content_of file runs) ≡ count)
    × (count ≤ length (content_of file runs))
read_size file runs block count read =
    let size : length (content_of file runs) ≡ count + length read.left =
    ap (λ (l : List ℕ). length l) read.content
    ∙ length-append (take count block) read.left
    ∙ ap (λ (n : ℕ). n + length read.left) read.size in (
      λ lt.
          let none : length read.left ≡ 0 = ap (λ (l : List ℕ). length l) (read.all lt) in
          omega (arith, size, none),
      omega (arith, size),
    )

pub read_16 : (file : List ℕ) (runs : List Run) (block : List ℕ) (count : ℕ) → count ≤ 17
    → HasRead file runs block count → HasCallWords file runs → count ≡ 16
read_16 file runs block count few read has =
    let size = read_size file runs block count read in
    elim (cases_lt count 17) [
      | inl lt ↦ omega (arith, size.0 lt, has.count)
      | inr le ↦ absurd (omega (arith, size.1, has.count, le))
    ]

pub read_within : (file : List ℕ) (runs : List Run) (block : List ℕ) (count : ℕ)
    → HasRead file runs block count → length (content_of file runs) ≤ 16 → AreIn file runs
read_within file runs block count read few =
    let size = read_size file runs block count read in
    read.within (omega (arith, size.1, few))

-- ---- the begin of a stream

-- runs between two positions have at most as many bytes
content_most : (runs : List Run) (file : List ℕ) (from to low high : ℕ) → Lie low high runs
    → ((p : ℕ) → p < from → spot_of runs p ≡ None)
    → ((p : ℕ) → to ≤ p → spot_of runs p ≡ None) → length (content_of file runs) ≤ to - from
content_most [] file from to low high l below above = omega arith
content_most (run ∷ runs) file from to low high l below above =
    let sound : HasBytes run = l.1.0 in
    let end = run.position + run.size in
    let there : (p : ℕ) → run.position ≤ p → p < end → spot_of (run ∷ runs) p ≢ None =
    λ p from_it to_it. shown (run ∷ runs) 0 run p (omega arith) from_it to_it in
    let begins : from ≤ run.position =
    elim (cases_lt run.position from) [
      | inl lt ↦
          absurd (there run.position (omega arith) (omega (arith, sound.0))
          (below run.position lt))
      | inr le ↦ le
    ] in
    let ends : end ≤ to =
    elim (cases_lt (end - 1) to) [
      | inl lt ↦ omega (arith, lt, sound.0)
      | inr le ↦
          absurd (there (end - 1) (omega (arith, sound.0)) (omega (arith, sound.0))
          (above (end - 1) le))
    ] in
    let rest =
    content_most runs file end to end high l.1.1
    (λ p lt. none_below runs p end high l.1.1 lt)
    (λ p le. or_none_right (spot_in run p) (spot_of runs p) (above p le)) in
    let bytes = take run.size (drop run.at file) in
    omega (
      arith,
      rest,
      begins,
      ends,
      length-append bytes (content_of file runs),
      length-take run.size (drop run.at file),
    )

pub between_most : (file : List ℕ) (runs parts : List Run) (from to : ℕ)
    → AreBetween runs from to parts → length (content_of file parts) ≤ to - from
between_most file runs parts from to between =
    content_most parts file from to 0 (2 ^ 63) between.order
    (λ p lt. between.same p ∙ below_it from to p (spot_of runs p) lt)
    (λ p le. between.same p ∙ above_it from to p (spot_of runs p) le)

abbrev at_of : Option (ℕ × ℕ) → ℕ
at_of None = 0
at_of (Some spot) = spot.0

spot_at : (one other : ℕ × ℕ) → Some one ≡ Some other → one.0 ≡ other.0
spot_at one other e = ap (λ (o : Option (ℕ × ℕ)). at_of o) e

begin_is : (begin other : Mark) → Some begin ≡ Some other → begin ≡ other
begin_is begin other e = cc

-- the first bytes of a stream that begins with a call
record BeginsAt (file : List ℕ) (shown : Shown) (begin : Mark) : Type 0 where
  pub head : List ℕ
  pub bytes : AreStreamBytes file shown.log begin.position (begin.position + 16) head
  pub words : drop 8 head ≡ call_words

begins_at : (file : List ℕ) (shown : Shown) (ordered : Ordered) (begin : Mark)
    → IsOrderOf shown ordered → ordered.marks.begin ≡ Some begin → BeginsWithCall file shown
    → BeginsAt file shown begin
begins_at file shown ordered begin order is call =
    let same : call.begin ≡ begin =
    begin_is call.begin begin
    (sym call.begun ∙ sym (ap (λ (m : Marks). m.begin) order.marks) ∙ is) in
    record {
      head = call.head;
      bytes =
          subst
          (λ (m : Mark). AreStreamBytes file shown.log m.position (m.position + 16) call.head)
          same call.bytes;
      words = call.words;
    }

-- no byte is missing of it
all_there : (file : List ℕ) (shown : Shown) (ordered : Ordered) (begin : Mark) (p : ℕ)
    → IsOrderOf shown ordered → BeginsAt file shown begin → begin.position ≤ p
    → p < begin.position + 16 → spot_of ordered.runs p ≢ None
all_there file shown ordered begin p order call low high none =
    let byte = call.bytes.same p low high in
    some_none (byte.0, byte.1) (sym byte.2 ∙ sym (order.runs.same p) ∙ none)

pub too_far : (file : List ℕ) (shown : Shown) (ordered : Ordered) (begin : Mark)
    → IsOrderOf shown ordered → ordered.marks.begin ≡ Some begin
    → 2 ^ 64 ≤ begin.position + 16 → BeginsWithCall file shown → ⊥
too_far file shown ordered begin order is far call =
    all_there file shown ordered begin begin.position order
    (begins_at file shown ordered begin order is call) (omega arith) (omega arith)
    (none_above ordered.runs begin.position 0 (2 ^ 63) order.runs.order (omega (arith, far)))

pub has_gap : (file : List ℕ) (shown : Shown) (ordered : Ordered) (begin : Mark) (low high : ℕ)
    → IsOrderOf shown ordered → ordered.marks.begin ≡ Some begin
    → IsGap ordered.runs begin.position (begin.position + 16) low high
    → BeginsWithCall file shown → ⊥
has_gap file shown ordered begin low high order is gap call =
    all_there file shown ordered begin low order
    (begins_at file shown ordered begin order is call) gap.low (omega (arith, gap.some, gap.high))
    (gap.none low (omega arith) gap.some)

-- the bytes of a stream from one position up to another are the same
same_bytes : (file : List ℕ) (log : List Run) (from to : ℕ) (some other : List ℕ)
    → AreStreamBytes file log from to some → AreStreamBytes file log from to other → some ≡ other
same_bytes file log from to some other one two =
    same_number_lists some other (one.count ∙ sym two.count)
    (λ k lt.
    let p = from + k in
    let below : p < to = omega (arith, lt, one.count) in
    let a = one.same p (omega arith) below in
    let b = two.same p (omega arith) below in
    let at : a.0 ≡ b.0 = spot_at (a.0, a.1) (b.0, b.1) (sym a.2 ∙ b.2) in
    let k_is : p - from ≡ k = omega arith in
    subst (λ (n : ℕ). get_or some n 0 ≡ get_or other n 0) k_is
    (a.3 ∙ ap (λ (n : ℕ). get_or file n 0) at ∙ sym b.3))

-- a stream has 16 bytes there, and these are the runs of them
pub record HasHead (file : List ℕ) (shown : Shown) (ordered : Ordered) (begin : Mark)
    (parts : List Run) : Type 0 where
  pub order : IsOrderOf shown ordered
  pub is : ordered.marks.begin ≡ Some begin
  pub full : HasNoGap ordered.runs begin.position (begin.position + 16)
  pub between : AreBetween ordered.runs begin.position (begin.position + 16) parts
  pub within : AreIn file parts

head_bytes : (file : List ℕ) (shown : Shown) (ordered : Ordered) (begin : Mark)
    (parts : List Run) → HasHead file shown ordered begin parts
    → AreStreamBytes file shown.log begin.position (begin.position + 16) (content_of file parts)
head_bytes file shown ordered begin parts head =
    are_bytes file shown.log ordered.runs parts begin.position (begin.position + 16) (omega arith)
    head.order.runs head.between head.full head.within

pub begins : (file : List ℕ) (shown : Shown) (ordered : Ordered) (begin : Mark)
    (parts : List Run) → HasHead file shown ordered begin parts → HasCallWords file parts
    → BeginsWithCall file shown
begins file shown ordered begin parts head has = record {
  begin = begin;
  begun = sym (ap (λ (m : Marks). m.begin) head.order.marks) ∙ head.is;
  head = content_of file parts;
  bytes = head_bytes file shown ordered begin parts head;
  words = has.words;
}

pub has_call : (file : List ℕ) (shown : Shown) (ordered : Ordered) (begin : Mark)
    (parts : List Run) → HasHead file shown ordered begin parts → BeginsWithCall file shown
    → HasCallWords file parts
has_call file shown ordered begin parts head call =
    let at = begins_at file shown ordered begin head.order head.is call in
    let bytes = head_bytes file shown ordered begin parts head in
    let same : at.head ≡ content_of file parts =
    same_bytes file shown.log begin.position (begin.position + 16) at.head
    (content_of file parts) at.bytes bytes in
    record {
      count = omega (arith, bytes.count);
      words = ap (drop 8) (sym same) ∙ at.words;
    }

-- ---- what a search for a gap returned

pub gap_there : (found : Option MissingBytes) (P : Type 0) (Q : MissingBytes → Type 0)
    → true ≡ is_some found → MatchOption found P Q → (gap : MissingBytes) × Q gap
gap_there None P Q is match = absurd (false≢true (sym is))
gap_there (Some gap) P Q is match = (gap, match)

pub no_gap : (found : Option MissingBytes) (P : Type 0) (Q : MissingBytes → Type 0)
    → false ≡ is_some found → MatchOption found P Q → P
no_gap None P Q is match = match
no_gap (Some gap) P Q is match = absurd (false≢true is)
