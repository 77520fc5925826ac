-- A block is read in one way.
use Rattle.std.proofs.Common.{◌≡◌, ◌≢◌, ◌⊎◌, ℕ, ◌-◌, ◌∙◌, inl, inr, refl, sym, ap, subst, List, length, take, Option, Some, arith}
use Rattle.std.proofs.lemmas.Bool.{cases_eq}
use Rattle.std.proofs.lemmas.Option.{slice_get_within}
use Rattle.recording3.specs.Pcap.{file_word}
use Rattle.recording3.specs.Pcapng.{HasContent, HasOrder, IsBlock, IsInterface, IsOne, IsPacket, IsSimple, IsSized, LacksBlock, LacksContent, NoInterfaceAt, NoOrder, NoPacket, NoSimple, NoSize, byte_order_magic, enhanced_number, obsolete_number, section}
use Rattle.recording3.specs.declared.contents.Content as contents
use Rattle.recording3.specs.declared.contents.Content.TheVariants as variants
use Rattle.recording3.specs.declared.contents.Ending.{Ending}
use Rattle.recording3.specs.declared.contents.Frame as frames
use Rattle.recording3.specs.declared.contents.RecordingPart.{RecordingPart}
use Rattle.recording3.specs.declared.pcap.Order.{Order}
use Rattle.recording3.specs.declared.pcap.Order.TheVariants.{Big, Little}
use Rattle.recording3.specs.declared.pcapng.Interface as interfaces
use Rattle.recording3.proofs.Files.ClocksLemmas.{same_clock}
use Rattle.recording3.proofs.ReasonsLemmas as reasons
use Rattle.recording3.proofs.ReasonsLemmas.{AreApart, IsNone, apart_either, none, none_never, one, one_either, one_never}

own_or_kept : (old a b : Order) (w m : ℕ) → (w ≡ section) ⊎ (w ≢ section)
    → (w ≡ section → m ≡ byte_order_magic a)
    → (w ≢ section → a ≡ old) → (w ≡ section → m ≡ byte_order_magic b) → (w ≢ section → b ≡ old)
    → a ≡ b
own_or_kept old a b w m (inr n) h k g l = k n ∙ sym (l n)
own_or_kept old Big Big w m (inl e) h k g l = refl
own_or_kept old Little Little w m (inl e) h k g l = refl
own_or_kept old Big Little w m (inl e) h k g l = absurd (let x = h e in let y = g e in omega arith)
own_or_kept old Little Big w m (inl e) h k g l = absurd (let x = h e in let y = g e in omega arith)

same_order : (old a b : Order) (bytes : List ℕ) → HasOrder old bytes a → HasOrder old bytes b
    → a ≡ b
same_order old a b bytes h g =
    own_or_kept old a b (file_word old bytes 0) (file_word Big bytes 8)
    (cases_eq (file_word old bytes 0) section) h.own h.kept g.own g.kept

no_magic : (m : ℕ) (a : Order) → m ≡ byte_order_magic a → m ≢ byte_order_magic Big
    → m ≢ byte_order_magic Little → ⊥
no_magic m Big e f g = f e
no_magic m Little e f g = g e

some_order : (old a : Order) (bytes : List ℕ) → HasOrder old bytes a → IsNone (NoOrder old bytes)
some_order old a bytes h =
    none _ _ _ (λ f. let w = h.whole in omega arith)
    (none _ _ _ (λ f. let w = h.whole in omega arith)
    (none _ _ _ (λ f. no_magic (file_word Big bytes 8) a (h.own f.0) f.1 f.2) none_never))

one_order : (old : Order) (bytes : List ℕ) → reasons.IsOne (NoOrder old bytes)
one_order old bytes = one _ _ _ (one _ _ _ (one _ _ _ one_never))

same_size : (order : Order) (bytes : List ℕ) (s t : ℕ) → IsSized order bytes s
    → IsSized order bytes t → s ≡ t
same_size order bytes s t h g = h.total ∙ sym g.total

some_size : (order : Order) (bytes : List ℕ) (s : ℕ) → IsSized order bytes s
    → IsNone (NoSize order bytes)
some_size order bytes s h =
    none _ _ _ (λ f. f h.words) (none _ _ _ (λ f. let w = h.least in omega arith)
    (none _ _ _ (λ f. let w = h.limit in omega arith)
    (none _ _ _ (λ f. let w = h.whole in omega arith)
    (none _ _ _ (λ f. f h.closes) none_never))))

one_size : (order : Order) (bytes : List ℕ) → reasons.IsOne (NoSize order bytes)
one_size order bytes = one _ _ _ (one _ _ _ (one _ _ _ (one _ _ _ (one _ _ _ one_never))))

module _ (order : Order) (block : List ℕ) where
  same_interface : reasons.IsOne (IsInterface order block)
  same_interface i j h g =
      let c = same_clock order (take (length block - 4) block) i.clock j.clock h.clock g.clock in
      let l = h.link in let m = g.link in let k = h.kept in let n = g.kept in
      let e : ◌≡◌ {A = interfaces.Interface}
      (record { link = i.link; kept = i.kept; clock = i.clock })
      (record { link = j.link; kept = j.kept; clock = j.clock }) = cc in e

  some_interface : AreApart (IsInterface order block) (NoInterfaceAt block)
  some_interface i why h = none _ _ _ (λ f. let w = h.least in omega arith) none_never why

  module _ (described : List interfaces.Interface) where
    same_packet : (number : ℕ) → reasons.IsOne (IsPacket order described block number)
    same_packet number f g a b =
        let x = a.of in let y = b.of in
        let o : ◌≡◌ {A = Option interfaces.Interface} (Some a.interface) (Some b.interface) = cc in
        let i : a.interface ≡ b.interface = cc in
        let t = a.time in let u = b.time in let l = a.link in let m = b.link in
        let w = a.wire in let v = b.wire in let p = a.begin in let q = b.begin in
        let d = a.end in let e = b.end in
        let z : ◌≡◌ {A = frames.Frame}
        (record { time = f.time; link = f.link; wire = f.wire; begin = f.begin; end = f.end })
        (record { time = g.time; link = g.link; wire = g.wire; begin = g.begin; end = g.end }) =
        cc in z

    some_packet : (number : ℕ)
        → AreApart (IsPacket order described block number) (NoPacket order described block number)
    some_packet number f why h =
        none _ _ _ (λ n. let w = h.least in omega arith)
        (none _ _ _ (λ n. let w = slice_get_within described number h.interface h.of in omega arith)
        (none _ _ _ (λ n. let w = h.fits in omega arith) none_never)) why

    one_packet : (number : ℕ) → reasons.IsOne (NoPacket order described block number)
    one_packet number = one _ _ _ (one _ _ _ (one _ _ _ one_never))

    same_simple : reasons.IsOne (IsSimple order described block)
    same_simple f g a b =
        let x = a.of in let y = b.of in
        let o : ◌≡◌ {A = Option interfaces.Interface} (Some a.interface) (Some b.interface) = cc in
        let i : a.interface ≡ b.interface = cc in
        let t = a.time in let u = b.time in let l = a.link in let m = b.link in
        let w = a.wire in let v = b.wire in let p = a.begin in let q = b.begin in
        let d = a.end in let e = b.end in
        let z : ◌≡◌ {A = frames.Frame}
        (record { time = f.time; link = f.link; wire = f.wire; begin = f.begin; end = f.end })
        (record { time = g.time; link = g.link; wire = g.wire; begin = g.begin; end = g.end }) =
        cc in z

    some_simple : AreApart (IsSimple order described block) (NoSimple described block)
    some_simple f why h =
        none _ _ _ (λ n. let w = h.least in omega arith)
        (none _ _ _ (λ n. let w = slice_get_within described 0 h.interface h.of in omega arith)
        none_never) why

    one_simple : reasons.IsOne (NoSimple described block)
    one_simple = one _ _ _ (one _ _ _ one_never)

    -- a content is one value's
    same_of : {V : Type 0} (make : V → contents.Content) (Holds : V → Type 0) → reasons.IsOne Holds
        → reasons.IsOne (IsOne make Holds)
    same_of make Holds same a b (v, h, e) (w, g, f) = e ∙ ap make (same v w h g) ∙ sym f

    apart_of : {V : Type 0} (make : V → contents.Content) (Holds : V → Type 0)
        (Why : Ending → Type 0) → AreApart Holds Why → AreApart (IsOne make Holds) Why
    apart_of make Holds Why apart a why (v, h, e) w = apart v why h w

    same_content : reasons.IsOne (HasContent order described block)
    same_content =
        one_either _ _ _ (λ a b h g. h.1 ∙ sym g.1)
        (one_either _ _ _ (same_of variants.Interface (IsInterface order block) same_interface)
        (one_either _ _ _ (same_of variants.Frame _ (same_packet (enhanced_number order block)))
        (one_either _ _ _ (same_of variants.Frame _ (same_packet (obsolete_number order block)))
        (one_either _ _ _ (same_of variants.Frame (IsSimple order described block) same_simple)
        (λ a b h g. h ∙ sym g)))))

    some_content : AreApart (HasContent order described block) (LacksContent order described block)
    some_content =
        apart_either _ _ _ _ _
        (λ a why h. none _ _ _ (λ n. let w = h.0 in omega arith) none_never why)
        (apart_either _ _ _ _ _
        (apart_of variants.Interface (IsInterface order block) (NoInterfaceAt block) some_interface)
        (apart_either _ _ _ _ _
        (apart_of variants.Frame _ _ (some_packet (enhanced_number order block)))
        (apart_either _ _ _ _ _
        (apart_of variants.Frame _ _ (some_packet (obsolete_number order block)))
        (apart_either _ _ _ _ _
        (apart_of variants.Frame (IsSimple order described block) (NoSimple described block)
        some_simple)
        (λ a why h n. n)))))

    one_content : reasons.IsOne (LacksContent order described block)
    one_content =
        one_either _ _ _ (one _ _ _ one_never)
        (one_either _ _ _ (one _ _ _ one_never)
        (one_either _ _ _ (one_packet (enhanced_number order block))
        (one_either _ _ _ (one_packet (obsolete_number order block))
        (one_either _ _ _ one_simple one_never))))

module _ (old : Order) (described : List interfaces.Interface) (bytes : List ℕ) where
  size_in : (a b : Order) (s : ℕ) → a ≡ b → IsSized a bytes s → IsSized b bytes s
  size_in a b s e h = subst (λ (x : Order). IsSized x bytes s) e h

  no_size_in : (a b : Order) (why : Ending) → a ≡ b → NoSize a bytes why → NoSize b bytes why
  no_size_in a b why e h = subst (λ (x : Order). NoSize x bytes why) e h

  content_in : (a b : Order) (s t : ℕ) (x : contents.Content) → a ≡ b → s ≡ t
      → HasContent a described (take s bytes) x → HasContent b described (take t bytes) x
  content_in a b s t x e f h =
      subst (λ (y : ℕ). HasContent b described (take y bytes) x) f
      (subst (λ (y : Order). HasContent y described (take s bytes) x) e h)

  no_content_in : (a b : Order) (s t : ℕ) (why : Ending) → a ≡ b → s ≡ t
      → LacksContent a described (take s bytes) why → LacksContent b described (take t bytes) why
  no_content_in a b s t why e f h =
      subst (λ (y : ℕ). LacksContent b described (take y bytes) why) f
      (subst (λ (y : Order). LacksContent y described (take s bytes) why) e h)

  pub same_part : (f g : RecordingPart) → IsBlock old described bytes f
      → IsBlock old described bytes g
      → f ≡ g
  same_part f g a b =
      let e = same_order old b.order a.order bytes b.has_order a.has_order in
      let s =
      same_size a.order bytes g.size f.size (size_in b.order a.order g.size e b.size) a.size in
      let k =
      same_content a.order (take f.size bytes) described f.content g.content a.content
      (content_in b.order a.order g.size f.size g.content e s b.content) in
      let q : ◌≡◌ {A = RecordingPart} (record { content = f.content; size = f.size })
      (record { content = g.content; size = g.size }) = cc in q

  pub some_part : (f : RecordingPart) (why : Ending) → IsBlock old described bytes f
      → LacksBlock old described bytes why → ⊥
  some_part f why a (inl h) = some_order old a.order bytes a.has_order why h
  some_part f why a (inr (o, p, inl h)) =
      some_size a.order bytes f.size a.size why
      (no_size_in o a.order why (same_order old o a.order bytes p a.has_order) h)
  some_part f why a (inr (o, p, inr (s, q, h))) =
      let e = same_order old o a.order bytes p a.has_order in
      let t = same_size a.order bytes s f.size (size_in o a.order s e q) a.size in
      some_content a.order (take f.size bytes) described f.content why a.content
      (no_content_in o a.order s f.size why e t h)

  pub one_lack : (why other : Ending) → LacksBlock old described bytes why
      → LacksBlock old described bytes other → why ≡ other
  one_lack why other (inl h) (inl g) = one_order old bytes why other h g
  one_lack why other (inl h) (inr (o, p, g)) = absurd (some_order old o bytes p why h)
  one_lack why other (inr (o, p, h)) (inl g) = absurd (some_order old o bytes p other g)
  one_lack why other (inr (o, p, inl h)) (inr (r, q, inl g)) =
      one_size o bytes why other h (no_size_in r o other (same_order old r o bytes q p) g)
  one_lack why other (inr (o, p, inl h)) (inr (r, q, inr (s, z, g))) =
      absurd (some_size o bytes s (size_in r o s (same_order old r o bytes q p) z) why h)
  one_lack why other (inr (o, p, inr (s, z, h))) (inr (r, q, inl g)) =
      absurd (some_size o bytes s z other (no_size_in r o other (same_order old r o bytes q p) g))
  one_lack why other (inr (o, p, inr (s, z, h))) (inr (r, q, inr (t, y, g))) =
      let e = same_order old r o bytes q p in
      let f = same_size o bytes t s (size_in r o t e y) z in
      one_content o (take s bytes) described why other h (no_content_in r o t s other e f g)
