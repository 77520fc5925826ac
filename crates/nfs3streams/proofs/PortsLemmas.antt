-- Words that name ports.
use Rattle.std.proofs.Common.{◌≡◌, ℕ, ◌<◌, ◌+◌, zero, suc, List, [], ◌∷◌, ◌++◌, get_or, map, take, append-nil, IfErr, OnOk, Result, Ok, Err, length, refl, sym, ap, ◌∙◌, subst, append_assoc, arith}
use Rattle.std.specs.Borrow.{Bor}
use Rattle.std.specs.List.{after_first, flat_map, before_first, position_or_len, slice_split}
use Rattle.std.proofs.lemmas.Grind.{common_steps}
use Rattle.std.proofs.lemmas.List.{map-append, take_more}
use Rattle.std.proofs.lemmas.List.Splits.{slice_split_first, slice_split_none}
use Rattle.std.proofs.lemmas.List.Sums.{fails_before_first}
use Rattle.line3.specs.Asked.{IsUsage}
use Rattle.line3.specs.declared.asked.LineFault.{LineFault}
use Rattle.line3.specs.declared.asked.LineFault.TheVariants.{Usage, Memory}
use Rattle.nfs3streams.specs.Ports.{AreAllPorts, ArePorts, IsPort, is_comma, parts_of}
use Rattle.nfs3streams.specs.StreamsLine.{IsUsageUnless}

-- the ports of a front of texts, and those of the others
pub parted : (front back : List (List ℕ)) (ports : List ℕ) → ArePorts (front ++ back) ports
    → (first : List ℕ) × (later : List ℕ) × (ports ≡ first ++ later) × ArePorts front first
    × ArePorts back later
parted [] back ports are = ([], ports, refl, tt, are)
parted (text ∷ front) back [] are = absurd are
parted (text ∷ front) back (port ∷ ports) are =
    let (first, later, split, in_front, behind) = parted front back ports are.1 in
    (port ∷ first, later, ap (λ l. port ∷ l) split, (are.0, in_front), behind)

-- texts that all name ports, one after another
pub joined : (front back : List (List ℕ)) (first later : List ℕ) → ArePorts front first
    → ArePorts back later → ArePorts (front ++ back) (first ++ later)
joined [] back [] later in_front behind = behind
joined [] back (port ∷ first) later in_front behind = absurd in_front
joined (text ∷ front) back [] later in_front behind = absurd in_front
joined (text ∷ front) back (port ∷ first) later in_front behind =
    (in_front.0, joined front back first later in_front.1 behind)

-- a fault that is a usage, where this cannot be
pub usage_unless : (Holds : Type 0) (fault : LineFault) → IsUsage fault → (Holds → ⊥)
    → IsUsageUnless Holds fault
usage_unless Holds (Usage text) is none = none
usage_unless Holds Memory is none = tt
usage_unless Holds _ is none = absurd is

-- a fault stays if even less can be
pub usage_still : (One Other : Type 0) (fault : LineFault) → (Other → One)
    → IsUsageUnless One fault → IsUsageUnless Other fault
usage_still One Other (Usage text) less is = λ other. is (less other)
usage_still One Other Memory less is = tt
usage_still One Other _ less is = absurd is

-- so of a result
pub err_still : {T : Type 0} (One Other : Type 0) (r : Result T LineFault) → (Other → One)
    → IfErr r (IsUsageUnless One) → IfErr r (IsUsageUnless Other)
err_still One Other (Ok x) less is = tt
err_still One Other (Err fault) less is = usage_still One Other fault less is

pub ok_then : {T E : Type 0} (One Other : Type 0) (r : Result T E) → (One → Other) → OnOk r One
    → OnOk r Other
ok_then One Other (Ok x) more is = more is
ok_then One Other (Err e) more is = tt

-- the ports that a front of a word names, and what follows it
pub record Named (word rest : List ℕ) (ports : List ℕ) : Type 0 where
  pub front : List (List ℕ)
  pub are : ArePorts front ports
  pub split : parts_of word ≡ front ++ parts_of rest

-- a part before a comma
pub cut_first : (rest first behind : List ℕ) → first ≡ before_first is_comma rest
    → behind ≡ after_first is_comma rest → position_or_len is_comma rest < length rest
    → parts_of rest ≡ first ∷ parts_of behind
cut_first rest first behind is_first is_behind low =
    slice_split_first is_comma rest 0 low
    ∙ ap (λ f. f ∷ slice_split is_comma (after_first is_comma rest)) (sym is_first)
    ∙ ap (λ b. first ∷ slice_split is_comma b) (sym is_behind)

-- a word without a comma
pub cut_none : (rest : List ℕ) → position_or_len is_comma rest ≡ length rest
    → parts_of rest ≡ rest ∷ []
cut_none rest none = slice_split_none is_comma rest
    (λ k x at.
    let fails = fails_before_first is_comma rest k x (grind (arith, common_steps)) in
    grind (arith, common_steps))

-- one more part of it names a port
pub named_more : (word rest first behind ports : List ℕ) (port : ℕ) → Named word rest ports
    → parts_of rest ≡ first ∷ parts_of behind → IsPort first port
    → Named word behind (ports ++ port ∷ [])
named_more word rest first behind ports port before cut is = record {
  front = before.front ++ first ∷ [];
  are = joined before.front (first ∷ []) ports (port ∷ []) before.are (is, tt);
  split = before.split ∙ ap (λ l. before.front ++ l) cut
      ∙ sym (append_assoc before.front (first ∷ []) (parts_of behind));
}

-- the last part names one
pub named_all : (word rest ports : List ℕ) (port : ℕ) → Named word rest ports
    → parts_of rest ≡ rest ∷ [] → IsPort rest port
    → ArePorts (parts_of word) (ports ++ port ∷ [])
named_all word rest ports port before cut is =
    subst (λ parts. ArePorts parts (ports ++ port ∷ []))
    (sym (before.split ∙ ap (λ l. before.front ++ l) cut))
    (joined before.front (rest ∷ []) ports (port ∷ []) before.are (is, tt))

-- if a word names ports, each part of it names one
pub part_named : (word rest first ports : List ℕ) (more : List (List ℕ)) → Named word rest ports
    → parts_of rest ≡ first ∷ more
    → (named : List ℕ) × ArePorts (parts_of word) named → (port : ℕ) × IsPort first port
part_named word rest first ports more before cut (named, are) =
    let (one, later, split, in_front, behind) =
    parted before.front (first ∷ more) named
    (subst (λ parts. ArePorts parts named) (before.split ∙ ap (λ l. before.front ++ l) cut) are) in
    by_port later behind
  where
    by_port : (later : List ℕ) → ArePorts (first ∷ more) later → (port : ℕ) × IsPort first port
    by_port [] are = absurd are
    by_port (port ∷ later) are = (port, are.0)

-- ---- words one after another

-- one more word
pub more_words : (words : List (List ℕ)) (word : List ℕ) (ports named : List ℕ)
    → AreAllPorts words ports → ArePorts (parts_of word) named
    → AreAllPorts (words ++ word ∷ []) (ports ++ named)
more_words [] word [] named are is =
    subst (λ parts. ArePorts parts named) (sym (append-nil (parts_of word))) is
more_words [] word (port ∷ ports) named are is = absurd are
more_words (one ∷ words) word ports named are is =
    let (first, later, split, in_front, behind) =
    parted (parts_of one) (flat_map parts_of words) ports are in
    subst (λ all. AreAllPorts ((one ∷ words) ++ word ∷ []) all)
    (sym (ap (λ l. l ++ named) split ∙ append_assoc first later named))
    (joined (parts_of one) (flat_map parts_of (words ++ word ∷ [])) first (later ++ named)
    in_front (more_words words word later named behind is))

-- if words name ports, each of them does
pub word_named : (words : List (Bor (List ℕ))) (k : ℕ) (none : Bor (List ℕ)) → k < length words
    → (ports : List ℕ) × AreAllPorts (map (λ w. w.now) words) ports
    → (named : List ℕ) × ArePorts (parts_of (get_or words k none).now) named
word_named [] k none low (ports, are) = absurd (omega (arith, low))
word_named (one ∷ words) zero none low (ports, are) =
    let (first, later, split, in_front, behind) =
    parted (parts_of one.now) (flat_map parts_of (map (λ (w : Bor (List ℕ)). w.now) words)) ports
    are in
    (first, in_front)
word_named (one ∷ words) (suc k) none low (ports, are) =
    let (first, later, split, in_front, behind) =
    parted (parts_of one.now) (flat_map parts_of (map (λ (w : Bor (List ℕ)). w.now) words)) ports
    are in
    word_named words k none (omega (arith, low)) (later, behind)

-- the words before one, and it
pub words_more : (words : List (Bor (List ℕ))) (k : ℕ) (none : Bor (List ℕ)) → k < length words
    → (ports named : List ℕ) → AreAllPorts (map (λ w. w.now) (take k words)) ports
    → ArePorts (parts_of (get_or words k none).now) named
    → AreAllPorts (map (λ w. w.now) (take (k + 1) words)) (ports ++ named)
words_more words k none low ports named are it =
    let word = get_or words k none in
    subst (λ l. AreAllPorts l (ports ++ named))
    (sym (ap (map (λ (w : Bor (List ℕ)). w.now)) (take_more words k none low)
    ∙ map-append (λ (w : Bor (List ℕ)). w.now) (take k words) (word ∷ [])))
    (more_words (map (λ w. w.now) (take k words)) word.now ports named are it)
