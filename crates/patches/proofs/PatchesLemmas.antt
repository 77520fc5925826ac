-- Bodies with replacements, as more of them is noted.
use Rattle.std.proofs.Common.{◌≡◌, ℕ, ◌+◌, ◌<◌, ◌≤◌, List, [], ◌∷◌, ◌++◌, length, min, get_or, replicate, take, drop, ap, ap₂, sym, ◌∙◌, arith, rules, length-append, length-drop, length-take, take-append-drop}
use Rattle.std.proofs.lemmas.List.{append_assoc, drop-drop, drop_all, drop_more, take-take, take_at, take_min, append-nil, drop-append-le, take-append-le, take_all}
use Rattle.std.proofs.Math.Seq.{take-append-add}
use Rattle.patches.specs.declared.part.Part.{Part}
use Rattle.patches.specs.Patches.{covered_by, kept_of, patched_by, replacement, with_zeros, Makes, Noted}
use Rattle.patches.specs.machinery.Room.{kept_by}

-- ---- zeros

no_zeros : (at : ℕ) (bytes : List ℕ) → with_zeros at 0 bytes ≡ bytes
no_zeros at bytes = search (rules, take-append-drop)

-- the bytes beside zeros are the same
pub zeros-alike : (at count : ℕ) (bytes others : List ℕ) → length bytes ≡ length others
    → take at bytes ≡ take at others → drop count (drop at bytes) ≡ drop count (drop at others)
    → with_zeros at count bytes ≡ with_zeros at count others
zeros-alike at count bytes others size front back = search (rules, size, front, back, drop-drop)

-- bytes after all zeros
zeros-append : (at count : ℕ) (bytes more : List ℕ) → at + count ≤ length bytes
    → with_zeros at count (bytes ++ more) ≡ with_zeros at count bytes ++ more
zeros-append at count bytes more within =
    search (rules, within, take-append-le, drop-append-le, append_assoc, length-append)

-- zeros in place of all bytes from a position on
zeros-last : (bytes gone : List ℕ) (count : ℕ) → length gone ≡ count
    → with_zeros (length bytes) count (bytes ++ gone) ≡ bytes ++ replicate count 0
zeros-last bytes gone count l = search (rules, l, take_at, drop_all, append-nil, length-append)

-- ---- what is noted

kept-front : (part : Part) (body more : List ℕ) → part.keeps ≤ length body
    → kept_of part (body ++ more) ≡ kept_of part body
kept-front part body more some =
    ap (with_zeros part.zeros_at part.zeros) (take-append-le part.keeps body more some)

-- what is left of a body after a part, at least as long as what the other parts are of
rest_length : (part : Part) (body : List ℕ) (n : ℕ)
    → length body ≡ part.keeps + (part.skips + n)
    → length (drop part.skips (drop part.keeps body)) ≡ n
rest_length part body n l =
    let one = length-drop part.skips (drop part.keeps body) in
    let other = length-drop part.keeps body in
    omega (arith, one, other, l)

rest_append : (part : Part) (body more : List ℕ) (n : ℕ)
    → length body ≡ part.keeps + (part.skips + n)
    → drop part.skips (drop part.keeps (body ++ more))
    ≡ drop part.skips (drop part.keeps body) ++ more
rest_append part body more n l = search (rules, l, length-drop, drop-append-le)

-- what is noted after all of a body
patched-tail : (parts added : List Part) (last new : Part) (body more put : List ℕ)
    → ((b : List ℕ) → length b ≡ last.keeps
    → patched_by added new (b ++ more) ≡ kept_of last b ++ put)
    → length body ≡ covered_by parts + last.keeps
    → patched_by (parts ++ added) new (body ++ more) ≡ patched_by parts last body ++ put
patched-tail [] added last new body more put goes l = goes body (omega (arith, l))
patched-tail (part ∷ parts) added last new body more put goes l =
    let rest = drop part.skips (drop part.keeps body) in
    let left = rest_length part body (covered_by parts + last.keeps) (omega (arith, l)) in
    let same = rest_append part body more (covered_by parts + last.keeps) (omega (arith, l)) in
    let next =
    ap (patched_by (parts ++ added) new) same
    ∙ patched-tail parts added last new rest more put goes left in
    let front = kept-front part body more (omega (arith, l)) in
    ap₂ (λ (a b : List ℕ). a ++ (replacement part ++ b)) front next
    ∙ (ap (λ (b : List ℕ). kept_of part body ++ b)
    (sym (append_assoc (replacement part) (patched_by parts last rest) put))
    ∙ sym (append_assoc (kept_of part body) (replacement part ++ patched_by parts last rest) put))

covered-append : (parts added : List Part)
    → covered_by (parts ++ added) ≡ covered_by parts + covered_by added
covered-append [] added = omega arith
covered-append (part ∷ parts) added = omega (arith, covered-append parts added)

-- more of a body, of which nothing was noted before
makes-more : (noted new : Noted) (added : List Part) (body more form put : List ℕ)
    → Makes noted body form → new.parts ≡ noted.parts ++ added
    → ((b : List ℕ) → length b ≡ noted.last.keeps
    → patched_by added new.last (b ++ more) ≡ kept_of noted.last b ++ put)
    → noted.last.keeps + length more ≡ covered_by added + new.last.keeps
    → new.last.zeros_at + new.last.zeros ≤ new.last.keeps
    → Makes new (body ++ more) (form ++ put)
makes-more noted new added body more form put m e goes size within = record {
  covers =
      omega (
        arith,
        m.covers,
        size,
        length-append body more,
        covered-append noted.parts added,
        ap covered_by e,
      );
  within = within;
  makes =
      ap (λ (ps : List Part). patched_by ps new.last (body ++ more)) e
      ∙ (patched-tail noted.parts added noted.last new.last body more put goes m.covers
      ∙ ap (λ (b : List ℕ). b ++ put) m.makes);
}

-- bytes that stay
kept-more-bytes : (last : Part) (count : ℕ) (more b : List ℕ)
    → last.zeros_at + last.zeros ≤ last.keeps → length more ≡ count → length b ≡ last.keeps
    → kept_of (record last { keeps = last.keeps + count }) (b ++ more) ≡ kept_of last b ++ more
kept-more-bytes last count more b within m l =
    ap (with_zeros last.zeros_at last.zeros)
    (take_all (last.keeps + count) (b ++ more) (omega (arith, l, m, length-append b more)))
    ∙ (zeros-append last.zeros_at last.zeros b more (omega (arith, within, l))
    ∙ ap (λ (k : List ℕ). with_zeros last.zeros_at last.zeros k ++ more)
    (sym (take_all last.keeps b (omega (arith, l)))))

pub makes-kept : (noted : Noted) (count : ℕ) (body more form : List ℕ) → Makes noted body form
    → length more ≡ count
    → Makes (record noted { last = record noted.last { keeps = noted.last.keeps + count } })
    (body ++ more) (form ++ more)
makes-kept noted count body more form m l =
    makes-more noted _ [] body more form more m (sym (append-nil noted.parts))
    (λ b size. kept-more-bytes noted.last count more b m.within l size) (omega (arith, l))
    (omega (arith, m.within))

-- bytes that become zeros, and are the first that do
kept-zeros : (last : Part) (count : ℕ) (gone b : List ℕ) → last.zeros ≡ 0 → length gone ≡ count
    → length b ≡ last.keeps
    → kept_of (record last { keeps = last.keeps + count; zeros_at = last.keeps; zeros = count })
    (b ++ gone) ≡ kept_of last b ++ replicate count 0
kept-zeros last count gone b none few l =
    ap (with_zeros last.keeps count)
    (take_all (last.keeps + count) (b ++ gone) (omega (arith, l, few, length-append b gone)))
    ∙ (ap (λ (n : ℕ). with_zeros n count (b ++ gone)) (sym l)
    ∙ (zeros-last b gone count few
    ∙ ap (λ (k : List ℕ). k ++ replicate count 0) (sym (
    ap₂ (with_zeros last.zeros_at) none (take_all last.keeps b (omega (arith, l)))
    ∙ no_zeros last.zeros_at b))))

pub makes-zeros : (noted : Noted) (count : ℕ) (body gone form : List ℕ) → Makes noted body form
    → noted.last.zeros ≡ 0 → length gone ≡ count
    → Makes (record noted {
      last = record noted.last
          { keeps = noted.last.keeps + count; zeros_at = noted.last.keeps; zeros = count };
    })
    (body ++ gone) (form ++ replicate count 0)
makes-zeros noted count body gone form m none l =
    makes-more noted _ [] body gone form (replicate count 0) m (sym (append-nil noted.parts))
    (λ b size. kept-zeros noted.last count gone b none l size) (omega (arith, l)) (omega arith)

-- no bytes
abbrev emptied : Part → Part
emptied part = record part { keeps = 0; zeros_at = 0; zeros = 0 }

-- bytes that are replaced
replaced : (part last : Part) (gone b : List ℕ) → length b ≡ part.keeps
    → patched_by (part ∷ []) (emptied last) (b ++ gone) ≡ kept_of part b ++ replacement part
replaced part last gone b l =
    ap₂ (λ (a b : List ℕ). a ++ (replacement part ++ b))
    (kept-front part b gone (omega (arith, l))) (no_zeros 0 [])
    ∙ ap (λ (r : List ℕ). kept_of part b ++ r) (append-nil (replacement part))

pub makes-replaced : (noted new : Noted) (skips len : ℕ) (bytes body gone form : List ℕ)
    → Makes noted body form
    → new.parts
    ≡ noted.parts ++ record noted.last { skips = skips; len = len; bytes = bytes } ∷ []
    → new.last ≡ emptied noted.last → length gone ≡ skips
    → Makes new (body ++ gone) (form ++ take len bytes)
makes-replaced noted new skips len bytes body gone form m e none l =
    let part : Part = record noted.last { skips = skips; len = len; bytes = bytes } in
    makes-more noted new (part ∷ []) body gone form (take len bytes) m e
    (λ b size.
    ap (λ (p : Part). patched_by (part ∷ []) p (b ++ gone)) none
    ∙ replaced part noted.last gone b size)
    (omega (arith, l, ap (λ (p : Part). p.keeps) none))
    (omega (arith, ap (λ (p : Part). p.zeros_at + p.zeros) none, ap (λ (p : Part). p.keeps) none))

-- a part that is written or compared, of those from an index on
pub patched-more : (parts : List Part) (i : ℕ) (last : Part) (body : List ℕ) (p : Part)
    → i < length parts → p ≡ get_or parts i p
    → patched_by (drop i parts) last body
    ≡ kept_of p body
    ++ (replacement p
    ++ patched_by (drop (i + 1) parts) last (drop p.skips (drop p.keeps body)))
patched-more parts i last body p l e =
    ap (λ (ps : List Part). patched_by ps last body) (drop_more parts i p l)
    ∙ ap (λ (q : Part). patched_by (q ∷ drop (i + 1) parts) last body) (sym e)

-- two parts that make the same bytes, before what is the same after them
pub alike-step : (parts others : List Part) (i : ℕ) (last other_last : Part) (body other : List ℕ)
    (p q : Part) → i < length parts → p ≡ get_or parts i p → i < length others
    → q ≡ get_or others i q → kept_of p body ≡ kept_of q other
    → replacement p ≡ replacement q
    → patched_by (drop (i + 1) parts) last (drop p.skips (drop p.keeps body))
    ≡ patched_by (drop (i + 1) others) other_last (drop q.skips (drop q.keeps other))
    → patched_by (drop i parts) last body ≡ patched_by (drop i others) other_last other
alike-step parts others i last other_last body other p q l e m f same_kept same_replaced same_rest =
    patched-more parts i last body p l e
    ∙ (ap₂ (λ (a b : List ℕ). a ++ b) same_kept
    (ap₂ (λ (a b : List ℕ). a ++ b) same_replaced same_rest)
    ∙ sym (patched-more others i other_last other q m f))

-- a part that was written after others
pub written-step : (parts : List Part) (i : ℕ) (last : Part) (body before now all : List ℕ)
    (p : Part)
    → i < length parts → p ≡ get_or parts i p
    → now ≡ before ++ (kept_of p body ++ replacement p)
    → before ++ patched_by (drop i parts) last body ≡ all
    → now ++ patched_by (drop (i + 1) parts) last (drop p.skips (drop p.keeps body)) ≡ all
written-step parts i last body before now all p l e w is =
    search (rules, w, is, patched-more parts i last body p l e, append_assoc)

pub patched-over : (parts : List Part) (i : ℕ) (last : Part) (body : List ℕ) → length parts ≤ i
    → patched_by (drop i parts) last body ≡ kept_of last body
patched-over parts i last body l =
    ap (λ (ps : List Part). patched_by ps last body) (drop_all i parts l)

-- of eight bytes that were written, the first ones
pub cut_after : (n len : ℕ) (room before bytes : List ℕ) → take (n + 8) room ≡ before ++ bytes
    → length before ≡ n → length bytes ≡ 8 → take (n + min len 8) room ≡ before ++ take len bytes
cut_after n len room before bytes e l m =
    let k = min len 8 in
    let short : n + k ≤ n + 8 = omega arith in
    sym (take-take (n + k) (n + 8) room short)
    ∙ (ap (take (n + k)) e
    ∙ (ap (λ (j : ℕ). take (j + k) (before ++ bytes)) (sym l)
    ∙ (take-append-add before bytes k
    ∙ (ap (λ (j : ℕ). before ++ take (min len j) bytes) (sym m)
    ∙ ap (λ (b : List ℕ). before ++ b) (take_min len bytes)))))

-- what stands before a position is kept if it is kept before a later one
pub kept_below : (m n : ℕ) (xs ys : List ℕ) → m ≤ n → take n xs ≡ take n ys → take m xs ≡ take m ys
kept_below m n xs ys l e = sym (take-take m n xs l) ∙ (ap (take m) e ∙ take-take m n ys l)

-- a part needs no more of a buffer than was left for it
pub room-step : (body : List ℕ) (p : Part)
    → length (take p.keeps body) + length (drop p.skips (drop p.keeps body)) ≤ length body
room-step body p =
    let front = length-take p.keeps body in
    let rest = length-drop p.keeps body in
    let last = length-drop p.skips (drop p.keeps body) in
    omega (arith, front, rest, last)

-- what the parts from an index on keep
pub kept-more : (parts : List Part) (i : ℕ) (p : Part) → i < length parts → p ≡ get_or parts i p
    → kept_by (drop i parts) ≡ p.keeps + kept_by (drop (i + 1) parts)
kept-more parts i p l e =
    ap kept_by (drop_more parts i p l)
    ∙ ap (λ (q : Part). q.keeps + kept_by (drop (i + 1) parts)) (sym e)

-- the same as `room-step` where the bytes that are left after all parts are not written
pub front-step : (parts : List Part) (i : ℕ) (body : List ℕ) (p : Part) → i < length parts
    → p ≡ get_or parts i p
    → length (take p.keeps body)
    + min (kept_by (drop (i + 1) parts)) (length (drop p.skips (drop p.keeps body)))
    ≤ min (kept_by (drop i parts)) (length body)
front-step parts i body p l e =
    let front = length-take p.keeps body in
    let rest = length-drop p.keeps body in
    let last = length-drop p.skips (drop p.keeps body) in
    omega (arith, front, rest, last, kept-more parts i p l e)
