-- Calls without the names of machines are calls of the same procedures, and no longer.
use Rattle.std.proofs.lemmas.Bool.Decides.{nat_tests}
use Rattle.xdr3.proofs.Lemmas.Reading.Decided.{zero_spelled_all}
use Rattle.masking3.proofs.Common.{◌≡◌, ℕ, zero, suc, ◌+◌, ◌-◌, ◌<◌, ◌≤◌, true, List, [], ◌∷◌, ◌++◌, length, refl, ap, sym, ◌∙◌, subst, arith, length-append, ◌==◌, IsTrue, bytes_eq, if◌then◌else◌, length-replicate, bytes_eq-Decides, procedure_in, called, arguments_of, xid_in, FitsCall, headed_call_fits, is_headed_call, Keep, Way, Item, Word, Opaque, Var, Text, Spells, residue, zero_spelling, FitsLayout, word_in, Shape, ◌then◌, is_listed, listed, opaque, word, word_named, Fits, after_first, named_by, unnamed_credential, unnamed_items, body_by, unnamed_body, auth_sys, call_head, credential, gids, parameters, verifier}
use Rattle.canon3.proofs.Lemmas.Changes.Messages.{four_words, mtype_is}
use Rattle.masking3.proofs.Lemmas.Unnamed.UnnamedSpellings.{unnamed_spelled}
use Rattle.masking3.proofs.Lemmas.Unnamed.UnnamedBodyLemmas.{not_spliced, spliced}
use Rattle.masking3.proofs.Lemmas.Unnamed.UnnamedLemmas.{any_way}

-- ---- words stay up to the flavor

words_stay : (n : ℕ) (l : List Item) (i : ℕ) → i < n
    → word_in (after_first n unnamed_credential l) i ≡ word_in l i
words_stay (suc n) (x ∷ l) (suc i) low = words_stay n l i (omega (arith, low))
words_stay zero l i low = absurd (omega (arith, low))
words_stay n (Word name k ∷ l) i low = refl
words_stay n l i low = refl

-- ---- the head of a call

-- what follows the name of the machine
abbrev owners : Shape
owners = word "uid" then word "gid" then gids

-- the parameters, from the stamp on
abbrev stamped : (stamp : ℕ) (name : List ℕ) → List Item → List Item
stamped stamp name more =
    Word (called "stamp") stamp ∷ Opaque Text (called "machinename") name ∷ more

-- an AUTH_SYS credential with these parameters, and its verifier
abbrev auth_with : List Item → List Item → List Item
auth_with inner last =
    Word (called "cred_flavor") 1 ∷ Word (called "cred_length") (length (zero_spelling inner))
    ∷ (inner ++ last)

word_fits : (name : List ℕ) (s : Shape) (n : ℕ) (rest : List Item) → Fits s rest
    → Fits (word_named name then s) (Word name n ∷ rest)
word_fits name s n rest fit = (_, _, (n, [], refl, refl, refl), fit, refl)

-- what is so with a credential of no parameters, and with an AUTH_SYS credential, is so of a head
module _ (P : List Item → Type 0)
    (plain : (version prog vers proc flavor : ℕ) (body verf_body : List ℕ)
    → P (four_words version prog vers proc (Word (called "cred_flavor") 0
    ∷ Opaque Var (called "cred_body") body ∷ Word (called "verf_flavor") flavor
    ∷ Opaque Var (called "verf_body") verf_body ∷ [])))
    (named : (version prog vers proc stamp : ℕ) (name : List ℕ) (more last : List Item)
    → IsTrue (is_listed (2 ∷ []) version) → length name ≤ 255 → Fits owners more
    → length (zero_spelling (stamped stamp name more)) ≤ 400 → Fits verifier last
    → P (four_words version prog vers proc (auth_with (stamped stamp name more) last))) where
  by_flavor : (version prog vers proc flavor : ℕ) (body last : List Item)
      → IsTrue (is_listed (2 ∷ []) version) → IsTrue (is_listed (0 ∷ 1 ∷ []) flavor)
      → Fits (if flavor == 0 then opaque Var (called "cred_body") 400 else auth_sys) body
      → Fits verifier last
      → P (four_words version prog vers proc (Word (called "cred_flavor") flavor ∷ (body ++ last)))
  unfolding auth_sys parameters verifier
  by_flavor version prog vers proc zero body last a f c v =
      rw (c.2, v.4, v.3.2) (plain version prog vers proc v.0 c.0 v.3.0)
  by_flavor version prog vers proc (suc zero) body last a f c v =
      let s = c.1 in
      let t = s.3 in
      let is : c.0 ≡ stamped s.2.0 t.2.0 t.1 = rw (s.4, s.2.4, s.2.3, t.4, t.2.2) refl in
      rw (c.3, is)
      (named version prog vers proc s.2.0 t.2.0 t.1 last a t.2.1 t.3
      (subst (λ (l : List Item). length (zero_spelling l) ≤ 400) is c.2) v)
  by_flavor version prog vers proc (suc (suc flavor)) body last a f c v =
      absurd (grind (arith, nat_tests, f))

  by_head : (head : List Item) → Fits call_head head → P head
  unfolding call_head credential
  by_head head p =
      let a = p.3 in
      let b = a.3 in
      let c = b.3 in
      let d = c.3 in
      let e = d.2 in
      rw (p.4, a.4, a.2.4, a.2.3, b.4, b.2.4, b.2.3, c.4, c.2.4, c.2.3, d.4, e.4)
      (by_flavor p.0 a.2.0 b.2.0 c.2.0 e.0 e.1 d.1 p.2 e.2 e.3 d.3)

-- ---- the head without the name

same_name : bytes_eq (called "cred_length") (called "cred_length") ≡ true
same_name = (bytes_eq-Decides (called "cred_length") (called "cred_length")).1 refl

size_less : (stamp : ℕ) (name : List ℕ) (more : List Item)
    → length (zero_spelling (stamped stamp name more)) - (length name + residue (length name))
    ≡ length (zero_spelling (stamped stamp [] more))
size_less stamp name more = simp (length-append, length-replicate) (omega arith)

-- what becomes of a head: other items that fit, of the same procedure
abbrev UnnamedHead : List Item → Type 0
UnnamedHead head =
    (other : List Item) × Fits call_head other
    × ((i j : Item) → procedure_in (i ∷ j ∷ other) ≡ procedure_in (i ∷ j ∷ head))
    × ((back : List Item) → after_first 5 unnamed_credential (head ++ back) ≡ other ++ back)

unnamed_head : (head : List Item) → Fits call_head head → UnnamedHead head
unfolding auth_sys call_head credential parameters
unnamed_head head p =
    by_head (λ l. Fits call_head l → UnnamedHead l)
    (λ version prog vers proc flavor body verf_body q. (_, q, (λ i j. refl), (λ back. refl)))
    (λ version prog vers proc stamp name more last a short fit few v q.
    let less = size_less stamp name more in
    let inner = stamped stamp [] more in
    let few' : length (zero_spelling inner) ≤ 400 = omega (arith, less, few) in
    let d = opaque Text (called "machinename") 255 then owners in
    let c = credential then verifier in
    let b = word "proc" then c in
    let fits : Fits parameters inner =
    word_fits (called "stamp") d stamp _ (_, more, ([], omega arith, refl), fit, refl) in
    let back_fits : Fits c (auth_with inner last) =
    (_, last, (1, _, refl, (inner, fits, few', refl), refl), v, refl) in (
      four_words version prog vers proc (auth_with inner last),
      (
        version,
        _,
        a,
        word_fits (called "prog") (word "vers" then b) prog _
            (word_fits (called "vers") b vers _ (word_fits (called "proc") c proc _ back_fits)),
        refl,
      ),
      (λ i j. refl),
      (λ back. rw (same_name, less) refl),
    )) head p p

-- ---- the call without the name

call_unnamed : (m : List Item) → FitsCall m → FitsCall (unnamed_items m)
call_unnamed m p =
    let h = is_headed_call m p in
    let s = mtype_is (0 ∷ []) h.start h.start_fits in
    let u = unnamed_head h.head h.head_fits in
    let x = Word (called "xid") h.number in
    let t = Word (called "mtype") s.0 in
    headed_call_fits (unnamed_items m) (record {
      number = h.number;
      start = t ∷ [];
      head = u.0;
      back = h.back;
      start_fits = subst (Fits (listed "mtype" (0 ∷ []))) s.1 h.start_fits;
      head_fits = u.1;
      back_fits =
          subst (λ id. FitsLayout (arguments_of id) h.back)
          (ap (λ (l : List Item). procedure_in (x ∷ (l ++ h.head))) s.1 ∙ sym (u.2 x t))
          h.back_fits;
      is =
          ap unnamed_items (h.is ∙ ap (λ (l : List Item). x ∷ ((l ++ h.head) ++ h.back)) s.1)
          ∙ ap (λ (l : List Item). x ∷ t ∷ l) (u.3 h.back);
    })

-- ---- its bytes

abbrev IsSpliced : List Item → Type 0
IsSpliced m = unnamed_body (zero_spelling m) ≡ zero_spelling (unnamed_items m)

call_bytes : (m : List Item) → FitsCall m → IsSpliced m
call_bytes m p =
    let h = is_headed_call m p in
    let s = mtype_is (0 ∷ []) h.start h.start_fits in
    let x = Word (called "xid") h.number in
    subst IsSpliced
    (sym (h.is ∙ ap (λ (l : List Item). x ∷ ((l ++ h.head) ++ h.back)) s.1))
    (by_head (λ l. IsSpliced (x ∷ Word (called "mtype") s.0 ∷ (l ++ h.back)))
    (λ version prog vers proc flavor body verf_body.
    not_spliced h.number s.0 version prog vers proc (zero_spelling (Opaque Var (called "cred_body")
    body ∷ Word (called "verf_flavor") flavor
    ∷ Opaque Var (called "verf_body") verf_body ∷ h.back)))
    (λ version prog vers proc stamp name more last a short fit few v.
    spliced h.number s.0 version prog vers proc
    (length (zero_spelling (stamped stamp name more))) stamp name
    (zero_spelling ((more ++ last) ++ h.back)) (omega (arith, few)) (omega (arith, short))
    ∙ rw same_name refl) h.head h.head_fits)

-- ---- by either way

module _ (way : Way) (m : List Item) where
  abbrev named : List Item
  named = named_by way m

  pub call_named : FitsCall m → FitsCall named
  call_named p = any_way (λ f. FitsCall (f m)) p (call_unnamed m p) way

  pub named_xid : xid_in named ≡ xid_in m
  named_xid = any_way (λ f. xid_in (f m) ≡ xid_in m) refl (words_stay 7 m 0 (omega arith)) way

  pub named_procedure : procedure_in named ≡ procedure_in m
  named_procedure =
      let stays = words_stay 7 m in
      any_way (λ f. procedure_in (f m) ≡ procedure_in m) refl
      (rw (stays 3 (omega arith), stays 4 (omega arith), stays 5 (omega arith)) refl) way

  pub named_spelled : (bytes : List ℕ) → Spells m bytes
      → Spells named (zero_spelling named)
      × (length (zero_spelling named) ≤ length (zero_spelling m))
  named_spelled bytes p =
      any_way (λ f. Spells (f m) (zero_spelling (f m))
      × (length (zero_spelling (f m)) ≤ length (zero_spelling m)))
      (zero_spelled_all m bytes p, omega arith)
      (unnamed_spelled m bytes p) way

  pub named_bytes_of : FitsCall m → body_by way (zero_spelling m) ≡ zero_spelling named
  named_bytes_of p =
      elim way as (λ way. body_by way (zero_spelling m) ≡ zero_spelling (named_by way m))
      [ Keep ↦ refl | _ ↦ call_bytes m p ]
