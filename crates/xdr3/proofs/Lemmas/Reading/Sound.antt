-- What reading gives is so: items that were read fit and are spelled, and what is refused is
-- refused.
use Rattle.xdr3.proofs.Common.{◌≡◌, ℕ, zero, suc, ◌+◌, ◌-◌, ◌^◌, ◌<◌, ◌≤◌, Bool, true, false, cond, ltb, eqb, List, [], ◌∷◌, ◌++◌, length, take, drop, Result, Ok, Err, refl, sym, ap, subst, ◌∙◌, append_assoc, arith, inl, inr, ◌⊎◌, AllByRecursion, take_at, take-append-drop, length-append, length-take, length-drop, append-nil, drop-take, drop_all, big_bytes, Reason, Short, BadBool, TooLong, AuthLength, Stop, Kind, Item, Word, Hyper, Fixed, WriteVerf, Opaque, AreBytes, word_bytes, residue, SpellsItem, zero_spelling, Shape, choose, hyper, fixed, write_verf, opaque, nothing, both, linked, sized, is_bool, is_at_most, links, Fits, Refusal, IsShort, Then, ThenWord, RefusesWord, RefusesWindow, Refuses, in_window, Outcome, ◌>>=◌, refused, run_at, number_at, word_at, opaque_at, links_at, from_window, window_at, reading}
use Rattle.std.proofs.lemmas.Bool.{ltb-true, ltb-false, leb-true, eqb-true, eqb-false, cases_Bool}
use Rattle.xdr3.proofs.Lemmas.Reading.Bytes.{AreBytes-drop, AreBytes-take, bind_ok, bind_err, accept_ok, accept_err, pair_is, err_is, never, TakesRun, run_takes, IsCut, run_cut, number_cut, wide4, wide8, number_takes, drop_parts}
use Rattle.xdr3.proofs.Lemmas.Reading.Items.{Spells-one, length_of_spelling, Takes, Takes-nothing, Takes-then, Refused, Refused-weaker, Refused-then, Refused-after}

-- ---- one item

pub item_taken : (x : Item) (run body : List ℕ) (at to len : ℕ) → SpellsItem x run
    → TakesRun run body at to len → Takes (x ∷ []) body at to
item_taken x run body at to len s t = record {
  front = run;
  spells = Spells-one x run s;
  is = t.is;
  to_is = omega (arith, t.to_is, t.len_is);
  within = t.within;
}

pub short_refused : (len : ℕ) (body : List ℕ) (at : ℕ) (stop : Stop) → IsCut body at len stop
    → Refused (IsShort len) body at stop
short_refused len body at stop c =
    record { after = 0; refuses = (c.few, refl, c.reason_is); at_is = omega (arith, c.at_is) }

pub record TakesWord (accepted : ℕ → Bool) (name : List ℕ) (n : ℕ) (body : List ℕ) (at to : ℕ) :
    Type 0 where
  pub accepts : accepted n ≡ true
  pub takes : Takes (Word name n ∷ []) body at to

pub word_takes : (accepted : ℕ → Bool) (other : Reason) (name body : List ℕ) (n at to : ℕ)
    → AreBytes body → word_at accepted other body at ≡ Ok (n, to)
    → TakesWord accepted name n body at to
word_takes accepted other name body n at to fits e =
    let b =
    bind_ok (number_at 4 body at) (λ n. cond (accepted n.0) (Ok n) (refused at other)) (n, to) e in
    let g = accept_ok (accepted b.0.0) (record { at = at; reason = other }) b.0 (n, to) b.2 in
    let t = number_takes 4 wide4 body b.0.0 at b.0.1 fits b.1 in
    let made : TakesWord accepted name b.0.0 body at b.0.1 =
    record {
      accepts = g.0;
      takes =
          item_taken (Word name b.0.0) (word_bytes b.0.0) body at b.0.1 4 (t.1, refl) t.0;
    } in
    subst (λ (x : ℕ × ℕ). TakesWord accepted name x.0 body at x.1) g.1 made

pub word_refused : (accepted : ℕ → Bool) (other : Reason) (body : List ℕ) (at : ℕ) (stop : Stop)
    → AreBytes body → at ≤ length body → word_at accepted other body at ≡ Err stop
    → Refused (RefusesWord accepted other) body at stop
word_refused accepted other body at stop fits h e =
    elim
    (bind_err (number_at 4 body at) (λ n. cond (accepted n.0) (Ok n) (refused at other)) stop e) [
      | inl cut ↦ Refused-weaker (IsShort 4) (RefusesWord accepted other) body at stop
          (λ after r. inl r) (short_refused 4 body at stop (number_cut 4 body at stop h cut))
      | inr x ↦
          let g = accept_err (accepted x.0.0) (record { at = at; reason = other }) x.0 stop x.2 in
          let t = number_takes 4 wide4 body x.0.0 at x.0.1 fits x.1 in
          record {
            after = 0;
            refuses =
                inr (
                  x.0.0,
                  drop x.0.1 body,
                  t.1,
                  t.0.is,
                  g.0,
                  refl,
                  sym (ap (λ (s : Stop). s.reason) g.1),
                );
            at_is = omega (arith, ap (λ (s : Stop). s.at) g.1);
          }
    ]

-- ---- what is proved of a shape

-- what a reader gives is so
pub record IsSound (Front : List Item → Type 0) (R : Refusal)
    (read : List ℕ → ℕ → Outcome (List Item)) : Type 0 where
  pub takes : (body : List ℕ) (at to : ℕ) (items : List Item) → AreBytes body → at ≤ length body
      → read body at ≡ Ok (items, to) → Front items × Takes items body at to
  pub refuses : (body : List ℕ) (at : ℕ) (stop : Stop) → AreBytes body → at ≤ length body
      → read body at ≡ Err stop → Refused R body at stop

abbrev pub ShapeIsSound : Shape → Type 0
ShapeIsSound s = IsSound (Fits s) (Refuses s) (reading s)

-- moves a fact along an equation between two outcomes
along_ok : (P : List Item → ℕ → Type 0) (items xs : List Item) (to p : ℕ) → (items ≡ xs) × (to ≡ p)
    → P items to → P xs p
along_ok P items xs to p e h = subst (P xs) e.1 (subst (λ (ys : List Item). P ys to) e.0 h)

-- ---- words that choose

choose_sound : (name : List ℕ) (accepted : ℕ → Bool) (other : Reason) (next : ℕ → Shape)
    → ((n : ℕ) → ShapeIsSound (next n)) → ShapeIsSound (choose name accepted other next)
unfolding reading
choose_sound name accepted other next ih = record {
  takes = λ body at to items fits h e.
      let w =
      bind_ok (word_at accepted other body at)
      (λ n. reading (next n.0) body n.1 >>= λ more. Ok (Word name n.0 ∷ more.0, more.1))
      (items, to) e in
      let m =
      bind_ok (reading (next w.0.0) body w.0.1) (λ more. Ok (Word name w.0.0 ∷ more.0, more.1))
      (items, to) w.2 in
      let word = word_takes accepted other name body w.0.0 at w.0.1 fits w.1 in
      let more = (ih w.0.0).takes body w.0.1 m.0.1 m.0.0 fits word.takes.within m.1 in
      along_ok (λ xs p. Fits (choose name accepted other next) xs × Takes xs body at p)
      (Word name w.0.0 ∷ m.0.0) items m.0.1 to
      (pair_is (Word name w.0.0 ∷ m.0.0) items m.0.1 to m.2) (
        (w.0.0, m.0.0, word.accepts, more.0, refl),
        Takes-then (Word name w.0.0 ∷ []) m.0.0 body at w.0.1 m.0.1 word.takes more.1,
      );
  refuses = λ body at stop fits h e.
      elim
      (bind_err (word_at accepted other body at)
      (λ n. reading (next n.0) body n.1 >>= λ more. Ok (Word name n.0 ∷ more.0, more.1))
      stop e) [
        | inl cut ↦ Refused-weaker (RefusesWord accepted other)
            (Refuses (choose name accepted other next)) body at stop (λ after r. inl r)
            (word_refused accepted other body at stop fits h cut)
        | inr w ↦
            let word = word_takes accepted other name body w.0.0 at w.0.1 fits w.1 in
            elim
            (bind_err (reading (next w.0.0) body w.0.1)
            (λ more. Ok (Word name w.0.0 ∷ more.0, more.1)) stop w.2) [
              | inl cut ↦
                  Refused-weaker (ThenWord name w.0.0 (Refuses (next w.0.0)))
                  (Refuses (choose name accepted other next)) body at stop
                  (λ after r. inr (w.0.0, word.accepts, r))
                  (Refused-then (λ items. items ≡ Word name w.0.0 ∷ []) (Refuses (next w.0.0))
                  (Word name w.0.0 ∷ []) body at w.0.1 stop refl word.takes
                  ((ih w.0.0).refuses body w.0.1 stop fits word.takes.within cut))
              | inr m ↦ absurd (never (Word name w.0.0 ∷ m.0.0, m.0.1) stop m.2)
            ]
      ];
}

-- ---- items of a fixed length

run_sound : (Front : List Item → Type 0) (make : List ℕ → Item)
    → ((run : List ℕ) → length run ≡ 8 → AreBytes run → SpellsItem (make run) run)
    → ((run : List ℕ) → Front (make run ∷ []))
    → IsSound Front (IsShort 8) (λ body at. run_at 8 body at >>= λ run. Ok (make run.0 ∷ [], run.1))
run_sound Front make spells fits_of = record {
  takes = λ body at to items fits h e.
      let r = bind_ok (run_at 8 body at) (λ run. Ok (make run.0 ∷ [], run.1)) (items, to) e in
      let t = run_takes 8 body r.0.0 at r.0.1 r.1 in
      let run_fits : AreBytes r.0.0 =
      subst AreBytes (take_at r.0.0 (drop r.0.1 body) 8 t.len_is)
      (AreBytes-take 8 (r.0.0 ++ drop r.0.1 body)
      (subst AreBytes t.is (AreBytes-drop at body fits))) in
      along_ok (λ xs p. Front xs × Takes xs body at p) (make r.0.0 ∷ []) items r.0.1 to
      (pair_is (make r.0.0 ∷ []) items r.0.1 to r.2) (
        fits_of r.0.0,
        item_taken (make r.0.0) r.0.0 body at r.0.1 8 (spells r.0.0 t.len_is run_fits) t,
      );
  refuses = λ body at stop fits h e.
      elim (bind_err (run_at 8 body at) (λ run. Ok (make run.0 ∷ [], run.1)) stop e) [
        | inl cut ↦ short_refused 8 body at stop (run_cut 8 body at stop h cut)
        | inr r ↦ absurd (never (make r.0.0 ∷ [], r.0.1) stop r.2)
      ];
}

fixed_sound : (name : List ℕ) → ShapeIsSound (fixed name)
unfolding reading
fixed_sound name =
    run_sound (Fits (fixed name)) (Fixed name) (λ run l b. (l, b, refl)) (λ run. (run, refl))

write_verf_sound : (name : List ℕ) → ShapeIsSound (write_verf name)
unfolding reading
write_verf_sound name =
    run_sound (Fits (write_verf name)) (WriteVerf name) (λ run l b. (l, b, refl))
    (λ run. (run, refl))

hyper_sound : (name : List ℕ) → ShapeIsSound (hyper name)
unfolding reading
hyper_sound name = record {
  takes = λ body at to items fits h e.
      let n = bind_ok (number_at 8 body at) (λ n. Ok (Hyper name n.0 ∷ [], n.1)) (items, to) e in
      let t = number_takes 8 wide8 body n.0.0 at n.0.1 fits n.1 in
      along_ok (λ xs p. Fits (hyper name) xs × Takes xs body at p) (Hyper name n.0.0 ∷ []) items
      n.0.1 to (pair_is (Hyper name n.0.0 ∷ []) items n.0.1 to n.2) (
        (n.0.0, refl),
        item_taken (Hyper name n.0.0) (big_bytes 8 n.0.0) body at n.0.1 8 (t.1, refl) t.0,
      );
  refuses = λ body at stop fits h e.
      elim (bind_err (number_at 8 body at) (λ n. Ok (Hyper name n.0 ∷ [], n.1)) stop e) [
        | inl cut ↦ short_refused 8 body at stop (number_cut 8 body at stop h cut)
        | inr n ↦ absurd (never (Hyper name n.0.0 ∷ [], n.0.1) stop n.2)
      ];
}

-- ---- opaque data

opaque_spelled : (kind : Kind) (name run left body : List ℕ) (n at p to max : ℕ) → AreBytes body
    → n < 2 ^ 32 → TakesRun (word_bytes n) body at p 4 → TakesRun run body p to (n + residue n)
    → Takes (Opaque kind name (take n run) ∷ []) body at to × (length (take n run) ≡ n)
opaque_spelled kind name run left body n at p to max fits limit w t =
    let len : length (take n run) ≡ n = omega (arith, length-take n run, t.len_is) in
    let run_fits : AreBytes run =
    subst AreBytes (take_at run (drop to body) (n + residue n) t.len_is)
    (AreBytes-take (n + residue n) (run ++ drop to body)
    (subst AreBytes t.is (AreBytes-drop p body fits))) in
    let bytes : word_bytes n ++ run
    ≡ word_bytes (length (take n run)) ++ (take n run ++ drop n run) =
    ap (λ (r : List ℕ). word_bytes n ++ r) (sym (take-append-drop n run))
    ∙ ap (λ (k : ℕ). word_bytes k ++ (take n run ++ drop n run)) (sym len) in
    let spelled : SpellsItem (Opaque kind name (take n run)) (word_bytes n ++ run) = (
      drop n run,
      omega (arith, len),
      AreBytes-take n run run_fits,
      rw len (omega (arith, length-drop n run, t.len_is)),
      AreBytes-drop n run run_fits,
      bytes,
    ) in (
      record {
        front = word_bytes n ++ run;
        spells = Spells-one (Opaque kind name (take n run)) (word_bytes n ++ run) spelled;
        is =
            w.is ∙ ap (λ (r : List ℕ). word_bytes n ++ r) t.is
            ∙ sym (append_assoc (word_bytes n) run (drop to body));
        to_is =
            omega (arith, t.to_is, w.to_is, length-append (word_bytes n) run, w.len_is, t.len_is);
        within = t.within;
      },
      len,
    )

nothing_sound : ShapeIsSound nothing
unfolding reading
nothing_sound = record {
  takes = λ body at to items fits h e.
      along_ok (λ xs p. Fits nothing xs × Takes xs body at p) [] items at to
      (pair_is [] items at to e) (refl, Takes-nothing body at h);
  refuses = λ body at stop fits h e. absurd (never ([], at) stop e);
}

both_sound : (a b : Shape) → ShapeIsSound a → ShapeIsSound b → ShapeIsSound (both a b)
unfolding reading
both_sound a b iha ihb = record {
  takes = λ body at to items fits h e.
      let x =
      bind_ok (reading a body at) (λ x. reading b body x.1 >>= λ y. Ok (x.0 ++ y.0, y.1))
      (items, to) e in
      let y = bind_ok (reading b body x.0.1) (λ y. Ok (x.0.0 ++ y.0, y.1)) (items, to) x.2 in
      let p = iha.takes body at x.0.1 x.0.0 fits h x.1 in
      let q = ihb.takes body x.0.1 y.0.1 y.0.0 fits p.1.within y.1 in
      along_ok (λ xs p. Fits (both a b) xs × Takes xs body at p) (x.0.0 ++ y.0.0) items y.0.1 to
      (pair_is (x.0.0 ++ y.0.0) items y.0.1 to y.2)
      ((x.0.0, y.0.0, p.0, q.0, refl), Takes-then x.0.0 y.0.0 body at x.0.1 y.0.1 p.1 q.1);
  refuses = λ body at stop fits h e.
      elim
      (bind_err (reading a body at) (λ x. reading b body x.1 >>= λ y. Ok (x.0 ++ y.0, y.1)) stop
      e) [
        | inl cut ↦ Refused-weaker (Refuses a) (Refuses (both a b)) body at stop (λ after r. inl r)
            (iha.refuses body at stop fits h cut)
        | inr x ↦
            let p = iha.takes body at x.0.1 x.0.0 fits h x.1 in
            elim (bind_err (reading b body x.0.1) (λ y. Ok (x.0.0 ++ y.0, y.1)) stop x.2) [
              | inl cut ↦
                  Refused-weaker (Then (Fits a) (Refuses b)) (Refuses (both a b)) body at stop
                  (λ after r. inr r)
                  (Refused-then (Fits a) (Refuses b) x.0.0 body at x.0.1 stop p.0 p.1
                  (ihb.refuses body x.0.1 stop fits p.1.within cut))
              | inr y ↦ absurd (never (x.0.0 ++ y.0.0, y.0.1) stop y.2)
            ]
      ];
}

-- a word that is at most a number
at_most_takes : (max : ℕ) (name body : List ℕ) (n at to : ℕ) → AreBytes body
    → word_at (is_at_most max) TooLong body at ≡ Ok (n, to)
    → (n ≤ max) × (n < 2 ^ 32) × TakesRun (word_bytes n) body at to 4
    × Takes (Word name n ∷ []) body at to
at_most_takes max name body n at to fits e =
    let b =
    bind_ok (number_at 4 body at) (λ n. cond (is_at_most max n.0) (Ok n) (refused at TooLong))
    (n, to) e in
    let g =
    accept_ok (is_at_most max b.0.0) (record { at = at; reason = TooLong }) b.0 (n, to) b.2 in
    let t = number_takes 4 wide4 body b.0.0 at b.0.1 fits b.1 in
    subst
    (λ (x : ℕ × ℕ). (x.0 ≤ max) × (x.0 < 2 ^ 32) × TakesRun (word_bytes x.0) body at x.1 4
    × Takes (Word name x.0 ∷ []) body at x.1) g.1 (
      leb-true _ _ g.0,
      t.1,
      t.0,
      item_taken (Word name b.0.0) (word_bytes b.0.0) body at b.0.1 4 (t.1, refl) t.0,
    )

opaque_sound : (kind : Kind) (name : List ℕ) (max : ℕ) → ShapeIsSound (opaque kind name max)
unfolding reading
opaque_sound kind name max = record {
  takes = λ body at to items fits h e.
      let o =
      bind_ok (opaque_at max body at) (λ run. Ok (Opaque kind name run.0 ∷ [], run.1)) (items, to) e
      in
      let n =
      bind_ok (word_at (is_at_most max) TooLong body at)
      (λ n. run_at (n.0 + residue n.0) body n.1 >>= λ run. Ok (take n.0 run.0, run.1)) o.0 o.1
      in
      let r =
      bind_ok (run_at (n.0.0 + residue n.0.0) body n.0.1) (λ run. Ok (take n.0.0 run.0, run.1)) o.0
      n.2 in
      let w = at_most_takes max name body n.0.0 at n.0.1 fits n.1 in
      let t = run_takes (n.0.0 + residue n.0.0) body r.0.0 n.0.1 r.0.1 r.1 in
      let s =
      opaque_spelled kind name r.0.0 (drop r.0.1 body) body n.0.0 at n.0.1 r.0.1 max fits w.1 w.2 t
      in
      let same = pair_is (take n.0.0 r.0.0) o.0.0 r.0.1 o.0.1 r.2 in
      let made : Fits (opaque kind name max) (Opaque kind name o.0.0 ∷ [])
      × Takes (Opaque kind name o.0.0 ∷ []) body at o.0.1 =
      subst
      (λ (run : List ℕ).
      Fits (opaque kind name max) (Opaque kind name run ∷ [])
      × Takes (Opaque kind name run ∷ []) body at o.0.1) same.0
      (subst
      (λ (p : ℕ).
      Fits (opaque kind name max) (Opaque kind name (take n.0.0 r.0.0) ∷ [])
      × Takes (Opaque kind name (take n.0.0 r.0.0) ∷ []) body at p) same.1
      ((take n.0.0 r.0.0, omega (arith, s.1, w.0), refl), s.0)) in
      along_ok (λ xs p. Fits (opaque kind name max) xs × Takes xs body at p)
      (Opaque kind name o.0.0 ∷ []) items o.0.1 to
      (pair_is (Opaque kind name o.0.0 ∷ []) items o.0.1 to o.2) made;
  refuses = λ body at stop fits h e.
      elim
      (bind_err (opaque_at max body at) (λ run. Ok (Opaque kind name run.0 ∷ [], run.1)) stop e) [
        | inr o ↦ absurd (never (Opaque kind name o.0.0 ∷ [], o.0.1) stop o.2)
        | inl cut ↦
            elim
            (bind_err (word_at (is_at_most max) TooLong body at)
            (λ n. run_at (n.0 + residue n.0) body n.1 >>= λ run. Ok (take n.0 run.0, run.1))
            stop cut) [
              | inl short ↦ Refused-weaker (RefusesWord (is_at_most max) TooLong)
                  (Refuses (opaque kind name max)) body at stop (λ after r. inl r)
                  (word_refused (is_at_most max) TooLong body at stop fits h short)
              | inr n ↦
                  let w = at_most_takes max name body n.0.0 at n.0.1 fits n.1 in
                  elim
                  (bind_err (run_at (n.0.0 + residue n.0.0) body n.0.1)
                  (λ run. Ok (take n.0.0 run.0, run.1)) stop n.2) [
                    | inl short ↦
                        Refused-weaker (ThenWord name n.0.0 (IsShort (n.0.0 + residue n.0.0)))
                        (Refuses (opaque kind name max)) body at stop
                        (λ after r. inr (n.0.0, w.0, r))
                        (Refused-then (λ items. items ≡ Word name n.0.0 ∷ [])
                        (IsShort (n.0.0 + residue n.0.0)) (Word name n.0.0 ∷ []) body at n.0.1
                        stop refl w.3
                        (short_refused (n.0.0 + residue n.0.0) body n.0.1 stop
                        (run_cut (n.0.0 + residue n.0.0) body n.0.1 stop w.3.within short)))
                    | inr r ↦ absurd (never (take n.0.0 r.0.0, r.0.1) stop r.2)
                  ]
            ]
      ];
}

-- ---- linked lists

abbrev AreLinks : List ℕ → (List Item → Type 0) → List Item → Type 0
AreLinks name Fitting items =
    (parts : List (List Item)) × AllByRecursion Fitting parts × (items ≡ links name parts)

abbrev RefusesLink : List ℕ → Refusal → Refusal
RefusesLink name R left after why =
    RefusesWord is_bool BadBool left after why ⊎ ThenWord name 1 R left after why

abbrev EndsLinks : List ℕ → (List Item → Type 0) → List Item → Type 0
EndsLinks name Fitting items = (parts : List (List Item)) × AllByRecursion Fitting parts
    × (items ≡ links name parts ++ Word name 0 ∷ [])

one_more : (name : List ℕ) (Fitting : List Item → Type 0) (part more : List Item) → Fitting part
    → AreLinks name Fitting more → AreLinks name Fitting ((Word name 1 ∷ part) ++ more)
one_more name Fitting part more f l =
    (part ∷ l.0, (f, l.1), ap (λ (m : List Item). (Word name 1 ∷ part) ++ m) l.2)

one_more_ends : (name : List ℕ) (Fitting : List Item → Type 0) (part more : List Item)
    → Fitting part → EndsLinks name Fitting more
    → EndsLinks name Fitting ((Word name 1 ∷ part) ++ more)
one_more_ends name Fitting part more f l = (
  part ∷ l.0,
  (f, l.1),
  ap (λ (m : List Item). (Word name 1 ∷ part) ++ m) l.2
      ∙ sym (append_assoc (Word name 1 ∷ part) (links name l.0) (Word name 0 ∷ [])),
)

-- a word below 2 that is not 0 is 1
is_one : (n : ℕ) → is_bool n ≡ true → eqb n 0 ≡ false → n ≡ 1
is_one n b z = omega (arith, ltb-true n 2 b, eqb-false n 0 z)

links_after : (one : List ℕ → ℕ → Outcome (List Item)) (name : List ℕ) (fuel : ℕ) (body : List ℕ)
    → ℕ × ℕ → Outcome (List Item)
links_after one name fuel body more =
    cond (eqb more.0 0) (Ok (Word name 0 ∷ [], more.1)) (one body more.1 >>= λ part.
    links_at one name fuel body part.1 >>= λ parts.
    Ok (Word name 1 ∷ (part.0 ++ parts.0), parts.1))

links_cases : {Goal : Type 0} (one : List ℕ → ℕ → Outcome (List Item)) (name : List ℕ) (fuel : ℕ)
    (body : List ℕ) (more : ℕ × ℕ) (r : Result (List Item × ℕ) Stop)
    → links_after one name fuel body more ≡ r
    → (eqb more.0 0 ≡ true → Ok (Word name 0 ∷ [], more.1) ≡ r → Goal)
    → (eqb more.0 0 ≡ false
    → (one body more.1 >>= λ part. links_at one name fuel body part.1 >>= λ parts.
    Ok (Word name 1 ∷ (part.0 ++ parts.0), parts.1)) ≡ r → Goal) → Goal
unfolding links_after
links_cases one name fuel body more r e f g =
    elim (cases_Bool (eqb more.0 0)) [
      | inl last ↦ f last (rw last at e)
      | inr go ↦ g go (rw go at e)
    ]

links_take : (one : List ℕ → ℕ → Outcome (List Item)) (Fitting : List Item → Type 0) (R : Refusal)
    (name : List ℕ) → IsSound Fitting R one
    → (fuel : ℕ) (body : List ℕ) (at to : ℕ) (items : List Item) → AreBytes body → at ≤ length body
    → links_at one name fuel body at ≡ Ok (items, to)
    → EndsLinks name Fitting items × Takes items body at to
unfolding links_after
links_take one Fitting R name ih zero body at to items fits h e = absurd cc
links_take one Fitting R name ih (suc fuel) body at to items fits h e =
    let w =
    bind_ok (word_at is_bool BadBool body at) (links_after one name fuel body) (items, to) e in
    let word = word_takes is_bool BadBool name body w.0.0 at w.0.1 fits w.1 in
    links_cases one name fuel body w.0 (Ok (items, to)) w.2
    (λ last e0.
    along_ok (λ xs p. EndsLinks name Fitting xs × Takes xs body at p) (Word name 0 ∷ []) items w.0.1
    to (pair_is (Word name 0 ∷ []) items w.0.1 to e0) (
      ([], tt, refl),
      subst (λ (k : ℕ). Takes (Word name k ∷ []) body at w.0.1) (eqb-true w.0.0 0 last)
          word.takes,
    ))
    (λ go e1.
    let p =
    bind_ok (one body w.0.1)
    (λ part. links_at one name fuel body part.1 >>= λ parts.
    Ok (Word name 1 ∷ (part.0 ++ parts.0), parts.1)) (items, to) e1 in
    let q =
    bind_ok (links_at one name fuel body p.0.1)
    (λ parts. Ok (Word name 1 ∷ (p.0.0 ++ parts.0), parts.1)) (items, to) p.2 in
    let first = ih.takes body w.0.1 p.0.1 p.0.0 fits word.takes.within p.1 in
    let rest =
    links_take one Fitting R name ih fuel body p.0.1 q.0.1 q.0.0 fits first.1.within q.1 in
    let head =
    subst (λ (k : ℕ). Takes (Word name k ∷ []) body at w.0.1) (is_one w.0.0 word.accepts go)
    word.takes in
    along_ok (λ xs p. EndsLinks name Fitting xs × Takes xs body at p)
    (Word name 1 ∷ (p.0.0 ++ q.0.0)) items q.0.1 to
    (pair_is (Word name 1 ∷ (p.0.0 ++ q.0.0)) items q.0.1 to q.2) (
      one_more_ends name Fitting p.0.0 q.0.0 first.0 rest.0,
      Takes-then (Word name 1 ∷ p.0.0) q.0.0 body at p.0.1 q.0.1
          (Takes-then (Word name 1 ∷ []) p.0.0 body at w.0.1 p.0.1 head first.1) rest.1,
    ))

-- the place moves on by at least a word
word_moves : (name : List ℕ) (n : ℕ) (body : List ℕ) (at to : ℕ)
    → Takes (Word name n ∷ []) body at to → at + 4 ≤ to
word_moves name n body at to t =
    omega (arith, t.to_is, length_of_spelling (Word name n ∷ []) t.front t.spells)

links_refused : (one : List ℕ → ℕ → Outcome (List Item)) (Fitting : List Item → Type 0)
    (R : Refusal) (name : List ℕ) → IsSound Fitting R one
    → (fuel : ℕ) (body : List ℕ) (at : ℕ) (stop : Stop) → AreBytes body → at ≤ length body
    → length body < fuel + at → links_at one name fuel body at ≡ Err stop
    → Refused (Then (AreLinks name Fitting) (RefusesLink name R)) body at stop
unfolding links_after
links_refused one Fitting R name ih zero body at stop fits h enough e = absurd (omega arith)
links_refused one Fitting R name ih (suc fuel) body at stop fits h enough e =
    elim (bind_err (word_at is_bool BadBool body at) (links_after one name fuel body) stop e) [
      | inl cut ↦
          Refused-then (AreLinks name Fitting) (RefusesLink name R) [] body at at stop
          ([], tt, refl) (Takes-nothing body at h)
          (Refused-weaker (RefusesWord is_bool BadBool) (RefusesLink name R) body at stop
          (λ after r. inl r) (word_refused is_bool BadBool body at stop fits h cut))
      | inr w ↦
          let word = word_takes is_bool BadBool name body w.0.0 at w.0.1 fits w.1 in
          let moved = word_moves name w.0.0 body at w.0.1 word.takes in
          links_cases one name fuel body w.0 (Err stop) w.2
          (λ last e0. absurd (never (Word name 0 ∷ [], w.0.1) stop e0))
          (λ go e1.
          let head =
          subst (λ (k : ℕ). Takes (Word name k ∷ []) body at w.0.1) (is_one w.0.0 word.accepts go)
          word.takes in
          elim
          (bind_err (one body w.0.1)
          (λ part. links_at one name fuel body part.1 >>= λ parts.
          Ok (Word name 1 ∷ (part.0 ++ parts.0), parts.1)) stop e1) [
            | inl cut ↦
                Refused-then (AreLinks name Fitting) (RefusesLink name R) [] body at at stop
                ([], tt, refl) (Takes-nothing body at h)
                (Refused-weaker (ThenWord name 1 R) (RefusesLink name R) body at stop
                (λ after r. inr r)
                (Refused-then (λ items. items ≡ Word name 1 ∷ []) R (Word name 1 ∷ []) body at w.0.1
                stop refl head (ih.refuses body w.0.1 stop fits word.takes.within cut)))
            | inr p ↦
                let first = ih.takes body w.0.1 p.0.1 p.0.0 fits word.takes.within p.1 in
                elim
                (bind_err (links_at one name fuel body p.0.1)
                (λ parts. Ok (Word name 1 ∷ (p.0.0 ++ parts.0), parts.1)) stop p.2) [
                  | inl cut ↦
                      Refused-after (AreLinks name Fitting) (AreLinks name Fitting)
                      (RefusesLink name R) (Word name 1 ∷ p.0.0) body at p.0.1 stop
                      (Takes-then (Word name 1 ∷ []) p.0.0 body at w.0.1 p.0.1 head first.1)
                      (λ more f. one_more name Fitting p.0.0 more first.0 f)
                      (links_refused one Fitting R name ih fuel body p.0.1 stop fits first.1.within
                      (omega (arith, first.1.to_is)) cut)
                  | inr q ↦ absurd (never (Word name 1 ∷ (p.0.0 ++ q.0.0), q.0.1) stop q.2)
                ]
          ])
    ]

linked_sound : (name : List ℕ) (s : Shape) → ShapeIsSound s → ShapeIsSound (linked name s)
unfolding reading
linked_sound name s ih = record {
  takes =
      λ body at to items fits h e.
      links_take (reading s) (Fits s) (Refuses s) name ih (suc (length body - at)) body at to
      items fits h e;
  refuses =
      λ body at stop fits h e.
      links_refused (reading s) (Fits s) (Refuses s) name ih (suc (length body - at)) body at
      stop fits h (omega arith) e;
}

-- ---- windows

window_of : (body : List ℕ) (at len : ℕ) → drop at (take (at + len) body) ≡ take len (drop at body)
window_of body at len = drop-take at len body

pub from_window_ok : (end : ℕ) (r : Outcome (List Item)) (items : List Item) (to : ℕ)
    → from_window end r ≡ Ok (items, to) → (r ≡ Ok (items, to)) × (to ≡ end)
from_window_ok end (Ok x) items to e =
    let g = accept_ok (eqb x.1 end) (record { at = x.1; reason = AuthLength }) x (items, to) e in (
      ap (λ (y : List Item × ℕ). Ok y) g.1,
      sym (ap (λ (y : List Item × ℕ). y.1) g.1) ∙ eqb-true x.1 end g.0,
    )
from_window_ok end (Err stop) items to e = absurd cc

abbrev LeavesOver : ℕ → Outcome (List Item) → Stop → Type 0
LeavesOver end r stop = (x : List Item × ℕ) × (r ≡ Ok x) × (x.1 ≡ end → ⊥) × (stop.at ≡ x.1)
    × (stop.reason ≡ AuthLength)

from_window_err : (end : ℕ) (r : Outcome (List Item)) (stop : Stop) → from_window end r ≡ Err stop
    → ((inner : Stop) × (r ≡ Err inner) × (stop.at ≡ inner.at)
    × (stop.reason ≡ in_window inner.reason)) ⊎ LeavesOver end r stop
from_window_err end (Ok x) stop e =
    let g = accept_err (eqb x.1 end) (record { at = x.1; reason = AuthLength }) x stop e in
    inr (
      x,
      refl,
      eqb-false x.1 end g.0,
      sym (ap (λ (s : Stop). s.at) g.1),
      sym (ap (λ (s : Stop). s.reason) g.1),
    )
from_window_err end (Err inner) stop e =
    let d =
    err_is {A = List Item × ℕ} (record { at = inner.at; reason = in_window inner.reason }) stop e in
    inl (inner, refl, sym (ap (λ (s : Stop). s.at) d), sym (ap (λ (s : Stop). s.reason) d))

record TakesWindow (Fitting : List Item → Type 0) (items : List Item) (body : List ℕ)
    (at to len : ℕ) : Type 0 where
  fits : Fitting items
  len_is : length (zero_spelling items) ≡ len
  takes : Takes items body at to

window_takes : (one : List ℕ → ℕ → Outcome (List Item)) (Fitting : List Item → Type 0) (R : Refusal)
    → IsSound Fitting R one → (len : ℕ) (body : List ℕ) (at to : ℕ) (items : List Item)
    → AreBytes body → window_at one len body at ≡ Ok (items, to)
    → TakesWindow Fitting items body at to len
window_takes one Fitting R ih len body at to items fits e =
    let g =
    when_long (ltb (length body) (at + len))
    (from_window (at + len) (one (take (at + len) body) at)) e in
    let long : at + len ≤ length body = ltb-false _ _ g.0 in
    let w = from_window_ok (at + len) (one (take (at + len) body) at) items to g.1 in
    let end : length (take (at + len) body) ≡ at + len =
    omega (arith, length-take (at + len) body) in
    let t =
    ih.takes (take (at + len) body) at to items (AreBytes-take (at + len) body fits)
    (omega (arith, end)) w.0 in
    let none : drop to (take (at + len) body) ≡ [] =
    drop_all to (take (at + len) body) (omega (arith, end, w.1)) in
    let whole : take len (drop at body) ≡ t.1.front =
    sym (window_of body at len) ∙ t.1.is ∙ ap (λ (r : List ℕ). t.1.front ++ r) none
    ∙ append-nil t.1.front in
    let is : drop at body ≡ t.1.front ++ drop to body =
    drop_parts body at len ∙ ap (λ (r : List ℕ). r ++ drop (at + len) body) whole
    ∙ ap (λ (p : ℕ). t.1.front ++ drop p body) (sym w.1) in
    record {
      fits = t.0;
      len_is = omega (arith, length_of_spelling items t.1.front t.1.spells, t.1.to_is, w.1);
      takes =
          record {
            front = t.1.front;
            spells = t.1.spells;
            is = is;
            to_is = t.1.to_is;
            within = omega (arith, w.1);
          };
    }
  where
    when_long : (b : Bool) (x : Outcome (List Item)) → cond b (refused at Short) x ≡ Ok (items, to)
        → (b ≡ false) × (x ≡ Ok (items, to))
    when_long true x q = absurd cc
    when_long false x q = (refl, q)

window_refused : (one : List ℕ → ℕ → Outcome (List Item)) (Fitting : List Item → Type 0)
    (R : Refusal) → IsSound Fitting R one → (len : ℕ) (body : List ℕ) (at : ℕ) (stop : Stop)
    → AreBytes body → at ≤ length body → window_at one len body at ≡ Err stop
    → Refused (RefusesWindow len Fitting R) body at stop
window_refused one Fitting R ih len body at stop fits h e =
    elim
    (when_short (ltb (length body) (at + len))
    (from_window (at + len) (one (take (at + len) body) at)) e) [
      | inl short ↦
          let few : length body < at + len = ltb-true _ _ short.0 in
          record {
            after = 0;
            refuses =
                inl (
                  omega (arith, length-drop at body),
                  refl,
                  sym (ap (λ (s : Stop). s.reason) short.1),
                );
            at_is = omega (arith, ap (λ (s : Stop). s.at) short.1);
          }
      | inr g ↦
          let long : at + len ≤ length body = ltb-false _ _ g.0 in
          let end : length (take (at + len) body) ≡ at + len =
          omega (arith, length-take (at + len) body) in
          let begins : at ≤ length (take (at + len) body) = omega (arith, end) in
          let wfits : AreBytes (take (at + len) body) = AreBytes-take (at + len) body fits in
          let window = take len (drop at body) in
          let len_is : length (take len (drop at body)) ≡ len =
          omega (arith, length-take len (drop at body), length-drop at body) in
          elim (from_window_err (at + len) (one (take (at + len) body) at) stop g.1) [
            | inl i ↦
                let r = ih.refuses (take (at + len) body) at i.0 wfits begins i.1 in
                record {
                  after = r.after;
                  refuses =
                      inr (
                        window,
                        drop (at + len) body,
                        drop_parts body at len,
                        len_is,
                        inl (
                          i.0.reason,
                          subst (λ (w : List ℕ). R w r.after i.0.reason)
                              (window_of body at len) r.refuses,
                          i.3,
                        ),
                      );
                  at_is = omega (arith, r.at_is, i.2);
                }
            | inr x ↦
                let t = ih.takes (take (at + len) body) at x.0.1 x.0.0 wfits begins x.1 in
                record {
                  after = length t.1.front;
                  refuses = inr (
                    window,
                    drop (at + len) body,
                    drop_parts body at len,
                    len_is,
                    inr (
                      x.0.0,
                      t.1.front,
                      drop x.0.1 (take (at + len) body),
                      0,
                      t.0,
                      t.1.spells,
                      sym (window_of body at len) ∙ t.1.is,
                      (
                        omega (
                          arith,
                          length-drop x.0.1 (take (at + len) body),
                          end,
                          t.1.within,
                          x.2,
                        ),
                        refl,
                        x.4,
                      ),
                      omega arith,
                    ),
                  );
                  at_is = omega (arith, x.3, t.1.to_is);
                }
          ]
    ]
  where
    when_short : (b : Bool) (x : Outcome (List Item)) → cond b (refused at Short) x ≡ Err stop
        → ((b ≡ true) × ((let s : Stop = record { at = at; reason = Short } in s) ≡ stop))
        ⊎ ((b ≡ false) × (x ≡ Err stop))
    when_short true x q = inl (refl, cc)
    when_short false x q = inr (refl, q)

sized_sound : (name : List ℕ) (s : Shape) → ShapeIsSound s → ShapeIsSound (sized name s)
unfolding reading
sized_sound name s ih = record {
  takes = λ body at to items fits h e.
      let n =
      bind_ok (word_at (is_at_most 400) TooLong body at)
      (λ n. window_at (reading s) n.0 body n.1 >>= λ inner.
      Ok (Word name n.0 ∷ inner.0, inner.1)) (items, to) e in
      let p =
      bind_ok (window_at (reading s) n.0.0 body n.0.1)
      (λ inner. Ok (Word name n.0.0 ∷ inner.0, inner.1)) (items, to) n.2 in
      let w = at_most_takes 400 name body n.0.0 at n.0.1 fits n.1 in
      let t =
      window_takes (reading s) (Fits s) (Refuses s) ih n.0.0 body n.0.1 p.0.1 p.0.0 fits p.1 in
      along_ok (λ xs p. Fits (sized name s) xs × Takes xs body at p) (Word name n.0.0 ∷ p.0.0) items
      p.0.1 to (pair_is (Word name n.0.0 ∷ p.0.0) items p.0.1 to p.2) (
        (
          p.0.0,
          t.fits,
          omega (arith, t.len_is, w.0),
          ap (λ (k : ℕ). Word name k ∷ p.0.0) (sym t.len_is),
        ),
        Takes-then (Word name n.0.0 ∷ []) p.0.0 body at n.0.1 p.0.1 w.3 t.takes,
      );
  refuses = λ body at stop fits h e.
      elim
      (bind_err (word_at (is_at_most 400) TooLong body at)
      (λ n. window_at (reading s) n.0 body n.1 >>= λ inner.
      Ok (Word name n.0 ∷ inner.0, inner.1)) stop e) [
        | inl cut ↦ Refused-weaker (RefusesWord (is_at_most 400) TooLong) (Refuses (sized name s))
            body at stop (λ after r. inl r)
            (word_refused (is_at_most 400) TooLong body at stop fits h cut)
        | inr n ↦
            let w = at_most_takes 400 name body n.0.0 at n.0.1 fits n.1 in
            elim
            (bind_err (window_at (reading s) n.0.0 body n.0.1)
            (λ inner. Ok (Word name n.0.0 ∷ inner.0, inner.1)) stop n.2) [
              | inl cut ↦
                  Refused-weaker (ThenWord name n.0.0 (RefusesWindow n.0.0 (Fits s) (Refuses s)))
                  (Refuses (sized name s)) body at stop (λ after r. inr (n.0.0, w.0, r))
                  (Refused-then (λ items. items ≡ Word name n.0.0 ∷ [])
                  (RefusesWindow n.0.0 (Fits s) (Refuses s)) (Word name n.0.0 ∷ []) body at
                  n.0.1 stop refl w.3
                  (window_refused (reading s) (Fits s) (Refuses s) ih n.0.0 body n.0.1 stop fits
                  w.3.within cut))
              | inr p ↦ absurd (never (Word name n.0.0 ∷ p.0.0, p.0.1) stop p.2)
            ]
      ];
}

-- ---- every shape

pub sound : (s : Shape) → ShapeIsSound s
sound (choose name accepted other next) =
    choose_sound name accepted other next (λ n. sound (next n))
sound (hyper name) = hyper_sound name
sound (fixed name) = fixed_sound name
sound (write_verf name) = write_verf_sound name
sound (opaque kind name max) = opaque_sound kind name max
sound nothing = nothing_sound
sound (both a b) = both_sound a b (sound a) (sound b)
sound (linked name s) = linked_sound name s (sound s)
sound (sized name s) = sized_sound name s (sound s)
