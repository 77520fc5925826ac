-- What is so is read: items that fit and are spelled are given, and what is refused is answered.
use Rattle.xdr3.proofs.Common.{◌≡◌, ℕ, zero, suc, ◌+◌, ◌-◌, ◌^◌, ◌<◌, ◌≤◌, Bool, true, false, ltb, eqb, List, [], ◌∷◌, ◌++◌, length, take, drop, Result, Ok, refl, sym, ap, subst, ◌∙◌, append_assoc, arith, inl, inr, AllByRecursion, take_at, length-append, length-take, append-nil, drop-take, length-bytes_high_first, Reason, Short, BadBool, TooLong, AuthLength, Stop, Kind, Item, Word, Hyper, Fixed, WriteVerf, Opaque, word_bytes, residue, Spells, zero_spelling, in_window, big_number, Shape, choose, hyper, fixed, write_verf, opaque, nothing, both, linked, sized, is_bool, is_at_most, links, Fits, Refusal, IsShort, Then, ThenWord, RefusesWord, RefusesLink, RefusesWindow, Refuses, Outcome, refused, run_at, number_at, word_at, links_at, from_window, window_at, reading}
use Rattle.std.proofs.lemmas.Bool.{le-leb, eq-eqb, ne_eqb, le-ltb}
use Rattle.xdr3.proofs.Lemmas.Reading.Bytes.{run_given, is_cut, number_given, drop_front, front_ends}
use Rattle.xdr3.proofs.Lemmas.Reading.Items.{Spells-split, Spells-single, length_of_spelling}

-- ---- places

-- the outcome at equal items and places
given : (xs items : List Item) (p to : ℕ) → items ≡ xs → to ≡ p
    → (let r : Result (List Item × ℕ) Stop = Ok (xs, p) in r) ≡ Ok (items, to)
given xs items p to e f =
    ap (λ (y : List Item). Ok (y, p)) (sym e) ∙ ap (λ (k : ℕ). Ok (items, k)) (sym f)

stopped : {A : Type 0} (at to : ℕ) (reason why : Reason) → to ≡ at → why ≡ reason
    → (let r : Result A Stop = refused at reason in r) ≡ refused to why
stopped {A} at to reason why e f =
    ap (λ (k : ℕ). refused {A = A} k reason) (sym e)
    ∙ ap (λ (r : Reason). refused {A = A} to r) (sym f)

-- a front of what stands at a place
record Stands (body front left : List ℕ) (at : ℕ) : Type 0 where
  later : drop (at + length front) body ≡ left
  within : at + length front ≤ length body

stands : (body front left : List ℕ) (at : ℕ) → at ≤ length body → drop at body ≡ front ++ left
    → Stands body front left at
stands body front left at h e =
    record { later = drop_front body front left at e; within = front_ends body front left at h e }

-- ---- words

record IsWord (n : ℕ) (front : List ℕ) : Type 0 where
  fits : n < 2 ^ 32
  is : front ≡ word_bytes n
  len_is : length front ≡ 4

word_of_front : (name : List ℕ) (n : ℕ) (front : List ℕ) → Spells (Word name n ∷ []) front
    → IsWord n front
word_of_front name n front s =
    let p = Spells-single (Word name n) front s in
    record { fits = p.0; is = p.1; len_is = omega (arith, ap length p.1) }

word_reads : (accepted : ℕ → Bool) (other : Reason) (body front left : List ℕ) (n at : ℕ)
    → at ≤ length body → IsWord n front → accepted n ≡ true → drop at body ≡ front ++ left
    → word_at accepted other body at ≡ Ok (n, at + 4)
word_reads accepted other body front left n at h w a e =
    let read : number_at 4 body at ≡ Ok (n, at + 4) =
    number_given 4 body left n at h w.fits (e ∙ ap (λ (f : List ℕ). f ++ left) w.is) in
    rw (read, a) refl

word_stops : (accepted : ℕ → Bool) (other : Reason) (body : List ℕ) (at after : ℕ) (reason : Reason)
    → at ≤ length body → RefusesWord accepted other (drop at body) after reason
    → word_at accepted other body at ≡ refused (at + after) reason
word_stops accepted other body at after reason h r =
    elim r [
      | inl s ↦
          let cut : number_at 4 body at ≡ refused at Short =
          is_cut 4 body at (Ok (big_number 4 (drop at body), at + 4)) h s.0 in
          rw cut (stopped at (at + after) Short reason (omega (arith, s.1)) s.2)
      | inr w ↦
          let read : number_at 4 body at ≡ Ok (w.0, at + 4) =
          number_given 4 body w.1 w.0 at h w.2 w.3 in
          rw (read, w.4) (stopped at (at + after) other reason (omega (arith, w.5)) w.6)
    ]

run_stops : (len : ℕ) (body : List ℕ) (at after : ℕ) (reason : Reason) → at ≤ length body
    → IsShort len (drop at body) after reason → run_at len body at ≡ refused (at + after) reason
run_stops len body at after reason h s =
    is_cut len body at (Ok (take len (drop at body), at + len)) h s.0
    ∙ stopped at (at + after) Short reason (omega (arith, s.1)) s.2

number_stops : (len : ℕ) (body : List ℕ) (at after : ℕ) (reason : Reason) → at ≤ length body
    → IsShort len (drop at body) after reason → number_at len body at ≡ refused (at + after) reason
number_stops len body at after reason h s =
    is_cut len body at (Ok (big_number len (drop at body), at + len)) h s.0
    ∙ stopped at (at + after) Short reason (omega (arith, s.1)) s.2

-- ---- what is proved of a shape

pub record IsComplete (Front : List Item → Type 0) (R : Refusal)
    (read : List ℕ → ℕ → Outcome (List Item)) : Type 0 where
  pub reads : (body : List ℕ) (at : ℕ) (items : List Item) (front left : List ℕ) → at ≤ length body
      → Front items → Spells items front → drop at body ≡ front ++ left
      → read body at ≡ Ok (items, at + length front)
  pub stops : (body : List ℕ) (at after : ℕ) (reason : Reason) → at ≤ length body
      → R (drop at body) after reason → read body at ≡ refused (at + after) reason

abbrev pub ShapeIsComplete : Shape → Type 0
ShapeIsComplete s = IsComplete (Fits s) (Refuses s) (reading s)

-- a refusal after a front, at its own place
record Later (Front : List Item → Type 0) (R : Refusal) (body : List ℕ) (at after : ℕ)
    (reason : Reason) : Type 0 where
  items : List Item
  front : List ℕ
  left : List ℕ
  further : ℕ
  fits : Front items
  spells : Spells items front
  is : drop at body ≡ front ++ left
  within : at + length front ≤ length body
  refuses : R (drop (at + length front) body) further reason
  place : at + after ≡ at + length front + further

later : (Front : List Item → Type 0) (R : Refusal) (body : List ℕ) (at after : ℕ) (reason : Reason)
    → at ≤ length body → Then Front R (drop at body) after reason
    → Later Front R body at after reason
later Front R body at after reason h t = record {
  items = t.0;
  front = t.1;
  left = t.2;
  further = t.3;
  fits = t.4;
  spells = t.5;
  is = t.6;
  within = front_ends body t.1 t.2 at h t.6;
  refuses = subst (λ (l : List ℕ). R l t.3 reason) (sym (drop_front body t.1 t.2 at t.6)) t.7;
  place = omega (arith, t.8);
}

-- a refusal after one word
record AfterWord (n : ℕ) (R : Refusal) (body : List ℕ) (at after : ℕ) (reason : Reason) : Type
    0 where
  front : List ℕ
  left : List ℕ
  further : ℕ
  word : IsWord n front
  is : drop at body ≡ front ++ left
  within : at + 4 ≤ length body
  refuses : R (drop (at + 4) body) further reason
  place : at + after ≡ at + 4 + further

after_word : (name : List ℕ) (n : ℕ) (R : Refusal) (body : List ℕ) (at after : ℕ) (reason : Reason)
    → at ≤ length body → ThenWord name n R (drop at body) after reason
    → AfterWord n R body at after reason
after_word name n R body at after reason h t =
    let b = later (λ items. items ≡ Word name n ∷ []) R body at after reason h t in
    let w =
    word_of_front name n b.front (subst (λ (xs : List Item). Spells xs b.front) b.fits b.spells) in
    record {
      front = b.front;
      left = b.left;
      further = b.further;
      word = w;
      is = b.is;
      within = omega (arith, w.len_is, b.within);
      refuses = subst (λ (k : ℕ). R (drop (at + k) body) b.further reason) w.len_is b.refuses;
      place = omega (arith, w.len_is, b.place);
    }

-- items that begin with a word
record FrontWord (name : List ℕ) (n : ℕ) (more : List Item) (body front left : List ℕ) (at : ℕ) :
    Type 0 where
  head : List ℕ
  back : List ℕ
  word : IsWord n head
  spells : Spells more back
  is : drop at body ≡ head ++ (back ++ left)
  next : drop (at + 4) body ≡ back ++ left
  within : at + 4 ≤ length body
  place : at + length front ≡ at + 4 + length back

front_word : (name : List ℕ) (n : ℕ) (more : List Item) (body front left : List ℕ) (at : ℕ)
    → at ≤ length body → Spells (Word name n ∷ more) front → drop at body ≡ front ++ left
    → FrontWord name n more body front left at
front_word name n more body front left at h s e =
    let w : IsWord n s.0 =
    record { fits = s.2.0; is = s.2.1; len_is = omega (arith, ap length s.2.1) } in
    let split : drop at body ≡ s.0 ++ (s.1 ++ left) =
    e ∙ ap (λ (f : List ℕ). f ++ left) s.4 ∙ append_assoc s.0 s.1 left in
    record {
      head = s.0;
      back = s.1;
      word = w;
      spells = s.3;
      is = split;
      next =
          ap (λ (k : ℕ). drop (at + k) body) (sym w.len_is)
          ∙ drop_front body s.0 (s.1 ++ left) at split;
      within = omega (arith, front_ends body s.0 (s.1 ++ left) at h split, w.len_is);
      place = omega (arith, ap length s.4, length-append s.0 s.1, w.len_is);
    }

-- ---- words that choose

choose_complete : (name : List ℕ) (accepted : ℕ → Bool) (other : Reason) (next : ℕ → Shape)
    → ((n : ℕ) → ShapeIsComplete (next n)) → ShapeIsComplete (choose name accepted other next)
unfolding reading
choose_complete name accepted other next ih = record {
  reads = λ body at items front left h f s e.
      let w =
      front_word name f.0 f.1 body front left at h
      (subst (λ (xs : List Item). Spells xs front) f.4 s) e in
      let word : word_at accepted other body at ≡ Ok (f.0, at + 4) =
      word_reads accepted other body w.head (w.back ++ left) f.0 at h w.word f.2 w.is in
      let more : reading (next f.0) body (at + 4) ≡ Ok (f.1, at + 4 + length w.back) =
      (ih f.0).reads body (at + 4) f.1 w.back left w.within f.3 w.spells w.next in
      rw (word, more) (given (Word name f.0 ∷ f.1) items (at + 4 + length w.back)
      (at + length front) f.4 w.place);
  stops = λ body at after reason h r.
      elim r [
        | inl word ↦
            let stop : word_at accepted other body at ≡ refused (at + after) reason =
            word_stops accepted other body at after reason h word in
            rw stop refl
        | inr t ↦
            let b = after_word name t.0 (Refuses (next t.0)) body at after reason h t.2 in
            let word : word_at accepted other body at ≡ Ok (t.0, at + 4) =
            word_reads accepted other body b.front b.left t.0 at h b.word t.1 b.is in
            let more : reading (next t.0) body (at + 4) ≡ refused (at + 4 + b.further) reason =
            (ih t.0).stops body (at + 4) b.further reason b.within b.refuses in
            rw (word, more) (stopped (at + 4 + b.further) (at + after) reason reason b.place refl)
      ];
}

-- ---- items of a fixed length

hyper_complete : (name : List ℕ) → ShapeIsComplete (hyper name)
unfolding reading
hyper_complete name = record {
  reads = λ body at items front left h f s e.
      let p =
      Spells-single (Hyper name f.0) front (subst (λ (xs : List Item). Spells xs front) f.1 s) in
      let read : number_at 8 body at ≡ Ok (f.0, at + 8) =
      number_given 8 body left f.0 at h p.0 (e ∙ ap (λ (b : List ℕ). b ++ left) p.1) in
      rw read (given (Hyper name f.0 ∷ []) items (at + 8) (at + length front) f.1
      (omega (arith, ap length p.1)));
  stops = λ body at after reason h r.
      let stop : number_at 8 body at ≡ refused (at + after) reason =
      number_stops 8 body at after reason h r in
      rw stop refl;
}

fixed_complete : (name : List ℕ) → ShapeIsComplete (fixed name)
unfolding reading
fixed_complete name = record {
  reads = λ body at items front left h f s e.
      let p =
      Spells-single (Fixed name f.0) front (subst (λ (xs : List Item). Spells xs front) f.1 s) in
      let read : run_at 8 body at ≡ Ok (f.0, at + 8) =
      run_given 8 body f.0 left at h p.0 (e ∙ ap (λ (b : List ℕ). b ++ left) p.2) in
      rw read (given (Fixed name f.0 ∷ []) items (at + 8) (at + length front) f.1
      (omega (arith, ap length p.2, p.0)));
  stops = λ body at after reason h r.
      let stop : run_at 8 body at ≡ refused (at + after) reason =
      run_stops 8 body at after reason h r in
      rw stop refl;
}

write_verf_complete : (name : List ℕ) → ShapeIsComplete (write_verf name)
unfolding reading
write_verf_complete name = record {
  reads = λ body at items front left h f s e.
      let p =
      Spells-single (WriteVerf name f.0) front (subst (λ (xs : List Item). Spells xs front) f.1 s)
      in
      let read : run_at 8 body at ≡ Ok (f.0, at + 8) =
      run_given 8 body f.0 left at h p.0 (e ∙ ap (λ (b : List ℕ). b ++ left) p.2) in
      rw read (given (WriteVerf name f.0 ∷ []) items (at + 8) (at + length front) f.1
      (omega (arith, ap length p.2, p.0)));
  stops = λ body at after reason h r.
      let stop : run_at 8 body at ≡ refused (at + after) reason =
      run_stops 8 body at after reason h r in
      rw stop refl;
}

-- ---- opaque data

opaque_complete : (kind : Kind) (name : List ℕ) (max : ℕ) → ShapeIsComplete (opaque kind name max)
unfolding reading
opaque_complete kind name max = record {
  reads = λ body at items front left h f s e.
      let bytes = f.0 in
      let n = length f.0 in
      let p =
      Spells-single (Opaque kind name f.0) front (subst (λ (xs : List Item). Spells xs front) f.2 s)
      in
      let residual = p.0 in
      let head : IsWord (length f.0) (word_bytes (length f.0)) =
      record { fits = p.1; is = refl; len_is = length-bytes_high_first 4 (length f.0) } in
      let split : drop at body ≡ word_bytes (length f.0) ++ ((f.0 ++ p.0) ++ left) =
      e ∙ ap (λ (b : List ℕ). b ++ left) p.5
      ∙ append_assoc (word_bytes (length f.0)) (f.0 ++ p.0) left in
      let place = stands body (word_bytes (length f.0)) ((f.0 ++ p.0) ++ left) at h split in
      let next : drop (at + 4) body ≡ (f.0 ++ p.0) ++ left =
      ap (λ (k : ℕ). drop (at + k) body) (sym head.len_is) ∙ place.later in
      let within : at + 4 ≤ length body = omega (arith, place.within, head.len_is) in
      let len : length (f.0 ++ p.0) ≡ length f.0 + residue (length f.0) =
      omega (arith, length-append f.0 p.0, p.3) in
      let word : word_at (is_at_most max) TooLong body at ≡ Ok (length f.0, at + 4) =
      word_reads (is_at_most max) TooLong body (word_bytes (length f.0)) ((f.0 ++ p.0) ++ left)
      (length f.0) at h head (le-leb (length f.0) max f.1) split in
      let run : run_at (length f.0 + residue (length f.0)) body (at + 4)
      ≡ Ok (f.0 ++ p.0, at + 4 + (length f.0 + residue (length f.0))) =
      run_given (length f.0 + residue (length f.0)) body (f.0 ++ p.0) left (at + 4) within len next
      in
      rw (word, run, take_at f.0 p.0 (length f.0) refl)
      (given (Opaque kind name f.0 ∷ []) items (at + 4 + (length f.0 + residue (length f.0)))
      (at + length front) f.2 (omega (
        arith,
        ap length p.5,
        length-append (word_bytes (length f.0)) (f.0 ++ p.0),
        head.len_is,
        len,
      )));
  stops = λ body at after reason h r.
      elim r [
        | inl word ↦
            let stop : word_at (is_at_most max) TooLong body at ≡ refused (at + after) reason =
            word_stops (is_at_most max) TooLong body at after reason h word in
            rw stop refl
        | inr t ↦
            let b = after_word name t.0 (IsShort (t.0 + residue t.0)) body at after reason h t.2 in
            let word : word_at (is_at_most max) TooLong body at ≡ Ok (t.0, at + 4) =
            word_reads (is_at_most max) TooLong body b.front b.left t.0 at h b.word
            (le-leb t.0 max t.1) b.is in
            let stop : run_at (t.0 + residue t.0) body (at + 4)
            ≡ refused (at + 4 + b.further) reason =
            run_stops (t.0 + residue t.0) body (at + 4) b.further reason b.within b.refuses in
            rw (word, stop) (stopped (at + 4 + b.further) (at + after) reason reason b.place refl)
      ];
}

-- ---- sequences

nothing_complete : ShapeIsComplete nothing
unfolding reading
nothing_complete = record {
  reads = λ body at items front left h f s e.
      let none : front ≡ [] = subst (λ (xs : List Item). Spells xs front) f s in
      given [] items at (at + length front) f (omega (arith, ap length none));
  stops = λ body at after reason h r. absurd r;
}

both_complete : (a b : Shape) → ShapeIsComplete a → ShapeIsComplete b → ShapeIsComplete (both a b)
unfolding reading
both_complete a b iha ihb = record {
  reads = λ body at items front left h f s e.
      let p = Spells-split f.0 f.1 front (subst (λ (xs : List Item). Spells xs front) f.4 s) in
      let split : drop at body ≡ p.0 ++ (p.1 ++ left) =
      e ∙ ap (λ (b : List ℕ). b ++ left) p.4 ∙ append_assoc p.0 p.1 left in
      let place = stands body p.0 (p.1 ++ left) at h split in
      let x : reading a body at ≡ Ok (f.0, at + length p.0) =
      iha.reads body at f.0 p.0 (p.1 ++ left) h f.2 p.2 split in
      let y : reading b body (at + length p.0) ≡ Ok (f.1, at + length p.0 + length p.1) =
      ihb.reads body (at + length p.0) f.1 p.1 left place.within f.3 p.3 place.later in
      rw (x, y) (given (f.0 ++ f.1) items (at + length p.0 + length p.1) (at + length front) f.4
      (omega (arith, ap length p.4, length-append p.0 p.1)));
  stops = λ body at after reason h r.
      elim r [
        | inl first ↦
            let stop : reading a body at ≡ refused (at + after) reason =
            iha.stops body at after reason h first in
            rw stop refl
        | inr t ↦
            let b' = later (Fits a) (Refuses b) body at after reason h t in
            let x : reading a body at ≡ Ok (b'.items, at + length b'.front) =
            iha.reads body at b'.items b'.front b'.left h b'.fits b'.spells b'.is in
            let y : reading b body (at + length b'.front)
            ≡ refused (at + length b'.front + b'.further) reason =
            ihb.stops body (at + length b'.front) b'.further reason b'.within b'.refuses in
            rw (x, y) (stopped (at + length b'.front + b'.further) (at + after) reason reason
            b'.place refl)
      ];
}

-- ---- linked lists

-- one link: the word 1 and a part
record IsLink (one : List ℕ → ℕ → Outcome (List Item)) (part : List Item) (body back left : List ℕ)
    (at : ℕ) : Type 0 where
  word : word_at is_bool BadBool body at ≡ Ok (1, at + 4)
  front : List ℕ
  rest : List ℕ
  part_is : one body (at + 4) ≡ Ok (part, at + 4 + length front)
  next : drop (at + 4 + length front) body ≡ rest ++ left
  within : at + 4 + length front ≤ length body
  back_is : length back ≡ 4 + length front + length rest

record LinkAndMore (one : List ℕ → ℕ → Outcome (List Item)) (part more : List Item)
    (body back left : List ℕ) (at : ℕ) : Type 0 where
  link : IsLink one part body back left at
  spells : Spells more link.rest

link_and_more : (one : List ℕ → ℕ → Outcome (List Item)) (Fitting : List Item → Type 0)
    (R : Refusal) (name : List ℕ) → IsComplete Fitting R one
    → (part more : List Item) (body back left : List ℕ) (at : ℕ) → at ≤ length body → Fitting part
    → Spells ((Word name 1 ∷ part) ++ more) back → drop at body ≡ back ++ left
    → LinkAndMore one part more body back left at
link_and_more one Fitting R name ih part more body back left at h f s e =
    let w = front_word name 1 (part ++ more) body back left at h s e in
    let p = Spells-split part more w.back w.spells in
    let split : drop (at + 4) body ≡ p.0 ++ (p.1 ++ left) =
    w.next ∙ ap (λ (b : List ℕ). b ++ left) p.4 ∙ append_assoc p.0 p.1 left in
    let place = stands body p.0 (p.1 ++ left) (at + 4) w.within split in
    record {
      link = record {
        word = word_reads is_bool BadBool body w.head (w.back ++ left) 1 at h w.word refl w.is;
        front = p.0;
        rest = p.1;
        part_is = ih.reads body (at + 4) part p.0 (p.1 ++ left) w.within f p.2 split;
        next = place.later;
        within = place.within;
        back_is = omega (arith, w.place, ap length p.4, length-append p.0 p.1);
      };
      spells = p.3;
    }

links_read : (one : List ℕ → ℕ → Outcome (List Item)) (Fitting : List Item → Type 0) (R : Refusal)
    (name : List ℕ) → IsComplete Fitting R one
    → (parts : List (List Item)) (fuel : ℕ) (body : List ℕ) (at : ℕ) (front left : List ℕ)
    → at ≤ length body → length body < fuel + at → AllByRecursion Fitting parts
    → Spells (links name parts ++ Word name 0 ∷ []) front → drop at body ≡ front ++ left
    → links_at one name fuel body at ≡ Ok (links name parts ++ Word name 0 ∷ [], at + length front)
links_read one Fitting R name ih parts zero body at front left h enough f s e = absurd (omega arith)
links_read one Fitting R name ih [] (suc fuel) body at front left h enough f s e =
    let w = word_of_front name 0 front s in
    let word : word_at is_bool BadBool body at ≡ Ok (0, at + 4) =
    word_reads is_bool BadBool body front left 0 at h w refl e in
    rw word (given (Word name 0 ∷ []) (Word name 0 ∷ []) (at + 4) (at + length front) refl
    (omega (arith, w.len_is)))
links_read one Fitting R name ih (part ∷ parts) (suc fuel) body at front left h enough f s e =
    let more = links name parts ++ Word name 0 ∷ [] in
    let assoc : ((Word name 1 ∷ part) ++ links name parts) ++ Word name 0 ∷ []
    ≡ (Word name 1 ∷ part) ++ (links name parts ++ Word name 0 ∷ []) =
    append_assoc (Word name 1 ∷ part) (links name parts) (Word name 0 ∷ []) in
    let l =
    link_and_more one Fitting R name ih part (links name parts ++ Word name 0 ∷ []) body front left
    at h f.0 (subst (λ (xs : List Item). Spells xs front) assoc s) e in
    let rest : links_at one name fuel body (at + 4 + length l.link.front)
    ≡ Ok (links name parts ++ Word name 0 ∷ [], at + 4 + length l.link.front + length l.link.rest) =
    links_read one Fitting R name ih parts fuel body (at + 4 + length l.link.front) l.link.rest left
    l.link.within (omega arith) f.1 l.spells l.link.next in
    rw (l.link.word, l.link.part_is, rest) (given
    (Word name 1 ∷ (part ++ (links name parts ++ Word name 0 ∷ [])))
    (((Word name 1 ∷ part) ++ links name parts) ++ Word name 0 ∷ [])
    (at + 4 + length l.link.front + length l.link.rest) (at + length front) assoc
    (omega (arith, l.link.back_is)))

-- what is refused after links, one of them at a time
links_stop : (one : List ℕ → ℕ → Outcome (List Item)) (Fitting : List Item → Type 0) (R : Refusal)
    (name : List ℕ) → IsComplete Fitting R one
    → (parts : List (List Item)) (fuel : ℕ) (body : List ℕ) (at after : ℕ) (reason : Reason)
    (front left : List ℕ) → at ≤ length body → length body < fuel + at
    → AllByRecursion Fitting parts → Spells (links name parts) front → drop at body ≡ front ++ left
    → RefusesLink name R left after reason
    → links_at one name fuel body at ≡ refused (at + (length front + after)) reason
links_stop one Fitting R name ih parts zero body at after reason front left h enough f s e r =
    absurd (omega arith)
links_stop one Fitting R name ih [] (suc fuel) body at after reason front left h enough f s e r =
    let none : drop at body ≡ left = e ∙ ap (λ (b : List ℕ). b ++ left) s in
    let place : at + after ≡ at + (length front + after) = omega (arith, ap length s) in
    let here : RefusesLink name R (drop at body) after reason =
    subst (λ (l : List ℕ). RefusesLink name R l after reason) (sym none) r in
    elim here [
      | inl word ↦
          let stop : word_at is_bool BadBool body at ≡ refused (at + after) reason =
          word_stops is_bool BadBool body at after reason h word in
          rw stop
          (stopped (at + after) (at + (length front + after)) reason reason (sym place) refl)
      | inr t ↦
          let b = after_word name 1 R body at after reason h t in
          let word : word_at is_bool BadBool body at ≡ Ok (1, at + 4) =
          word_reads is_bool BadBool body b.front b.left 1 at h b.word refl b.is in
          let stop : one body (at + 4) ≡ refused (at + 4 + b.further) reason =
          ih.stops body (at + 4) b.further reason b.within b.refuses in
          rw (word, stop) (stopped (at + 4 + b.further) (at + (length front + after)) reason reason
          (sym place ∙ b.place) refl)
    ]
links_stop one Fitting R name ih (part ∷ parts) (suc fuel) body at after reason front left h enough
    f s e r =
    let l =
    link_and_more one Fitting R name ih part (links name parts) body front left at h f.0 s e in
    let rest : links_at one name fuel body (at + 4 + length l.link.front)
    ≡ refused (at + 4 + length l.link.front + (length l.link.rest + after)) reason =
    links_stop one Fitting R name ih parts fuel body (at + 4 + length l.link.front) after reason
    l.link.rest left l.link.within (omega arith) f.1 l.spells l.link.next r in
    rw (l.link.word, l.link.part_is, rest) (stopped
    (at + 4 + length l.link.front + (length l.link.rest + after))
    (at + (length front + after)) reason reason (omega (arith, l.link.back_is)) refl)

linked_complete : (name : List ℕ) (s : Shape) → ShapeIsComplete s → ShapeIsComplete (linked name s)
unfolding reading
linked_complete name s ih = record {
  reads = λ body at items front left h f t e.
      links_read (reading s) (Fits s) (Refuses s) name ih f.0 (suc (length body - at)) body at front
      left h (omega arith) f.1 (subst (λ (xs : List Item). Spells xs front) f.2 t) e
      ∙ given (links name f.0 ++ Word name 0 ∷ []) items (at + length front) (at + length front) f.2
      refl;
  stops = λ body at after reason h r.
      let f = r.4 in
      links_stop (reading s) (Fits s) (Refuses s) name ih f.0 (suc (length body - at)) body at r.3
      reason r.1 r.2 h (omega arith) f.1 (subst (λ (xs : List Item). Spells xs r.1) f.2 r.5) r.6
      r.7
      ∙ stopped (at + (length r.1 + r.3)) (at + after) reason reason (omega (arith, r.8)) refl;
}

-- ---- windows

window_drop : (body window left : List ℕ) (at len : ℕ) → drop at body ≡ window ++ left
    → length window ≡ len → drop at (take (at + len) body) ≡ window
window_drop body window left at len e l =
    drop-take at len body ∙ ap (take len) e ∙ take_at window left len l

-- all of a window is read
window_reads : (one : List ℕ → ℕ → Outcome (List Item)) (Fitting : List Item → Type 0) (R : Refusal)
    → IsComplete Fitting R one → (body : List ℕ) (at : ℕ) (items : List Item) (front left : List ℕ)
    → at ≤ length body → Fitting items → Spells items front → drop at body ≡ front ++ left
    → window_at one (length front) body at ≡ Ok (items, at + length front)
window_reads one Fitting R ih body at items front left h f s e =
    let place = stands body front left at h e in
    let long : ltb (length body) (at + length front) ≡ false = le-ltb _ _ place.within in
    let inside : drop at (take (at + length front) body) ≡ front ++ [] =
    window_drop body front left at (length front) e refl ∙ sym (append-nil front) in
    let read : one (take (at + length front) body) at ≡ Ok (items, at + length front) =
    ih.reads (take (at + length front) body) at items front []
    (omega (arith, length-take (at + length front) body, place.within)) f s inside in
    let ends : eqb (at + length front) (at + length front) ≡ true =
    eq-eqb (at + length front) (at + length front) refl in
    rw (long, read, ends) refl

window_stops : (one : List ℕ → ℕ → Outcome (List Item)) (Fitting : List Item → Type 0) (R : Refusal)
    → IsComplete Fitting R one → (len : ℕ) (body : List ℕ) (at after : ℕ) (reason : Reason)
    → at ≤ length body → RefusesWindow len Fitting R (drop at body) after reason
    → window_at one len body at ≡ refused (at + after) reason
window_stops one Fitting R ih len body at after reason h r =
    elim r [
      | inl short ↦ is_cut len body at (from_window (at + len) (one (take (at + len) body) at)) h
          short.0 ∙ stopped at (at + after) Short reason (omega (arith, short.1)) short.2
      | inr w ↦
          let place = stands body w.0 w.1 at h w.2 in
          let fits : at + len ≤ length body = omega (arith, place.within, w.3) in
          let long : ltb (length body) (at + len) ≡ false = le-ltb _ _ fits in
          let end : length (take (at + len) body) ≡ at + len =
          omega (arith, length-take (at + len) body) in
          let begins : at ≤ length (take (at + len) body) = omega (arith, end) in
          let inside : drop at (take (at + len) body) ≡ w.0 =
          window_drop body w.0 w.1 at len w.2 w.3 in
          elim w.4 [
            | inl i ↦
                let stop : one (take (at + len) body) at ≡ refused (at + after) i.0 =
                ih.stops (take (at + len) body) at after i.0 begins
                (subst (λ (l : List ℕ). R l after i.0) (sym inside) i.1) in
                rw (long, stop) (stopped (at + after) (at + after) (in_window i.0) reason refl i.2)
            | inr t ↦
                let split : drop at (take (at + len) body) ≡ t.1 ++ t.2 = inside ∙ t.6 in
                let read : one (take (at + len) body) at ≡ Ok (t.0, at + length t.1) =
                ih.reads (take (at + len) body) at t.0 t.1 t.2 begins t.4 t.5 split in
                let over : eqb (at + length t.1) (at + len) ≡ false =
                ne_eqb (at + length t.1) (at + len)
                (λ q. omega (arith, w.3, ap length t.6, length-append t.1 t.2, t.7.0)) in
                rw (long, read, over) (stopped (at + length t.1) (at + after) AuthLength reason
                (omega (arith, t.8, t.7.1)) t.7.2)
          ]
    ]

sized_complete : (name : List ℕ) (s : Shape) → ShapeIsComplete s → ShapeIsComplete (sized name s)
unfolding reading
sized_complete name s ih = record {
  reads = λ body at items front left h f t e.
      let n = length (zero_spelling f.0) in
      let w =
      front_word name (length (zero_spelling f.0)) f.0 body front left at h
      (subst (λ (xs : List Item). Spells xs front) f.3 t) e in
      let len : length w.back ≡ length (zero_spelling f.0) =
      length_of_spelling f.0 w.back w.spells in
      let word : word_at (is_at_most 400) TooLong body at
      ≡ Ok (length (zero_spelling f.0), at + 4) =
      word_reads (is_at_most 400) TooLong body w.head (w.back ++ left) (length (zero_spelling f.0))
      at h w.word (le-leb (length (zero_spelling f.0)) 400 f.2) w.is in
      let rest : window_at (reading s) (length (zero_spelling f.0)) body (at + 4)
      ≡ Ok (f.0, at + 4 + length w.back) =
      ap (λ (k : ℕ). window_at (reading s) k body (at + 4)) (sym len)
      ∙ window_reads (reading s) (Fits s) (Refuses s) ih body (at + 4) f.0 w.back left w.within
      f.1 w.spells w.next in
      rw (word, rest) (given (Word name (length (zero_spelling f.0)) ∷ f.0) items
      (at + 4 + length w.back) (at + length front) f.3 w.place);
  stops = λ body at after reason h r.
      elim r [
        | inl word ↦
            let stop : word_at (is_at_most 400) TooLong body at ≡ refused (at + after) reason =
            word_stops (is_at_most 400) TooLong body at after reason h word in
            rw stop refl
        | inr t ↦
            let b =
            after_word name t.0 (RefusesWindow t.0 (Fits s) (Refuses s)) body at after reason h t.2
            in
            let word : word_at (is_at_most 400) TooLong body at ≡ Ok (t.0, at + 4) =
            word_reads (is_at_most 400) TooLong body b.front b.left t.0 at h b.word
            (le-leb t.0 400 t.1) b.is in
            let stop : window_at (reading s) t.0 body (at + 4)
            ≡ refused (at + 4 + b.further) reason =
            window_stops (reading s) (Fits s) (Refuses s) ih t.0 body (at + 4) b.further reason
            b.within b.refuses in
            rw (word, stop) (stopped (at + 4 + b.further) (at + after) reason reason b.place refl)
      ];
}

-- ---- every shape

pub complete : (s : Shape) → ShapeIsComplete s
complete (choose name accepted other next) =
    choose_complete name accepted other next (λ n. complete (next n))
complete (hyper name) = hyper_complete name
complete (fixed name) = fixed_complete name
complete (write_verf name) = write_verf_complete name
complete (opaque kind name max) = opaque_complete kind name max
complete nothing = nothing_complete
complete (both a b) = both_complete a b (complete a) (complete b)
complete (linked name s) = linked_complete name s (complete s)
complete (sized name s) = sized_complete name s (complete s)
