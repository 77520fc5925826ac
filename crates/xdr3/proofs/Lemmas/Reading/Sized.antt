-- Reading in a window.
use Rattle.xdr3.proofs.Common.{◌≡◌, ℕ, ◌+◌, false, ltb, List, ◌∷◌, length, take, Ok, sym, ap, subst, ◌∙◌, arith, Short, TooLong, Item, Word, AreBytes, zero_spelling, Shape, is_at_most, sized, word_at, from_window, reading, View, view_at}
use Rattle.xdr3.proofs.Lemmas.Reading.Bytes.{guard_ok}
use Rattle.xdr3.proofs.Lemmas.Reading.Items.{length_of_spelling}
use Rattle.xdr3.proofs.Lemmas.Reading.Sound.{from_window_ok, sound}

record IsWindow (window : View) (len end start : ℕ) (body : List ℕ) : Type 0 where
  long : ltb (length body) (start + len) ≡ false
  body_is : take (start + len) body ≡ window.body
  end_is : start + len ≡ end

is_window : (window : View) (len end start : ℕ) (body : List ℕ)
    → view_at len body start ≡ Ok (window, end) → IsWindow window len end start body
is_window window len end start body e =
    let g =
    guard_ok (ltb (length body) (start + len)) (record { at = start; reason = Short })
    (record { body = take (start + len) body; at = start }, start + len) (window, end) e in
    record {
      long = g.0;
      body_is = ap (λ (x : View × ℕ). x.0.body) g.1;
      end_is = ap (λ (x : View × ℕ). x.1) g.1;
    }

pub sized_read : (name : List ℕ) (s : Shape) (items : List Item) (body now : List ℕ)
    (before start len end : ℕ) (window : View)
    → word_at (is_at_most 400) TooLong body before ≡ Ok (len, start) → now ≡ body
    → view_at len now start ≡ Ok (window, end)
    → (length window.body ≡ start + len) × (window.at ≡ start) → AreBytes window.body
    → from_window (length window.body) (reading s window.body window.at)
    ≡ Ok (items, length window.body)
    → reading (sized name s) body before
    ≡ Ok (Word name (length (zero_spelling items)) ∷ items, end)
unfolding reading
sized_read name s items body now before start len end window w b v shown fits r =
    let i =
    is_window window len end start body
    (subst (λ (x : List ℕ). view_at len x start ≡ Ok (window, end)) b v) in
    let inside =
    from_window_ok (length window.body) (reading s window.body window.at) items (length window.body)
    r in
    let t = (sound s).takes window.body window.at (length window.body) items fits
    (omega (arith, shown.0, shown.1)) inside.0 in
    let spelled : length (zero_spelling items) ≡ len =
    omega (arith, length_of_spelling items t.1.front t.1.spells, t.1.to_is, shown.0, shown.1) in
    let read : from_window (start + len) (reading s (take (start + len) body) start)
    ≡ Ok (items, start + len) =
    subst (λ (x : List ℕ). from_window (start + len) (reading s x start) ≡ Ok (items, start + len))
    (sym i.body_is)
    (subst (λ (k : ℕ). from_window k (reading s window.body start) ≡ Ok (items, k)) shown.0
    (subst
    (λ (k : ℕ).
    from_window (length window.body) (reading s window.body k)
    ≡ Ok (items, length window.body)) shown.1 r)) in
    let long = i.long in
    rw (w, long, read) (ap (λ (k : ℕ). Ok (Word name k ∷ items, start + len)) (sym spelled)
    ∙ ap (λ (k : ℕ). Ok (Word name (length (zero_spelling items)) ∷ items, k)) i.end_is)
