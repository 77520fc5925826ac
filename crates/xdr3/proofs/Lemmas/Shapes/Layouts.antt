-- Layouts: what reading gives is so, and what is so is read.
use Rattle.std.proofs.Common.{◌≡◌, ℕ, ◌+◌, ◌≤◌, List, [], ◌∷◌, ◌++◌, length, drop, Result, Ok, Err, refl, sym, ap, subst, ◌∙◌, append_assoc, append-nil, arith, inl, inr}
use Rattle.xdr3.proofs.Common.{length-append, length-drop, drop_all, GetError, View, Item, Rest, AreBytes, Spells, Shape, Reads, ◌>>=◌, reading, Gives, IsRead}
use Rattle.xdr3.specs.Layout.{Layout, exactly, remaining, after, FitsLayout, ReadsLayout, RefusesLayout, reading_layout}
use Rattle.xdr3.specs.Laws.{Decides, IsDecided, ReadsToTheEnd, ReadsWhole}
use Rattle.xdr3.proofs.Lemmas.Reading.Bytes.{AreBytes-drop, bind_ok, bind_err, pair_is, never, drop_front, front_ends}
use Rattle.xdr3.proofs.Lemmas.Reading.Items.{Spells-append, Spells-split, Spells-one, Spells-single}
use Rattle.xdr3.proofs.Lemmas.Reading.Decided.{is_read, both_ways, in_one_way, front_place}

-- the items stand at the front, and the rest is left
pub record StandsFirst (layout : Layout) (bytes : List ℕ) (items : List Item) (left : List ℕ) : Type
    0 where
  pub front : List ℕ
  pub fits : FitsLayout layout items
  pub spells : Spells items front
  pub whole : bytes ≡ front ++ left

pub stands_first : (layout : Layout) (bytes : List ℕ) (items : List Item) (left : List ℕ)
    → ReadsLayout layout bytes items left → StandsFirst layout bytes items left
stands_first (exactly shape) bytes items left r =
    record { front = r.front; fits = r.fits; spells = r.spells; whole = r.whole }
stands_first (remaining name) bytes items left r = record {
  front = bytes;
  fits = (bytes, r.1);
  spells =
      subst (λ (xs : List Item). Spells xs bytes) (sym r.1)
      (Spells-one (Rest name bytes) bytes (r.0, refl));
  whole = sym (append-nil bytes) ∙ ap (λ (l : List ℕ). bytes ++ l) (sym r.2);
}
stands_first (after shape next) bytes items left r =
    let s = stands_first (next r.0) r.2 r.1 left r.4 in
    record {
      front = r.3.front ++ s.front;
      fits = (r.0, r.1, r.3.fits, s.fits, r.5);
      spells =
          subst (λ (xs : List Item). Spells xs (r.3.front ++ s.front)) (sym r.5)
          (Spells-append r.0 r.1 r.3.front s.front r.3.spells s.spells);
      whole =
          r.3.whole ∙ ap (λ (l : List ℕ). r.3.front ++ l) s.whole
          ∙ sym (append_assoc r.3.front s.front left);
    }

-- ---- whole bodies

read_whole : (layout : Layout) (body : List ℕ) (items : List Item) → FitsLayout layout items
    → Spells items body → ReadsLayout layout body items []
read_whole (exactly shape) body items f s =
    record { front = body; fits = f; spells = s; whole = sym (append-nil body) }
read_whole (remaining name) body items f s =
    let p = Spells-single (Rest name f.0) body (subst (λ (xs : List Item). Spells xs body) f.1 s) in
    (subst AreBytes (sym p.1) p.0, f.1 ∙ ap (λ (b : List ℕ). Rest name b ∷ []) (sym p.1), refl)
read_whole (after shape next) body items f s =
    let p = Spells-split f.0 f.1 body (subst (λ (xs : List Item). Spells xs body) f.4 s) in (
      f.0,
      f.1,
      p.1,
      record { front = p.0; fits = f.2; spells = p.2; whole = p.4 },
      read_whole (next f.0) p.1 f.1 f.3 p.3,
      f.4,
    )

pub reads_whole : (layout : Layout) (body : List ℕ) (items : List Item)
    → ReadsWhole layout body items
reads_whole layout body items = (
  (λ r. let s = stands_first layout body items [] r in
      (s.fits, subst (Spells items) (sym (s.whole ∙ append-nil s.front)) s.spells)),
  (λ p. read_whole layout body items p.0 p.1),
)

-- ---- reading

abbrev pub LayoutDecides : Layout → Type 0
LayoutDecides layout = (body : List ℕ) (at : ℕ) → AreBytes body → at ≤ length body
    → Decides (reading_layout layout) (ReadsLayout layout) (RefusesLayout layout) body at

exactly_decides : (shape : Shape) → LayoutDecides (exactly shape)
unfolding reading_layout
exactly_decides shape body at fits h =
    let d = both_ways shape body at fits h in
    record {
      reads = λ items to. (
        (λ e. let r = (d.reads items to).0 e in
            record { reads = r.reads; forward = r.forward; within = r.within }),
        (λ r. (d.reads items to).1
            (record { reads = r.reads; forward = r.forward; within = r.within })),
      );
      refuses = λ stop. ((λ e. (d.refuses stop).0 e), (λ r. (d.refuses stop).1 r));
    }

rest_decides : (name : List ℕ) → LayoutDecides (remaining name)
unfolding reading_layout
rest_decides name body at fits h = record {
  reads = λ items to. (
    (λ e.
        let p = pair_is (Rest name (drop at body) ∷ []) items (length body) to e in
        record {
          reads =
              (AreBytes-drop at body fits, sym p.0, drop_all to body (omega (arith, p.1)));
          forward = omega (arith, p.1);
          within = omega (arith, p.1);
        }),
    (λ r.
        let to_is : length body ≡ to =
        omega (arith, r.within, ap length r.reads.2, length-drop to body) in
        ap (λ (xs : List Item). Ok (xs, length body)) (sym r.reads.1)
        ∙ ap (λ (k : ℕ). Ok (items, k)) to_is),
  );
  refuses =
      λ stop. (
        (λ e. absurd (never (Rest name (drop at body) ∷ [], length body) stop e)),
        (λ r. absurd r.1),
      );
}

after_decides : (shape : Shape) (next : List Item → Layout)
    → ((items : List Item) → LayoutDecides (next items)) → LayoutDecides (after shape next)
unfolding reading_layout
after_decides shape next ih body at fits h =
    let d = both_ways shape body at fits h in
    record {
      reads = λ items to. (
        (λ e.
            let x =
            bind_ok (reading shape body at)
            (λ x. reading_layout (next x.0) body x.1 >>= λ y. Ok (x.0 ++ y.0, y.1)) (items, to)
            e in
            let y =
            bind_ok (reading_layout (next x.0.0) body x.0.1) (λ y. Ok (x.0.0 ++ y.0, y.1))
            (items, to) x.2 in
            let p = pair_is (x.0.0 ++ y.0.0) items y.0.1 to y.2 in
            let first = (d.reads x.0.0 x.0.1).0 x.1 in
            let second = ((ih x.0.0 body x.0.1 fits first.within).reads y.0.0 y.0.1).0 y.1 in
            let left : ReadsLayout (next x.0.0) (drop x.0.1 body) y.0.0 (drop to body) =
            subst (λ (k : ℕ). ReadsLayout (next x.0.0) (drop x.0.1 body) y.0.0 (drop k body)) p.1
            second.reads in
            record {
              reads = (x.0.0, y.0.0, drop x.0.1 body, first.reads, left, sym p.0);
              forward = omega (arith, first.forward, second.forward, p.1);
              within = omega (arith, second.within, p.1);
            }),
        (λ r.
            let s = r.reads in
            let place : drop (at + length s.3.front) body ≡ s.2 =
            drop_front body s.3.front s.2 at s.3.whole in
            let mid : at + length s.3.front ≤ length body =
            front_ends body s.3.front s.2 at h s.3.whole in
            let x : reading shape body at ≡ Ok (s.0, at + length s.3.front) = (d.reads s.0
            (at + length s.3.front)).1
            (record {
              reads = subst (Reads shape (drop at body) s.0) (sym place) s.3;
              forward = omega arith;
              within = mid;
            }) in
            let back = stands_first (next s.0) s.2 s.1 (drop to body) s.4 in
            let forward : at + length s.3.front ≤ to =
            omega (
              arith,
              r.within,
              ap length place,
              length-drop (at + length s.3.front) body,
              length-drop to body,
              ap length back.whole,
              length-append back.front (drop to body),
            ) in
            let y : reading_layout (next s.0) body (at + length s.3.front) ≡ Ok (s.1, to) =
            ((ih s.0 body (at + length s.3.front) fits mid).reads s.1 to).1
            (record {
              reads =
                  subst (λ (b : List ℕ). ReadsLayout (next s.0) b s.1 (drop to body))
                  (sym place) s.4;
              forward = forward;
              within = r.within;
            }) in
            rw (x, y) (ap (λ (xs : List Item). Ok (xs, to)) (sym s.5))),
      );
      refuses = λ stop. (
        (λ e.
            elim
            (bind_err (reading shape body at)
            (λ x. reading_layout (next x.0) body x.1 >>= λ y. Ok (x.0 ++ y.0, y.1)) stop e) [
              | inl cut ↦ let r = (d.refuses stop).0 cut in (r.0, inl r.1, r.2)
              | inr x ↦
                  let first = (d.reads x.0.0 x.0.1).0 x.1 in
                  elim
                  (bind_err (reading_layout (next x.0.0) body x.0.1)
                  (λ y. Ok (x.0.0 ++ y.0, y.1)) stop x.2) [
                    | inl cut ↦
                        let r = ((ih x.0.0 body x.0.1 fits first.within).refuses stop).0 cut in
                        let f = first.reads in (
                          length f.front + r.0,
                          inr (
                            x.0.0,
                            f.fits,
                            (
                              x.0.0,
                              f.front,
                              drop x.0.1 body,
                              r.0,
                              refl,
                              f.spells,
                              f.whole,
                              r.1,
                              refl,
                            ),
                          ),
                          omega (
                            arith,
                            r.2,
                            first.forward,
                            first.within,
                            ap length f.whole,
                            length-append f.front (drop x.0.1 body),
                            length-drop at body,
                            length-drop x.0.1 body,
                          ),
                        )
                    | inr y ↦ absurd (never (x.0.0 ++ y.0.0, y.0.1) stop y.2)
                  ]
            ]),
        (λ r.
            elim r.1 [
              | inl s ↦
                  let cut : reading shape body at ≡ Err stop = (d.refuses stop).1 (r.0, s, r.2) in
                  rw cut refl
              | inr t ↦
                  let b = t.2 in
                  let place : drop (at + length b.1) body ≡ b.2 = drop_front body b.1 b.2 at b.6 in
                  let mid : at + length b.1 ≤ length body = front_ends body b.1 b.2 at h b.6 in
                  let spelled : Spells t.0 b.1 =
                  subst (λ (xs : List Item). Spells xs b.1) b.4 b.5 in
                  let x : reading shape body at ≡ Ok (t.0, at + length b.1) =
                  (d.reads t.0 (at + length b.1)).1
                  (record {
                    reads =
                        subst (Reads shape (drop at body) t.0) (sym place)
                        (record {
                          front = b.1;
                          fits = t.1;
                          spells = spelled;
                          whole = b.6;
                        });
                    forward = omega arith;
                    within = mid;
                  }) in
                  let y : reading_layout (next t.0) body (at + length b.1) ≡ Err stop =
                  ((ih t.0 body (at + length b.1) fits mid).refuses stop).1 (
                    b.3,
                    subst (λ (l : List ℕ). RefusesLayout (next t.0) l b.3 stop.reason)
                        (sym place) b.7,
                    omega (arith, r.2, b.8),
                  ) in
                  rw (x, y) refl
            ]),
      );
    }

pub layout_decides : (layout : Layout) → LayoutDecides layout
layout_decides (exactly shape) = exactly_decides shape
layout_decides (remaining name) = rest_decides name
layout_decides (after shape next) = after_decides shape next (λ items. layout_decides (next items))

pub layout_is_decided : (layout : Layout) (bytes : List ℕ) → AreBytes bytes
    → IsDecided (ReadsLayout layout) (RefusesLayout layout) bytes
layout_is_decided layout bytes fits =
    in_one_way (reading_layout layout) (ReadsLayout layout) (RefusesLayout layout) bytes
    (layout_decides layout bytes 0 fits (omega arith))
    (λ items left r. let s = stands_first layout bytes items left r in
    (length s.front, front_place bytes s.front left s.whole))

-- an exact answer by a layout is one that its relations allow
pub layout_is_read : {X : Type 0} (layout : Layout) (items : X → List Item) (old new : View)
    (r : Result X GetError) → AreBytes old.body → old.at ≤ length old.body
    → Gives items r new.at (reading_layout layout old.body old.at)
    → IsRead (ReadsLayout layout, RefusesLayout layout) items old r new
layout_is_read layout items old new r fits h g =
    is_read (reading_layout layout) (ReadsLayout layout) (RefusesLayout layout) items old new r
    (layout_decides layout old.body old.at fits h) g

-- reading up to the end gives just the items that fit and that the body spells
pub read_to_the_end : (layout : Layout) (body : List ℕ) (items : List Item) → AreBytes body
    → ReadsToTheEnd layout body items
read_to_the_end layout body items fits =
    let d = (layout_decides layout body 0 fits (omega arith)).reads items (length body) in
    let none : drop (length body) body ≡ [] = drop_all (length body) body (omega arith) in (
      (λ e. (reads_whole layout body items).0
          (subst (ReadsLayout layout body items) none (d.0 e).reads)),
      (λ p.
          d.1 (record {
            reads =
                subst (ReadsLayout layout body items) (sym none)
                ((reads_whole layout body items).1 p);
            forward = omega arith;
            within = omega arith;
          })),
    )
