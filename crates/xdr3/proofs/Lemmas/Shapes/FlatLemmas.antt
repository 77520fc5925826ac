-- Shapes with their parts in a row, whatever parts of parts they are.
use Rattle.xdr3.proofs.Common.{◌≡◌, ℕ, List, [], ◌++◌, Ok, Err, refl, sym, ap, ◌∙◌, append_assoc, append-nil, GetError, Item, Outcome, ◌>>=◌, reading, Scans, Stops, Shape, both, choose, fixed, hyper, linked, nothing, opaque, sized, write_verf, View}

-- the shape's parts, and then the rest
abbrev pub flat_then : Shape → Shape → Shape
flat_then (both a b) rest = flat_then a (flat_then b rest)
flat_then nothing rest = rest
flat_then (choose name accepted other next) rest = both (choose name accepted other next) rest
flat_then (hyper name) rest = both (hyper name) rest
flat_then (fixed name) rest = both (fixed name) rest
flat_then (write_verf name) rest = both (write_verf name) rest
flat_then (opaque kind name max) rest = both (opaque kind name max) rest
flat_then (linked name shape) rest = both (linked name shape) rest
flat_then (sized name shape) rest = both (sized name shape) rest

-- the shape's parts in a row
abbrev pub flat : Shape → Shape
flat shape = flat_then shape nothing

abbrev done_at : List Item → ℕ → Outcome (List Item)
done_at xs at = Ok (xs, at)

-- what is read, after these items
abbrev later : List Item → List Item × ℕ → Outcome (List Item)
later xs y = Ok (xs ++ y.0, y.1)

-- what is read by one shape and then by another
abbrev glue : Outcome (List Item) → (ℕ → Outcome (List Item)) → Outcome (List Item)
glue r g = r >>= λ x. g x.1 >>= later x.0

glue_same : (r : Outcome (List Item)) (g h : ℕ → Outcome (List Item)) → ((at : ℕ) → g at ≡ h at)
    → glue r g ≡ glue r h
glue_same (Ok x) g h same = rw (same x.1) refl
glue_same (Err stop) g h same = refl

third : (xs ys : List Item) (r : Outcome (List Item))
    → (r >>= later (xs ++ ys)) ≡ ((r >>= later ys) >>= later xs)
third xs ys (Ok z) = ap (λ (l : List Item). done_at l z.1) (append_assoc xs ys z.0)
third xs ys (Err stop) = refl

second : (xs : List Item) (r : Outcome (List Item)) (h : ℕ → Outcome (List Item))
    → glue (r >>= later xs) h ≡ (glue r h >>= later xs)
second xs (Ok y) h = third xs y.0 (h y.1)
second xs (Err stop) h = refl

glue_glued : (r : Outcome (List Item)) (g h : ℕ → Outcome (List Item))
    → glue (glue r g) h ≡ glue r (λ at. glue (g at) h)
glue_glued (Ok x) g h = second x.0 (g x.1) h
glue_glued (Err stop) g h = refl

glue_first : (r : Outcome (List Item)) → (r >>= later []) ≡ r
glue_first (Ok y) = refl
glue_first (Err stop) = refl

glue_last : (r : Outcome (List Item)) → glue r (λ at. done_at [] at) ≡ r
glue_last (Ok x) = ap (λ (l : List Item). done_at l x.1) (append-nil x.0)
glue_last (Err stop) = refl

flat_then_reads : (shape rest : Shape) (body : List ℕ) (at : ℕ)
    → reading (both shape rest) body at ≡ reading (flat_then shape rest) body at
unfolding reading
flat_then_reads (both a b) rest body at =
    glue_glued (reading a body at) (λ n. reading b body n) (λ n. reading rest body n)
    ∙ glue_same (reading a body at) (λ n. reading (both b rest) body n)
    (λ n. reading (flat_then b rest) body n) (λ n. flat_then_reads b rest body n)
    ∙ flat_then_reads a (flat_then b rest) body at
flat_then_reads nothing rest body at = glue_first (reading rest body at)
flat_then_reads (choose name accepted other next) rest body at = refl
flat_then_reads (hyper name) rest body at = refl
flat_then_reads (fixed name) rest body at = refl
flat_then_reads (write_verf name) rest body at = refl
flat_then_reads (opaque kind name max) rest body at = refl
flat_then_reads (linked name shape) rest body at = refl
flat_then_reads (sized name shape) rest body at = refl

pub flat_reads : (shape : Shape) (body : List ℕ) (at : ℕ)
    → reading (flat shape) body at ≡ reading shape body at
unfolding reading
flat_reads shape body at =
    sym (flat_then_reads shape nothing body at) ∙ glue_last (reading shape body at)

-- ---- scans of a shape by that of its parts in a row

pub flat_scans : {V : Type 0} (stands : V → List Item → Type 0) (shape row : Shape) (v0 v1 : View)
    (s0 s1 : V) → Scans stands row (v0, s0) (v1, s1) → flat shape ≡ row
    → Scans stands shape (v0, s0) (v1, s1)
unfolding Scans
flat_scans stands shape row v0 v1 s0 s1 h same = (
  h.0,
  sym (flat_reads shape v0.body v0.at) ∙ ap (λ (s : Shape). reading s v0.body v0.at) same
      ∙ h.1,
  h.2,
  h.3,
)

pub flat_stops : (shape row : Shape) (v0 : View) (error : GetError) → Stops row v0 error
    → flat shape ≡ row → Stops shape v0 error
unfolding Stops
flat_stops shape row v0 error h same =
    λ stop is.
    sym (flat_reads shape v0.body v0.at) ∙ ap (λ (s : Shape). reading s v0.body v0.at) same
    ∙ h stop is

-- how a scan follows from that of the shape's parts in a row
pub ruleset flats = (flat_scans, flat_stops)
