-- Which forms the words of a command line have.
use Rattle.line3.proofs.Common.{refl, inl, inr, sym, ap₂, ◌+◌, if◌then◌else◌, is_end, names_in, without_end, remove, Bool, true, false, ◌||◌, ◌⊎◌, Contains, ◌≡◌, ◌≢◌, ◌<◌, ◌≤◌, ℕ, List, [], ◌∷◌, codes, length, map, drop, take, ◌-◌, slice_index_or, string_bytes, String, Global, ap, ◌∙◌, arith, zero, suc, LineFault, Usage, Odd, SameName, NotText, Memory, AreRefused, Form, Check, Show, Canon, Same, Pack, IsLine, words_of, IsUsage, string_eq}
use Rattle.std.proofs.Math.Seq.{take-length}
use Rattle.std.specs.List.{list_any}
use Rattle.std.proofs.lemmas.Slice.Eq.{bytes_eq-Decides}

abbrev pub tail_of : List (List ℕ) → List (List ℕ)
tail_of [] = []
tail_of (x ∷ xs) = xs

-- a command with so many names, of which there is no form
pub record IsOther (command : List ℕ) (names : List (List ℕ)) : Type 0 where
  pub check : command ≡ codes "check" → length names ≢ 1
  pub show : command ≡ codes "show" → length names ≢ 1
  pub canon : command ≡ codes "canon" → length names ≢ 2
  pub same : command ≡ codes "same" → length names ≢ 2
  pub pack : command ≡ codes "pack" → length names < 2

-- one line has one command and one list of names
pub same_said : (line said other : List (List ℕ)) → IsLine line said → IsLine line other
    → said ≡ other
same_said line said other is too =
    let e : is.program ∷ is.command ∷ is.rest ≡ too.program ∷ too.command ∷ too.rest =
    sym is.all ∙ too.all in
    let command : is.command ≡ too.command = cc in
    let rest : is.rest ≡ too.rest = ap (λ l. tail_of (tail_of l)) e in
    is.named ∙ ap₂ (λ c r. c ∷ names_in r) command rest ∙ sym too.named

pub no_form : (line : List (List ℕ)) (command : List ℕ) (names : List (List ℕ))
    → IsLine line (command ∷ names) → IsOther command names
    → (form : Form) → IsLine line (words_of form) → ⊥
no_form line command names said is (Check file) other =
    let e : command ∷ names ≡ codes "check" ∷ file ∷ [] =
    same_said line (command ∷ names) (codes "check" ∷ file ∷ []) said other in
    is.check (cc) (ap (λ l. length (tail_of l)) e)
no_form line command names said is (Show file) other =
    let e : command ∷ names ≡ codes "show" ∷ file ∷ [] =
    same_said line (command ∷ names) (codes "show" ∷ file ∷ []) said other in
    is.show (cc) (ap (λ l. length (tail_of l)) e)
no_form line command names said is (Canon a b) other =
    let e : command ∷ names ≡ codes "canon" ∷ a ∷ b ∷ [] =
    same_said line (command ∷ names) (codes "canon" ∷ a ∷ b ∷ []) said other in
    is.canon (cc) (ap (λ l. length (tail_of l)) e)
no_form line command names said is (Same a b) other =
    let e : command ∷ names ≡ codes "same" ∷ a ∷ b ∷ [] =
    same_said line (command ∷ names) (codes "same" ∷ a ∷ b ∷ []) said other in
    is.same (cc) (ap (λ l. length (tail_of l)) e)
no_form line command names said is (Pack a b more) other =
    let e : command ∷ names ≡ codes "pack" ∷ a ∷ b ∷ more =
    same_said line (command ∷ names) (codes "pack" ∷ a ∷ b ∷ more) said other in
    let f : command ≡ codes "pack" = cc in
    let short = is.pack f in
    let n : length names ≡ length (a ∷ b ∷ more) = ap (λ l. length (tail_of l)) e in
    absurd (omega (arith, n, short))

-- a usage is the answer to a line of none of the forms
pub told : (words : List (List ℕ)) (fault : LineFault) → IsUsage fault
    → ((form : Form) → IsLine words (words_of form) → ⊥) → AreRefused words fault
told words (Usage text) is none = λ form line names. none form line
told words Odd is none = absurd is
told words SameName is none = absurd is
told words NotText is none = absurd is
told words Memory is none = tt

pub told_other : (line : List (List ℕ)) (command : List ℕ) (names : List (List ℕ))
    (fault : LineFault) → IsLine line (command ∷ names) → IsUsage fault → IsOther command names
    → AreRefused line fault
told_other line command names fault said is other =
    told line fault is (no_form line command names said other)

-- the words of a line without a `--` are the program's name and what is said
pub said_by : (line said : List (List ℕ)) → (is : IsLine line said)
    → without_end 2 line ≡ is.program ∷ said
said_by line said is =
    ap (without_end 2) is.all ∙ ap (λ l. is.program ∷ l) (sym is.named)

-- so few words have no form
pub no_form_so_short : (line words : List (List ℕ)) → words ≡ without_end 2 line
    → length words < 3 → (form : Form) → IsLine line (words_of form) → ⊥
no_form_so_short line words are short (Check file) is =
    let n : length words ≡ 3 = ap length (are ∙ said_by line (words_of (Check file)) is) in
    absurd (omega (arith, n, short))
no_form_so_short line words are short (Show file) is =
    let n : length words ≡ 3 = ap length (are ∙ said_by line (words_of (Show file)) is) in
    absurd (omega (arith, n, short))
no_form_so_short line words are short (Canon a b) is =
    let n : length words ≡ 4 = ap length (are ∙ said_by line (words_of (Canon a b)) is) in
    absurd (omega (arith, n, short))
no_form_so_short line words are short (Same a b) is =
    let n : length words ≡ 4 = ap length (are ∙ said_by line (words_of (Same a b)) is) in
    absurd (omega (arith, n, short))
no_form_so_short line words are short (Pack a b more) is =
    let n : length words ≡ length (is.program ∷ words_of (Pack a b more)) =
    ap length (are ∙ said_by line (words_of (Pack a b more)) is) in
    absurd (omega (arith, n, short))

-- the line of such words
pub line_of : (line words : List (List ℕ)) (program command : List ℕ) (names : List (List ℕ))
    → words ≡ without_end 2 line → words ≡ program ∷ command ∷ names
    → IsLine line (command ∷ names)
line_of [] words program command names are is = absurd (cc)
line_of (x ∷ []) words program command names are is = absurd (cc)
line_of (x ∷ y ∷ rest) words program command names are is =
    let e : program ∷ command ∷ names ≡ x ∷ y ∷ names_in rest = sym is ∙ are in
    record { program = x; command = y; rest = rest; all = refl; named = ap tail_of e }

-- ---- a word that ends the options

pass_by_one : (words : List (String Global)) (k : ℕ) (w : String Global) → k < length words
    → w ≡ slice_index_or words k w → is_end (string_bytes w) ≡ false
    → without_end k (map string_bytes words) ≡ without_end (suc k) (map string_bytes words)
pass_by_one [] k w low is out = absurd (omega (arith, low))
pass_by_one (x ∷ words) zero w low is out =
    ap
    (λ (b : Bool).
    if b then map string_bytes words
    else string_bytes x ∷ names_in (map string_bytes words))
    (ap (λ v. is_end (string_bytes v)) (sym is) ∙ out)
pass_by_one (x ∷ words) (suc k) w low is out =
    ap (λ l. string_bytes x ∷ l) (pass_by_one words k w (omega (arith, low)) is out)

pub pass_by : (words : List (String Global)) (k : ℕ) (w : String Global) → k < length words
    → w ≡ slice_index_or words k w → is_end (string_bytes w) ≡ false
    → without_end k (map string_bytes words) ≡ without_end (k + 1) (map string_bytes words)
pass_by words k w low is out =
    let next : suc k ≡ k + 1 = omega arith in
    pass_by_one words k w low is out ∙ ap (λ n. without_end n (map string_bytes words)) next

pub taken_out : (words : List (String Global)) (k : ℕ) (w : String Global) → k < length words
    → w ≡ slice_index_or words k w → is_end (string_bytes w) ≡ true
    → map string_bytes (remove words k) ≡ without_end k (map string_bytes words)
taken_out [] k w low is ends = absurd (omega (arith, low))
taken_out (x ∷ words) zero w low is ends =
    ap
    (λ (b : Bool).
    if b then map string_bytes words
    else string_bytes x ∷ names_in (map string_bytes words))
    (sym (ap (λ v. is_end (string_bytes v)) (sym is) ∙ ends))
taken_out (x ∷ words) (suc k) w low is ends =
    ap (λ l. string_bytes x ∷ l) (taken_out words k w (omega (arith, low)) is ends)

pub has_none : (words : List (String Global)) (k : ℕ) → length words ≤ k
    → map string_bytes words ≡ without_end k (map string_bytes words)
has_none [] zero low = refl
has_none [] (suc k) low = refl
has_none (x ∷ words) zero low = absurd (omega (arith, low))
has_none (x ∷ words) (suc k) low =
    ap (λ l. string_bytes x ∷ l) (has_none words k (omega (arith, low)))

-- ---- what is among texts

or_true : (a b : Bool) → (a || b) ≡ true → (a ≡ true) ⊎ (b ≡ true)
or_true true b e = inl refl
or_true false b e = inr e

or_false : (a b : Bool) → (a || b) ≡ false → (a ≡ false) × (b ≡ false)
or_false true b e = absurd (cc)
or_false false b e = (refl, e)

here : (xs : List (List ℕ)) (x t : List ℕ) → x ≡ t → Contains (x ∷ xs) t
here xs x t e = (0, omega arith, e)

there : (xs : List (List ℕ)) (x t : List ℕ) → Contains xs t → Contains (x ∷ xs) t
there xs x t (k, low, is) = (suc k, omega (arith, low), is)

-- what the test finds is among the texts
pub among : (texts : List (String Global)) (t : String Global)
    → list_any (λ y. string_eq y t) texts ≡ true
    → Contains (map string_bytes texts) (string_bytes t)
among [] t found = absurd (cc)
among (x ∷ xs) t found = elim (or_true (string_eq x t) (list_any (λ y. string_eq y t) xs) found) [
  | inl e ↦ here (map string_bytes xs) (string_bytes x) (string_bytes t)
      ((bytes_eq-Decides (string_bytes x) (string_bytes t)).0 e)
  | inr e ↦ there (map string_bytes xs) (string_bytes x) (string_bytes t) (among xs t e)
]

-- what the test does not find is none of them
pub not_among : (texts : List (String Global)) (t : String Global)
    → list_any (λ y. string_eq y t) texts ≡ false
    → Contains (map string_bytes texts) (string_bytes t) → ⊥
not_among [] t none (k, low, is) = omega (arith, low)
not_among (x ∷ xs) t none (zero, low, is) =
    let no : string_eq x t ≡ false =
    (or_false (string_eq x t) (list_any (λ y. string_eq y t) xs) none).0 in
    let yes : string_eq x t ≡ true = (bytes_eq-Decides (string_bytes x) (string_bytes t)).1 is in
    absurd (cc)
not_among (x ∷ xs) t none (suc k, low, is) =
    not_among xs t (or_false (string_eq x t) (list_any (λ y. string_eq y t) xs) none).1
    (k, omega (arith, low), is)

-- ---- words by their number

pub three_words : (words : List (String Global)) (a b : String Global) (command name : List ℕ)
    → 3 ≤ length words → length words < 4 → a ≡ slice_index_or words 1 a
    → b ≡ slice_index_or words 2 b → string_bytes a ≡ command → string_bytes b ≡ name
    → (program : List ℕ) × (map string_bytes words ≡ program ∷ command ∷ name ∷ [])
three_words [] a b command name low high is_a is_b of_a of_b = absurd (omega (arith, low))
three_words (x ∷ []) a b command name low high is_a is_b of_a of_b = absurd (omega (arith, low))
three_words (x ∷ y ∷ []) a b command name low high is_a is_b of_a of_b = absurd (omega (arith, low))
three_words (x ∷ y ∷ z ∷ []) a b command name low high is_a is_b of_a of_b =
    (string_bytes x, cc)
three_words (x ∷ y ∷ z ∷ w ∷ more) a b command name low high is_a is_b of_a of_b =
    absurd (omega (arith, high))

pub four_words : (words : List (String Global)) (a b c : String Global)
    (command first second : List ℕ) → 4 ≤ length words → length words < 5
    → a ≡ slice_index_or words 1 a → b ≡ slice_index_or words 2 b → c ≡ slice_index_or words 3 c
    → string_bytes a ≡ command → string_bytes b ≡ first → string_bytes c ≡ second
    → (program : List ℕ) × (map string_bytes words ≡ program ∷ command ∷ first ∷ second ∷ [])
four_words [] a b c command first second low high is_a is_b is_c of_a of_b of_c =
    absurd (omega (arith, low))
four_words (x ∷ []) a b c command first second low high is_a is_b is_c of_a of_b of_c =
    absurd (omega (arith, low))
four_words (x ∷ y ∷ []) a b c command first second low high is_a is_b is_c of_a of_b of_c =
    absurd (omega (arith, low))
four_words (x ∷ y ∷ z ∷ []) a b c command first second low high is_a is_b is_c of_a of_b of_c =
    absurd (omega (arith, low))
four_words (x ∷ y ∷ z ∷ w ∷ []) a b c command first second low high is_a is_b is_c of_a of_b of_c =
    (string_bytes x, cc)
four_words (x ∷ y ∷ z ∷ w ∷ v ∷ more) a b c command first second low high is_a is_b is_c of_a of_b
    of_c = absurd (omega (arith, high))

pub many_words : (words : List (String Global)) (a b : String Global) (command output : List ℕ)
    → 5 ≤ length words → a ≡ slice_index_or words 1 a → b ≡ slice_index_or words 2 b
    → string_bytes a ≡ command → string_bytes b ≡ output
    → (program : List ℕ) × (map string_bytes words
    ≡ program ∷ command ∷ output ∷ map string_bytes (take (length words - 3) (drop 3 words)))
many_words [] a b command output low is_a is_b of_a of_b = absurd (omega (arith, low))
many_words (x ∷ []) a b command output low is_a is_b of_a of_b = absurd (omega (arith, low))
many_words (x ∷ y ∷ []) a b command output low is_a is_b of_a of_b = absurd (omega (arith, low))
many_words (x ∷ y ∷ z ∷ more) a b command output low is_a is_b of_a of_b =
    let n : length (x ∷ y ∷ z ∷ more) - 3 ≡ length more = omega arith in
    let rest : take (length (x ∷ y ∷ z ∷ more) - 3) more ≡ more =
    ap (λ k. take k more) n ∙ take-length more in
    (string_bytes x, cc)
