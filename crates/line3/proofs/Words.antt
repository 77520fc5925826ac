-- Words of a command line: one that does not begin with a hyphen, and the names among them.
use Rattle.line3.proofs.Common.{ap, ap₂, sym, subst, inl, inr, arith, ◌≡◌, ◌≤◌, ◌∙◌, ◌==◌, ◌&&◌, ◌||◌, ℕ, suc, Bool, true, false, List, [], ◌∷◌, Some, None, codes, length, if◌then◌else◌, option_and_then, Text, NameFiles, is_end, names_in, IsFileWord, bytes_eq}
use Rattle.std.specs.Option.{option_map_or}
use Rattle.std.proofs.lemmas.Slice.Eq.{bytes_eq-Decides}
use Rattle.clap.specs.Lexer.{long_of, long_of_rest, short_of, short_of_rest, strip_byte}
use Rattle.clap.specs.Walk.{Held, Rule, Step, Waiting, Walk, after_step, arg_by_index, idle, long_or_other, positional, short_or_plain, to_positional, trailing, value, walked, word_met}
use Rattle.clap.specs.Simple.{Shape}
use Rattle.clap.specs.Takes.{bundle_passes, flag_word_passes, step_passes, turn_passes, word_passes}

-- ---- a word that does not begin with a hyphen

-- where a walk stands, no subcommand met and no `--`
abbrev pub at : Held → Waiting → ℕ → Walk
at h waiting position =
    record { held = h; waiting = waiting; position = position; is_trailing = false; stopped = None }

module _ (x : ℕ) (xs : Text) (no_hyphen : (x == 45) ≡ false) where
  stripped : strip_byte 45 (x ∷ xs) ≡ None
  stripped = ap (λ b. if b then Some xs else None) no_hyphen

  no_long : long_of (x ∷ xs) ≡ None
  no_long = ap (λ o. option_and_then long_of_rest (option_and_then (strip_byte 45) o)) stripped

  no_short : short_of (x ∷ xs) ≡ None
  no_short = ap (λ o. option_and_then short_of_rest o) stripped

  no_end : bytes_eq (x ∷ xs) (45 ∷ 45 ∷ []) ≡ false
  no_end = ap (λ b. b && bytes_eq xs (45 ∷ [])) no_hyphen

  plain_met : (c : List Rule) (position : ℕ) (h : Held)
      → word_met c [] false idle position (x ∷ xs) h ≡ (h, value)
  plain_met c position h =
      ap
      (λ b.
      if b then (h, trailing position)
      else long_or_other c idle (x ∷ xs) (long_of (x ∷ xs)) h) no_end
      ∙ ap (λ o. long_or_other c idle (x ∷ xs) o h) no_long
      ∙ ap (λ o. short_or_plain c idle (x ∷ xs) o h) no_short

  further_met : (c : List Rule) (position : ℕ) (h : Held)
      → word_met c [] false positional position (x ∷ xs) h ≡ (h, value)
  further_met c position h =
      ap
      (λ b.
      if b then (h, trailing position)
      else long_or_other c positional (x ∷ xs) (long_of (x ∷ xs)) h) no_end
      ∙ ap (λ o. long_or_other c positional (x ∷ xs) o h) no_long
      ∙ ap (λ o. short_or_plain c positional (x ∷ xs) o h) no_short

  pub plain_walked : (c : List Rule) (h : Held) (n : ℕ)
      → walked c [] (at h idle n) (x ∷ xs)
      ≡ to_positional c (arg_by_index c n) (x ∷ xs) (at h idle n) h
  unfolding walked
  plain_walked c h n =
      ap (λ (m : Held × Step). after_step c (x ∷ xs) (at h idle n) m.0 m.1) (plain_met c n h)

  pub further_walked : (c : List Rule) (h : Held) (n : ℕ)
      → walked c [] (at h positional n) (x ∷ xs)
      ≡ to_positional c (arg_by_index c n) (x ∷ xs) (at h positional n) h
  unfolding walked
  further_walked c h n =
      ap (λ (m : Held × Step). after_step c (x ∷ xs) (at h positional n) m.0 m.1)
      (further_met c n h)

  plain_passes : (s : Shape) (h : Held) → word_passes s [] false idle (x ∷ xs) h ≡ true
  plain_passes s h =
      ap (λ b. b || flag_word_passes s.rules s.args_override_self (long_of (x ∷ xs)) (x ∷ xs) h)
      no_end
      ∙ ap (λ o. flag_word_passes s.rules s.args_override_self o (x ∷ xs) h) no_long
      ∙ ap (λ o. option_map_or (λ flags. bundle_passes s.rules s.args_override_self flags h) o true)
      no_short

  further_passes : (s : Shape) (h : Held) → word_passes s [] false positional (x ∷ xs) h ≡ true
  further_passes s h =
      ap (λ b. b || flag_word_passes s.rules s.args_override_self (long_of (x ∷ xs)) (x ∷ xs) h)
      no_end
      ∙ ap (λ o. flag_word_passes s.rules s.args_override_self o (x ∷ xs) h) no_long
      ∙ ap (λ o. option_map_or (λ flags. bundle_passes s.rules s.args_override_self flags h) o true)
      no_short

  pub plain_turn : (s : Shape) (h : Held) (n : ℕ)
      → turn_passes s [] (at h idle n) (x ∷ xs) ≡ step_passes s n h value
  plain_turn s h n =
      ap
      (λ b.
      b
      && step_passes s n (word_met s.rules [] false idle n (x ∷ xs) h).0
      (word_met s.rules [] false idle n (x ∷ xs) h).1) (plain_passes s h)
      ∙ ap (λ (m : Held × Step). step_passes s n m.0 m.1) (plain_met s.rules n h)

  pub further_turn : (s : Shape) (h : Held) (n : ℕ)
      → turn_passes s [] (at h positional n) (x ∷ xs) ≡ step_passes s n h value
  further_turn s h n =
      ap
      (λ b.
      b
      && step_passes s n (word_met s.rules [] false positional n (x ∷ xs) h).0
      (word_met s.rules [] false positional n (x ∷ xs) h).1) (further_passes s h)
      ∙ ap (λ (m : Held × Step). step_passes s n m.0 m.1) (further_met s.rules n h)

-- ---- the names among words

-- the word that ends the options
abbrev pub end : Text
end = 45 ∷ 45 ∷ []

pub end_is : (w : Text) → is_end w ≡ true → w ≡ codes "--"
end_is w ends = (bytes_eq-Decides w (codes "--")).0 ends

pub names_ended : (w : Text) (words : List Text) → is_end w ≡ true → names_in (w ∷ words) ≡ words
names_ended w words ends = ap (λ (b : Bool). if b then words else w ∷ names_in words) ends

pub names_plain : (w : Text) (words : List Text) → IsFileWord w
    → names_in (w ∷ words) ≡ w ∷ names_in words
names_plain w words is =
    ap (λ (b : Bool). if b then words else w ∷ names_in words)
    (ap is_end is.split ∙ no_end is.first is.rest is.no_hyphen)

-- what is so of a `--` and all the names, and of the first name and words that have the others, is
-- so of words that have them
pub name_then : (P : List Text → Type 0) (a : Text) (more : List Text) → P (end ∷ a ∷ more)
    → ((rest : List Text) → IsFileWord a → NameFiles rest → names_in rest ≡ more → P (a ∷ rest))
    → (words : List Text) → NameFiles words → names_in words ≡ a ∷ more → P words
name_then P a more first later [] name e = absurd (cc)
name_then P a more first later (v ∷ words) (inl ends) e =
    let rest : words ≡ a ∷ more = sym (names_ended v words ends) ∙ e in
    subst P (sym (ap₂ (λ h t. h ∷ t) (end_is v ends) rest)) first
name_then P a more first later (v ∷ words) (inr (is, name)) e =
    let all : v ∷ names_in words ≡ a ∷ more = sym (names_plain v words is) ∙ e in
    let of_a : v ≡ a = cc in
    let rest : names_in words ≡ more = cc in
    subst (λ w. P (w ∷ words)) (sym of_a) (later words (subst IsFileWord of_a is) name rest)

-- what is so of a `--` and of no words is so of words that have no names
no_names : (P : List Text → Type 0) → P (end ∷ []) → P [] → (words : List Text) → NameFiles words
    → names_in words ≡ [] → P words
no_names P last none [] name e = none
no_names P last none (v ∷ words) (inl ends) e =
    let rest : words ≡ [] = sym (names_ended v words ends) ∙ e in
    subst P (sym (ap₂ (λ h t. h ∷ t) (end_is v ends) rest)) last
no_names P last none (v ∷ words) (inr (is, name)) e =
    let all : v ∷ names_in words ≡ [] = sym (names_plain v words is) ∙ e in absurd (cc)

-- what holds of a name, before or after a `--` or without one, holds of words that have it
pub one_name : (P : List Text → Type 0) (a : Text) → P (end ∷ a ∷ [])
    → (IsFileWord a → P (a ∷ end ∷ [])) → (IsFileWord a → P (a ∷ []))
    → (words : List Text) → NameFiles words → names_in words ≡ a ∷ [] → P words
one_name P a first last none =
    name_then P a [] first (λ rest is. no_names (λ l. P (a ∷ l)) (last is) (none is) rest)

-- what holds of two names, wherever a `--` stands among them, holds of words that have them
pub two_names : (P : List Text → Type 0) (a b : Text) → P (end ∷ a ∷ b ∷ [])
    → (IsFileWord a → P (a ∷ end ∷ b ∷ []))
    → (IsFileWord a → IsFileWord b → P (a ∷ b ∷ end ∷ []))
    → (IsFileWord a → IsFileWord b → P (a ∷ b ∷ [])) → (words : List Text) → NameFiles words
    → names_in words ≡ a ∷ b ∷ [] → P words
two_names P a b first second last none =
    name_then P a (b ∷ []) first
    (λ rest is. one_name (λ l. P (a ∷ l)) b (second is) (last is) (none is) rest)

no_longer : (b : Bool) (words names : List Text) → length names ≤ suc (length words)
    → length (if b then words else names) ≤ suc (length words)
no_longer true words names low = omega arith
no_longer false words names low = low

pub names_in-length : (words : List Text) → length (names_in words) ≤ length words
names_in-length [] = omega arith
names_in-length (w ∷ words) =
    no_longer (is_end w) words (w ∷ names_in words) (omega (arith, names_in-length words))

-- ---- what is so of each name by its first byte is so of a name, and of two

pub split_one : (P : Text → Type 0) → ((x : ℕ) (xs : Text) → (x == 45) ≡ false → P (x ∷ xs))
    → (a : Text) → IsFileWord a → P a
split_one P given a is = subst P (sym is.split) (given is.first is.rest is.no_hyphen)

pub split_two : (P : Text → Text → Type 0)
    → ((x : ℕ) (xs : Text) → (x == 45) ≡ false → (y : ℕ) (ys : Text) → (y == 45) ≡ false
    → P (x ∷ xs) (y ∷ ys)) → (a b : Text) → IsFileWord a → IsFileWord b → P a b
split_two P given a b i o =
    split_one (λ v. P v b)
    (λ x xs e. split_one (P (x ∷ xs)) (λ y ys e'. given x xs e y ys e') b o) a i
