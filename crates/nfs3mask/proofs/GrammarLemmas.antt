-- clap takes each line of the form.
use Rattle.nfs3mask.proofs.Common.{arith, ap, ap₂, sym, refl, ◌≡◌, ◌≤◌, ◌∙◌, ◌==◌, ◌&&◌, ◌++◌, ℕ, Bool, true, false, List, [], ◌∷◌, Some, None, codes, length, fold, is_some, map, le-leb, usize_max, App, Text, is_simple, takes, IsMaskLine, IsUsage, Change, change_word, AreMaskWordsRefused, mask_words}
use Rattle.std.specs.Prelude.{Option}
use Rattle.std.specs.List.{list_all}
use Rattle.std.proofs.Common.{inl, inr}
use Rattle.line3.specs.Asked.{NameFiles, names_in}
use Rattle.clap.specs.Walk.{Held, Walk, arg_by_index, finished, idle, nothing_held, positional, to_positional, walked}
use Rattle.clap.specs.Simple.{built, entered}
use Rattle.clap.specs.Takes.{default_passes, entered_passes, is_valid, settle_passes, turn_passes, walk_passes}
use Rattle.clap.proofs.OnLiterals.{clap_on_literals}
use Rattle.clap.specs.declared.parser.matches.ValueSource.TheVariants.{CommandLine}
use Rattle.clap.specs.declared.builder.value_parser.Reading.TheVariants.{AsWritten}
use Rattle.line3.specs.declared.asked.LineFault.{LineFault}
use Rattle.line3.specs.declared.asked.LineFault.TheVariants.{Usage, Memory}
use Rattle.line3.proofs.GrammarLemmas.{ends}
use Rattle.line3.proofs.Reading.{Reads, all_pass, read_all, read_passes, trail_all, trail_passes}
use Rattle.line3.proofs.Words.{at, end, end_is, further_turn, further_walked, name_then, names_ended, names_in-length, names_plain, plain_turn, plain_walked, split_one, split_two}
use Rattle.nfs3mask.specs.Grammar.{mask_app}

simple : is_simple mask_app ≡ true
unfolding clap_on_literals
simple = refl

abbrev top_of : App
top_of = built mask_app

-- both files are used, and these words are read
abbrev reading : (input output : Text) → List Text → Walk
reading input output words = record {
  held = record {
    rows =
        record {
          id = codes "IN";
          values = input ∷ [];
          count = None;
          source = Some CommandLine;
          reading = AsWritten;
        }
        ∷ record {
          id = codes "OUT";
          values = output ∷ [];
          count = None;
          source = Some CommandLine;
          reading = AsWritten;
        } ∷ [];
    pending = Some (codes "CLASS=WAY", words);
    skip = 0;
  };
  waiting = positional;
  position = 3;
  is_trailing = false;
  stopped = None;
}

reads : (input output : Text) → Reads top_of.top (reading input output)
unfolding clap_on_literals
reads input output = record {
  name_read = λ got w is.
      ap (λ (v : Text). walked top_of.top.rules [] (reading input output got) v) is.split
      ∙ further_walked is.first is.rest is.no_hyphen top_of.top.rules
      (reading input output got).held 3
      ∙ ap (λ (v : Text). reading input output (got ++ v ∷ [])) (sym is.split);
  name_passes = λ got w is.
      ap (λ (v : Text). turn_passes top_of.top [] (reading input output got) v) is.split
      ∙ further_turn is.first is.rest is.no_hyphen top_of.top (reading input output got).held 3;
  end_read = λ got. refl;
  end_passes = λ got. refl;
  word_read = λ got w. refl;
  word_passes = λ got w. refl;
}

module _ (input output : Text) where
  read_ends : (words : List Text) → length words ≤ usize_max
      → ends top_of.top (reading input output words).held ≡ true
  unfolding clap_on_literals
  read_ends [] few = refl
  read_ends (w ∷ words) few =
      ap₂
      (λ (a b : Bool). (a && (b && list_all (λ (v : Text). true) words))
      && (list_all default_passes top_of.top.rules
      && is_valid top_of.top
      (finished top_of.top.rules (reading input output (w ∷ words)).held) false))
      (le-leb 0 (length (w ∷ words)) (omega arith)) (le-leb (length (w ∷ words)) usize_max few)
      ∙ ap
      (λ (b : Bool).
      b
      && (list_all default_passes top_of.top.rules
      && is_valid top_of.top
      (finished top_of.top.rules (reading input output (w ∷ words)).held) false))
      (all_pass words)

-- what a parse asks for of a walk that passed and came here
abbrev ended_by : Bool → Option (Text × List Text) → Held → Bool
ended_by passed stopped held = entered_passes top_of stopped
    && (passed && (settle_passes top_of.top.rules top_of.top.args_override_self held
    && (list_all default_passes top_of.top.rules
    && is_valid top_of.top (finished top_of.top.rules held)
    (is_some (entered top_of stopped)))))

abbrev ended : Bool → Walk → Bool
ended passed w = ended_by passed w.stopped w.held

abbrev rest_passes : Bool → Walk → List Text → Bool
rest_passes passed w words =
    ended (passed && walk_passes top_of.top [] w words) (fold (walked top_of.top.rules []) w words)

-- the walk after an input and an output, of which one came after a `--`
abbrev trailing_second : (input output : Text) → Walk
trailing_second input output = record {
  held = record {
    rows =
        record {
          id = codes "IN";
          values = input ∷ [];
          count = None;
          source = Some CommandLine;
          reading = AsWritten;
        } ∷ [];
    pending = Some (codes "OUT", output ∷ []);
    skip = 0;
  };
  waiting = idle;
  position = 3;
  is_trailing = true;
  stopped = None;
}

trailing_read : (input output : Text) (words : List Text) → length words ≤ usize_max
    → rest_passes true (trailing_second input output) words ≡ true
unfolding clap_on_literals
trailing_read input output [] few = refl
trailing_read input output (w ∷ words) few =
    let r = reads input output in
    ap₂ ended (trail_passes top_of.top (reading input output) r (w ∷ []) words)
    (trail_all top_of.top (reading input output) r (w ∷ []) words)
    ∙ read_ends input output (w ∷ words) few

module _ (p : Text) where
  abbrev Takes : List Text → Type 0
  Takes words = takes mask_app (p ∷ words) ≡ true

  all_after : (input output : Text) (words : List Text) → length words ≤ usize_max
      → Takes (end ∷ input ∷ output ∷ words)
  unfolding clap_on_literals
  all_after input output words few = trailing_read input output words few

  module _ (x : ℕ) (xs : Text) (no_hyphen : (x == 45) ≡ false) where
    output_after : (output : Text) (words : List Text) → length words ≤ usize_max
        → Takes ((x ∷ xs) ∷ end ∷ output ∷ words)
    unfolding clap_on_literals
    output_after output words few =
        ap₂
        (λ (t : Bool) (w : Walk).
        ended
        (t
        && (turn_passes top_of.top [] w end
        && (turn_passes top_of.top [] (walked top_of.top.rules [] w end) output
        && walk_passes top_of.top []
        (walked top_of.top.rules [] (walked top_of.top.rules [] w end) output) words)))
        (fold (walked top_of.top.rules [])
        (walked top_of.top.rules [] (walked top_of.top.rules [] w end) output) words))
        (plain_turn x xs no_hyphen top_of.top nothing_held 1)
        (plain_walked x xs no_hyphen top_of.top.rules nothing_held 1)
        ∙ trailing_read (x ∷ xs) output words few

  module _ (x : ℕ) (xs : Text) (no_hyphen : (x == 45) ≡ false) (y : ℕ) (ys : Text)
      (no_hyphen' : (y == 45) ≡ false) where
    -- the walk after the first file, and after the second
    abbrev first : Walk
    first =
        to_positional top_of.top.rules (arg_by_index top_of.top.rules 1) (x ∷ xs)
        (at nothing_held idle 1) nothing_held

    abbrev second : Walk
    second =
        to_positional top_of.top.rules (arg_by_index top_of.top.rules 2) (y ∷ ys) first first.held

    files_read : (words : List Text)
        → takes mask_app (p ∷ (x ∷ xs) ∷ (y ∷ ys) ∷ words) ≡ rest_passes true second words
    unfolding clap_on_literals
    files_read words =
        ap₂
        (λ (t : Bool) (w : Walk).
        ended
        (t
        && (turn_passes top_of.top [] w (y ∷ ys)
        && walk_passes top_of.top [] (walked top_of.top.rules [] w (y ∷ ys)) words))
        (fold (walked top_of.top.rules []) (walked top_of.top.rules [] w (y ∷ ys)) words))
        (plain_turn x xs no_hyphen top_of.top nothing_held 1)
        (plain_walked x xs no_hyphen top_of.top.rules nothing_held 1)
        ∙ ap₂ (λ (t : Bool) (w : Walk). rest_passes t w words)
        (plain_turn y ys no_hyphen' top_of.top first.held 2)
        (plain_walked y ys no_hyphen' top_of.top.rules first.held 2)

    words_read : (words : List Text) → length (names_in words) ≤ usize_max → NameFiles words
        → rest_passes true second words ≡ true
    unfolding clap_on_literals
    words_read [] few name = refl
    words_read (w ∷ words) few (inl ends) =
        let n : length (names_in (w ∷ words)) ≡ length words =
        ap (λ (l : List Text). length l) (names_ended w words ends) in
        let fits : length words ≤ usize_max = omega (arith, n, few) in
        ap (λ (v : Text). rest_passes true second (v ∷ words)) (end_is w ends)
        ∙ trailing_read (x ∷ xs) (y ∷ ys) words fits
    words_read (w ∷ words) few (inr (is, name)) =
        let n : length (names_in (w ∷ words)) ≡ length (w ∷ names_in words) =
        ap (λ (l : List Text). length l) (names_plain w words is) in
        let fits : length (w ∷ names_in words) ≤ usize_max = omega (arith, n, few) in
        let r = reads (x ∷ xs) (y ∷ ys) in
        let all = read_all top_of.top (reading (x ∷ xs) (y ∷ ys)) r (w ∷ []) words name in
        let after : Walk =
        fold (walked top_of.top.rules []) (reading (x ∷ xs) (y ∷ ys) (w ∷ [])) words in
        ap (λ (v : Text). rest_passes true second (v ∷ words)) is.split
        ∙ ap₂ (λ (t : Bool) (v : Walk). rest_passes t v words)
        (plain_turn is.first is.rest is.no_hyphen top_of.top second.held 3)
        (plain_walked is.first is.rest is.no_hyphen top_of.top.rules second.held 3)
        ∙ ap (λ (v : Text). rest_passes true (reading (x ∷ xs) (y ∷ ys) (v ∷ [])) words)
        (sym is.split)
        ∙ ap (λ (t : Bool). ended_by t after.stopped after.held)
        (read_passes top_of.top (reading (x ∷ xs) (y ∷ ys)) r (w ∷ []) words name)
        ∙ ap₂ (ended_by true) all.stopped all.held
        ∙ read_ends (x ∷ xs) (y ∷ ys) (w ∷ names_in words) fits

    files_taken : (words : List Text) → length (names_in words) ≤ usize_max → NameFiles words
        → Takes ((x ∷ xs) ∷ (y ∷ ys) ∷ words)
    files_taken words few name = files_read words ∙ words_read words few name

  words_taken : (input output : Text) (more words : List Text) → length more ≤ usize_max
      → NameFiles words → names_in words ≡ input ∷ output ∷ more → Takes words
  words_taken input output more words few =
      name_then Takes input (output ∷ more) (all_after input output more few)
      (λ rest is. name_then (λ l. Takes (input ∷ l)) output more
      (split_one (λ w. Takes (w ∷ end ∷ output ∷ more))
      (λ x xs h. output_after x xs h output more few) input is)
      (λ changes is' name e. split_two (λ w w'. Takes (w ∷ w' ∷ changes))
      (λ x xs h y ys h'. files_taken x xs h y ys h' changes (rw e few) name) input output is is')
      rest) words

-- ---- a line of the form

-- clap takes each line of the form; the bound is that of any list in memory
pub mask_taken : (words : List Text) (input output : Text) (changes : List Change)
    → length words ≤ usize_max → (line : IsMaskLine words (mask_words input output changes))
    → NameFiles line.rest → takes mask_app words ≡ true
mask_taken words input output changes few line name =
    let n : length words ≡ length (line.program ∷ line.rest) = ap length line.all in
    let m : length (names_in line.rest) ≡ length (input ∷ output ∷ map change_word changes) =
    ap length (sym line.named) in
    let least = names_in-length line.rest in
    let fits : length (map change_word changes) ≤ usize_max = omega (arith, n, m, least, few) in
    ap (λ (w : List Text). takes mask_app w) line.all
    ∙ words_taken line.program input output (map change_word changes) line.rest fits name
    (sym line.named)

-- so a usage is told of no such line
pub mask_refuses : (words : List Text) (fault : LineFault) → length words ≤ usize_max
    → IsUsage fault → (takes mask_app words ≡ true → fault ≡ Memory)
    → AreMaskWordsRefused words fault
mask_refuses words (Usage text) few is memory =
    λ input output changes line name. let out : Usage text ≡ Memory =
    memory (mask_taken words input output changes few line name) in absurd (cc)
mask_refuses words Memory few is memory = tt
mask_refuses words _ few is memory = absurd is
