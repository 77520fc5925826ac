-- clap takes a line of each of the five forms.
use Rattle.line3.proofs.Common.{arith, ap, ap₂, sym, refl, subst, ◌≡◌, ◌≤◌, ◌∙◌, ◌==◌, ◌&&◌, ◌++◌, ℕ, Bool, true, false, List, [], ◌∷◌, Some, None, codes, length, is_some, fold, le-leb, append-nil, append_assoc, App, Text, is_simple, takes, LineFault, Usage, Odd, SameName, NotText, Memory, AreRefused, NameFiles, names_in, Form, Check, Show, Canon, Same, Pack, IsLine, words_of, IsUsage}
use Rattle.std.specs.List.{list_all}
use Rattle.clap.specs.Lexer.{usize_max}
use Rattle.clap.specs.Walk.{Held, Walk, arg_by_index, finished, idle, nothing_held, positional, to_positional, walked}
use Rattle.clap.specs.Simple.{Shape, built, built_leaf, entered, inherited, names_of}
use Rattle.clap.specs.Takes.{default_passes, entered_passes, level_passes, is_valid, settle_passes, turn_passes, walk_passes}
use Rattle.clap.proofs.OnLiterals.{clap_on_literals}
use Rattle.clap.specs.declared.parser.matches.ValueSource.TheVariants.{CommandLine}
use Rattle.clap.specs.declared.builder.value_parser.Reading.TheVariants.{AsWritten}
use Rattle.line3.specs.Grammar.{app, one_file, packing_form, two_files}
use Rattle.line3.proofs.Words.{at, end, further_turn, further_walked, name_then, names_in-length, one_name, plain_turn, plain_walked, split_one, split_two, two_names}
use Rattle.line3.proofs.Reading.{Reads, all_pass, read_all, read_passes, trail_all, trail_passes}

pub simple : is_simple app ≡ true
unfolding clap_on_literals
simple = refl

-- ---- a command and one file, or two

abbrev leaf_of : App → Shape
leaf_of a = built_leaf (inherited app.top a.top)

-- what a level asks for after its last word
abbrev pub ends : Shape → Held → Bool
ends s h =
    settle_passes s.rules s.args_override_self h
    && (list_all default_passes s.rules && is_valid s (finished s.rules h) false)

module _ (x : ℕ) (xs : Text) (no_hyphen : (x == 45) ≡ false) (p : Text) where
  abbrev check_leaf : Shape
  check_leaf = leaf_of (one_file (codes "check"))

  pub check_taken : takes app (p ∷ codes "check" ∷ (x ∷ xs) ∷ []) ≡ true
  unfolding clap_on_literals
  check_taken =
      ap₂ (λ (t : Bool) (w : Walk). (t && true) && ends check_leaf w.held && true)
      (plain_turn x xs no_hyphen check_leaf nothing_held 1)
      (plain_walked x xs no_hyphen check_leaf.rules nothing_held 1)

  pub check_ended : takes app (p ∷ codes "check" ∷ (x ∷ xs) ∷ end ∷ []) ≡ true
  unfolding clap_on_literals
  check_ended =
      ap₂
      (λ (t : Bool) (w : Walk). (t && (turn_passes check_leaf [] w end && true))
      && ends check_leaf (walked check_leaf.rules [] w end).held && true)
      (plain_turn x xs no_hyphen check_leaf nothing_held 1)
      (plain_walked x xs no_hyphen check_leaf.rules nothing_held 1)

  abbrev show_leaf : Shape
  show_leaf = leaf_of (one_file (codes "show"))

  pub show_taken : takes app (p ∷ codes "show" ∷ (x ∷ xs) ∷ []) ≡ true
  unfolding clap_on_literals
  show_taken =
      ap₂ (λ (t : Bool) (w : Walk). (t && true) && ends show_leaf w.held && true)
      (plain_turn x xs no_hyphen show_leaf nothing_held 1)
      (plain_walked x xs no_hyphen show_leaf.rules nothing_held 1)

  pub show_ended : takes app (p ∷ codes "show" ∷ (x ∷ xs) ∷ end ∷ []) ≡ true
  unfolding clap_on_literals
  show_ended =
      ap₂
      (λ (t : Bool) (w : Walk). (t && (turn_passes show_leaf [] w end && true))
      && ends show_leaf (walked show_leaf.rules [] w end).held && true)
      (plain_turn x xs no_hyphen show_leaf nothing_held 1)
      (plain_walked x xs no_hyphen show_leaf.rules nothing_held 1)

check_after : (p file : Text) → takes app (p ∷ codes "check" ∷ end ∷ file ∷ []) ≡ true
unfolding clap_on_literals
check_after p file = refl

show_after : (p file : Text) → takes app (p ∷ codes "show" ∷ end ∷ file ∷ []) ≡ true
unfolding clap_on_literals
show_after p file = refl

abbrev canon_leaf : Shape
canon_leaf = leaf_of (two_files (codes "canon") (codes "IN") (codes "OUT"))

abbrev same_leaf : Shape
same_leaf = leaf_of (two_files (codes "same") (codes "A") (codes "B"))

canon_after : (p a b : Text) → takes app (p ∷ codes "canon" ∷ end ∷ a ∷ b ∷ []) ≡ true
unfolding clap_on_literals
canon_after p a b = refl

same_after : (p a b : Text) → takes app (p ∷ codes "same" ∷ end ∷ a ∷ b ∷ []) ≡ true
unfolding clap_on_literals
same_after p a b = refl

module _ (x : ℕ) (xs : Text) (no_hyphen : (x == 45) ≡ false) (p : Text) where
  canon_between : (b : Text) → takes app (p ∷ codes "canon" ∷ (x ∷ xs) ∷ end ∷ b ∷ []) ≡ true
  unfolding clap_on_literals
  canon_between b =
      ap₂
      (λ (t : Bool) (w : Walk). (t && (turn_passes canon_leaf [] w end
      && (turn_passes canon_leaf [] (walked canon_leaf.rules [] w end) b && true)))
      && ends canon_leaf
      (walked canon_leaf.rules [] (walked canon_leaf.rules [] w end) b).held && true)
      (plain_turn x xs no_hyphen canon_leaf nothing_held 1)
      (plain_walked x xs no_hyphen canon_leaf.rules nothing_held 1)

  same_between : (b : Text) → takes app (p ∷ codes "same" ∷ (x ∷ xs) ∷ end ∷ b ∷ []) ≡ true
  unfolding clap_on_literals
  same_between b =
      ap₂
      (λ (t : Bool) (w : Walk). (t && (turn_passes same_leaf [] w end
      && (turn_passes same_leaf [] (walked same_leaf.rules [] w end) b && true)))
      && ends same_leaf
      (walked same_leaf.rules [] (walked same_leaf.rules [] w end) b).held && true)
      (plain_turn x xs no_hyphen same_leaf nothing_held 1)
      (plain_walked x xs no_hyphen same_leaf.rules nothing_held 1)

module _ (x : ℕ) (xs : Text) (no_hyphen : (x == 45) ≡ false) (y : ℕ) (ys : Text)
    (no_hyphen' : (y == 45) ≡ false) (p : Text) where
  -- the walk after the first file
  abbrev canon_first : Walk
  canon_first =
      to_positional canon_leaf.rules (arg_by_index canon_leaf.rules 1) (x ∷ xs)
      (at nothing_held idle 1) nothing_held

  pub canon_taken : takes app (p ∷ codes "canon" ∷ (x ∷ xs) ∷ (y ∷ ys) ∷ []) ≡ true
  unfolding clap_on_literals
  canon_taken =
      ap₂
      (λ (t : Bool) (w : Walk). (t && (turn_passes canon_leaf [] w (y ∷ ys) && true))
      && ends canon_leaf (walked canon_leaf.rules [] w (y ∷ ys)).held && true)
      (plain_turn x xs no_hyphen canon_leaf nothing_held 1)
      (plain_walked x xs no_hyphen canon_leaf.rules nothing_held 1)
      ∙ ap₂ (λ (t : Bool) (w : Walk). (t && true) && ends canon_leaf w.held && true)
      (plain_turn y ys no_hyphen' canon_leaf canon_first.held 2)
      (plain_walked y ys no_hyphen' canon_leaf.rules canon_first.held 2)

  canon_ended : takes app (p ∷ codes "canon" ∷ (x ∷ xs) ∷ (y ∷ ys) ∷ end ∷ []) ≡ true
  unfolding clap_on_literals
  canon_ended =
      ap₂
      (λ (t : Bool) (w : Walk). (t && (turn_passes canon_leaf [] w (y ∷ ys)
      && (turn_passes canon_leaf [] (walked canon_leaf.rules [] w (y ∷ ys)) end && true)))
      && ends canon_leaf
      (walked canon_leaf.rules [] (walked canon_leaf.rules [] w (y ∷ ys)) end).held && true)
      (plain_turn x xs no_hyphen canon_leaf nothing_held 1)
      (plain_walked x xs no_hyphen canon_leaf.rules nothing_held 1)
      ∙ ap₂
      (λ (t : Bool) (w : Walk). (t && (turn_passes canon_leaf [] w end && true))
      && ends canon_leaf (walked canon_leaf.rules [] w end).held && true)
      (plain_turn y ys no_hyphen' canon_leaf canon_first.held 2)
      (plain_walked y ys no_hyphen' canon_leaf.rules canon_first.held 2)

  abbrev same_first : Walk
  same_first =
      to_positional same_leaf.rules (arg_by_index same_leaf.rules 1) (x ∷ xs)
      (at nothing_held idle 1) nothing_held

  pub same_taken : takes app (p ∷ codes "same" ∷ (x ∷ xs) ∷ (y ∷ ys) ∷ []) ≡ true
  unfolding clap_on_literals
  same_taken =
      ap₂
      (λ (t : Bool) (w : Walk). (t && (turn_passes same_leaf [] w (y ∷ ys) && true))
      && ends same_leaf (walked same_leaf.rules [] w (y ∷ ys)).held && true)
      (plain_turn x xs no_hyphen same_leaf nothing_held 1)
      (plain_walked x xs no_hyphen same_leaf.rules nothing_held 1)
      ∙ ap₂ (λ (t : Bool) (w : Walk). (t && true) && ends same_leaf w.held && true)
      (plain_turn y ys no_hyphen' same_leaf same_first.held 2)
      (plain_walked y ys no_hyphen' same_leaf.rules same_first.held 2)

  same_ended : takes app (p ∷ codes "same" ∷ (x ∷ xs) ∷ (y ∷ ys) ∷ end ∷ []) ≡ true
  unfolding clap_on_literals
  same_ended =
      ap₂
      (λ (t : Bool) (w : Walk). (t && (turn_passes same_leaf [] w (y ∷ ys)
      && (turn_passes same_leaf [] (walked same_leaf.rules [] w (y ∷ ys)) end && true)))
      && ends same_leaf
      (walked same_leaf.rules [] (walked same_leaf.rules [] w (y ∷ ys)) end).held && true)
      (plain_turn x xs no_hyphen same_leaf nothing_held 1)
      (plain_walked x xs no_hyphen same_leaf.rules nothing_held 1)
      ∙ ap₂
      (λ (t : Bool) (w : Walk). (t && (turn_passes same_leaf [] w end && true))
      && ends same_leaf (walked same_leaf.rules [] w end).held && true)
      (plain_turn y ys no_hyphen' same_leaf same_first.held 2)
      (plain_walked y ys no_hyphen' same_leaf.rules same_first.held 2)

-- ---- a packing

abbrev top_of : App
top_of = built app

-- a walk that has met the command: all further words are the command's
abbrev met : List Text → Walk
met words =
    record {
      held = nothing_held;
      waiting = idle;
      position = 1;
      is_trailing = false;
      stopped = Some (codes "pack", words);
    }

met_all : (got words : List Text)
    → fold (walked top_of.top.rules (names_of top_of)) (met got) words ≡ met (got ++ words)
unfolding walked
met_all got [] = ap met (sym (append-nil got))
met_all got (w ∷ words) = met_all (got ++ w ∷ []) words ∙ ap met (append_assoc got (w ∷ []) words)

met_passes : (got words : List Text)
    → walk_passes top_of.top (names_of top_of) (met got) words ≡ true
unfolding walk_passes walked
met_passes got [] = refl
met_passes got (w ∷ words) = met_passes (got ++ w ∷ []) words

abbrev pack_leaf : Shape
pack_leaf = leaf_of packing_form

-- the output is used, and these streams are read
abbrev read : (output : Text) → List Text → Walk
read output streams = record {
  held = record {
    rows =
        record {
          id = codes "OUT";
          values = output ∷ [];
          count = None;
          source = Some CommandLine;
          reading = AsWritten;
        } ∷ [];
    pending = Some (codes "STREAMS", streams);
    skip = 0;
  };
  waiting = positional;
  position = 2;
  is_trailing = false;
  stopped = None;
}

reads : (output : Text) → Reads pack_leaf (read output)
unfolding clap_on_literals
reads output = record {
  name_read = λ got w is.
      ap (λ (v : Text). walked pack_leaf.rules [] (read output got) v) is.split
      ∙ further_walked is.first is.rest is.no_hyphen pack_leaf.rules (read output got).held 2
      ∙ ap (λ (v : Text). read output (got ++ v ∷ [])) (sym is.split);
  name_passes = λ got w is.
      ap (λ (v : Text). turn_passes pack_leaf [] (read output got) v) is.split
      ∙ further_turn is.first is.rest is.no_hyphen pack_leaf (read output got).held 2;
  end_read = λ got. refl;
  end_passes = λ got. refl;
  word_read = λ got w. refl;
  word_passes = λ got w. refl;
}

-- the walk has read these streams, and passes if there are not too many
pack_ends : (output s : Text) (streams : List Text) → length (s ∷ streams) ≤ usize_max
    → ends pack_leaf (read output (s ∷ streams)).held ≡ true
unfolding clap_on_literals
pack_ends output s streams few =
    ap₂
    (λ (a b : Bool). (a && (b && list_all (λ (w : Text). true) streams))
    && (list_all default_passes pack_leaf.rules
    && is_valid pack_leaf (finished pack_leaf.rules (read output (s ∷ streams)).held) false))
    (le-leb 1 (length (s ∷ streams)) (omega arith))
    (le-leb (length (s ∷ streams)) usize_max few)
    ∙ ap
    (λ (c : Bool).
    c
    && (list_all default_passes pack_leaf.rules
    && is_valid pack_leaf (finished pack_leaf.rules (read output (s ∷ streams)).held) false))
    (all_pass streams)

abbrev pack_passes : List Text → Type 0
pack_passes words = level_passes pack_leaf [] nothing_held words false ≡ true

pack_after : (output s : Text) (streams : List Text) → length (s ∷ streams) ≤ usize_max
    → pack_passes (end ∷ output ∷ s ∷ streams)
unfolding clap_on_literals
pack_after output s streams few =
    ap₂ (λ (t : Bool) (w : Walk). t && ends pack_leaf w.held)
    (trail_passes pack_leaf (read output) (reads output) (s ∷ []) streams)
    (trail_all pack_leaf (read output) (reads output) (s ∷ []) streams)
    ∙ pack_ends output s streams few

module _ (x : ℕ) (xs : Text) (no_hyphen : (x == 45) ≡ false) where
  pack_between : (s : Text) (streams : List Text) → length (s ∷ streams) ≤ usize_max
      → pack_passes ((x ∷ xs) ∷ end ∷ s ∷ streams)
  unfolding clap_on_literals
  pack_between s streams few =
      ap₂
      (λ (t : Bool) (w : Walk). (t && (turn_passes pack_leaf [] w end
      && (turn_passes pack_leaf [] (walked pack_leaf.rules [] w end) s
      && walk_passes pack_leaf []
      (walked pack_leaf.rules [] (walked pack_leaf.rules [] w end) s) streams)))
      && ends pack_leaf (fold (walked pack_leaf.rules [])
      (walked pack_leaf.rules [] (walked pack_leaf.rules [] w end) s) streams).held)
      (plain_turn x xs no_hyphen pack_leaf nothing_held 1)
      (plain_walked x xs no_hyphen pack_leaf.rules nothing_held 1)
      ∙ ap₂ (λ (t : Bool) (w : Walk). t && ends pack_leaf w.held)
      (trail_passes pack_leaf (read (x ∷ xs)) (reads (x ∷ xs)) (s ∷ []) streams)
      (trail_all pack_leaf (read (x ∷ xs)) (reads (x ∷ xs)) (s ∷ []) streams)
      ∙ pack_ends (x ∷ xs) s streams few

module _ (x : ℕ) (xs : Text) (no_hyphen : (x == 45) ≡ false) (y : ℕ) (ys : Text)
    (no_hyphen' : (y == 45) ≡ false) where
  abbrev pack_first : Walk
  pack_first =
      to_positional pack_leaf.rules (arg_by_index pack_leaf.rules 1) (x ∷ xs)
      (at nothing_held idle 1) nothing_held

  pack_plain : (words : List Text) → length ((y ∷ ys) ∷ names_in words) ≤ usize_max
      → NameFiles words → pack_passes ((x ∷ xs) ∷ (y ∷ ys) ∷ words)
  unfolding clap_on_literals
  pack_plain words few name =
      ap₂
      (λ (t : Bool) (w : Walk). (t
      && (turn_passes pack_leaf [] w (y ∷ ys)
      && walk_passes pack_leaf [] (walked pack_leaf.rules [] w (y ∷ ys)) words))
      && ends pack_leaf (fold (walked pack_leaf.rules [])
      (walked pack_leaf.rules [] w (y ∷ ys)) words).held)
      (plain_turn x xs no_hyphen pack_leaf nothing_held 1)
      (plain_walked x xs no_hyphen pack_leaf.rules nothing_held 1)
      ∙ ap₂
      (λ (t : Bool) (w : Walk). (t && walk_passes pack_leaf [] w words)
      && ends pack_leaf (fold (walked pack_leaf.rules []) w words).held)
      (plain_turn y ys no_hyphen' pack_leaf pack_first.held 2)
      (plain_walked y ys no_hyphen' pack_leaf.rules pack_first.held 2)
      ∙ ap₂ (λ (t : Bool) (h : Held). t && ends pack_leaf h)
      (read_passes pack_leaf (read (x ∷ xs)) (reads (x ∷ xs)) ((y ∷ ys) ∷ []) words name)
      (read_all pack_leaf (read (x ∷ xs)) (reads (x ∷ xs)) ((y ∷ ys) ∷ []) words name).held
      ∙ pack_ends (x ∷ xs) (y ∷ ys) (names_in words) few

-- clap takes a line if it takes what follows `pack`
pack_taken : (p : Text) (words : List Text) → pack_passes words
    → takes app (p ∷ codes "pack" ∷ words) ≡ true
unfolding clap_on_literals
pack_taken p words passes =
    ap₂
    (λ (t : Bool) (w : Walk).
    entered_passes top_of w.stopped
    && (t
    && (settle_passes top_of.top.rules top_of.top.args_override_self w.held
    && (list_all default_passes top_of.top.rules
    && is_valid top_of.top (finished top_of.top.rules w.held)
    (is_some (entered top_of w.stopped))))))
    (met_passes [] words) (met_all [] words)
    ∙ ap (λ (t : Bool). t && true) passes

-- ---- a line of the forms

-- what holds of a line whose file words are given by their first bytes
abbrev Takes : (p command : Text) → List Text → Type 0
Takes p command words = takes app (p ∷ command ∷ words) ≡ true

check_words : (p file : Text) (words : List Text) → NameFiles words → names_in words ≡ file ∷ []
    → Takes p (codes "check") words
check_words p file =
    one_name (Takes p (codes "check")) file (check_after p file)
    (split_one (λ v. Takes p (codes "check") (v ∷ end ∷ [])) (λ x xs e. check_ended x xs e p) file)
    (split_one (λ v. Takes p (codes "check") (v ∷ [])) (λ x xs e. check_taken x xs e p) file)

show_words : (p file : Text) (words : List Text) → NameFiles words → names_in words ≡ file ∷ []
    → Takes p (codes "show") words
show_words p file =
    one_name (Takes p (codes "show")) file (show_after p file)
    (split_one (λ v. Takes p (codes "show") (v ∷ end ∷ [])) (λ x xs e. show_ended x xs e p) file)
    (split_one (λ v. Takes p (codes "show") (v ∷ [])) (λ x xs e. show_taken x xs e p) file)

canon_words : (p a b : Text) (words : List Text) → NameFiles words → names_in words ≡ a ∷ b ∷ []
    → Takes p (codes "canon") words
canon_words p a b =
    two_names (Takes p (codes "canon")) a b (canon_after p a b)
    (split_one (λ v. Takes p (codes "canon") (v ∷ end ∷ b ∷ []))
    (λ x xs e. canon_between x xs e p b) a)
    (split_two (λ v w. Takes p (codes "canon") (v ∷ w ∷ end ∷ []))
    (λ x xs e y ys e'. canon_ended x xs e y ys e' p) a b)
    (split_two (λ v w. Takes p (codes "canon") (v ∷ w ∷ []))
    (λ x xs e y ys e'. canon_taken x xs e y ys e' p) a b)

same_words : (p a b : Text) (words : List Text) → NameFiles words → names_in words ≡ a ∷ b ∷ []
    → Takes p (codes "same") words
same_words p a b =
    two_names (Takes p (codes "same")) a b (same_after p a b)
    (split_one (λ v. Takes p (codes "same") (v ∷ end ∷ b ∷ []))
    (λ x xs e. same_between x xs e p b) a)
    (split_two (λ v w. Takes p (codes "same") (v ∷ w ∷ end ∷ []))
    (λ x xs e y ys e'. same_ended x xs e y ys e' p) a b)
    (split_two (λ v w. Takes p (codes "same") (v ∷ w ∷ []))
    (λ x xs e y ys e'. same_taken x xs e y ys e' p) a b)

pack_words : (output s : Text) (more words : List Text) → length (s ∷ more) ≤ usize_max
    → NameFiles words → names_in words ≡ output ∷ s ∷ more → pack_passes words
pack_words output s more words few =
    name_then pack_passes output (s ∷ more) (pack_after output s more few)
    (λ rest is. name_then (λ l. pack_passes (output ∷ l)) s more
    (split_one (λ w. pack_passes (w ∷ end ∷ s ∷ more))
    (λ x xs h. pack_between x xs h s more few) output is)
    (λ streams is' name e. split_two (λ w w'. pack_passes (w ∷ w' ∷ streams))
    (λ x xs h y ys h'. pack_plain x xs h y ys h' streams (rw e few) name) output s is is') rest)
    words

-- the words of a line of a form
line_taken : (words said : List Text) → (line : IsLine words said)
    → Takes line.program line.command line.rest → takes app words ≡ true
line_taken words said line taken = ap (λ (w : List Text). takes app w) line.all ∙ taken

-- what is said is the command, and the names among the rest
of_names : (words : List Text) (command : Text) (names : List Text)
    → (line : IsLine words (command ∷ names))
    → (line.command ≡ command) × (names_in line.rest ≡ names)
of_names words command names line =
    let e : command ∷ names ≡ line.command ∷ names_in line.rest = line.named in
    (sym (cc), sym (cc))

-- clap takes each line of the forms; the bound is that of any list in memory
pub taken : (words : List Text) (form : Form) → length words ≤ usize_max
    → (line : IsLine words (words_of form)) → NameFiles line.rest → takes app words ≡ true
taken words (Check file) few line name =
    let is = of_names words (codes "check") (file ∷ []) line in
    line_taken words (words_of (Check file)) line
    (subst (λ c. Takes line.program c line.rest) (sym is.0)
    (check_words line.program file line.rest name is.1))
taken words (Show file) few line name =
    let is = of_names words (codes "show") (file ∷ []) line in
    line_taken words (words_of (Show file)) line
    (subst (λ c. Takes line.program c line.rest) (sym is.0)
    (show_words line.program file line.rest name is.1))
taken words (Canon a b) few line name =
    let is = of_names words (codes "canon") (a ∷ b ∷ []) line in
    line_taken words (words_of (Canon a b)) line
    (subst (λ c. Takes line.program c line.rest) (sym is.0)
    (canon_words line.program a b line.rest name is.1))
taken words (Same a b) few line name =
    let is = of_names words (codes "same") (a ∷ b ∷ []) line in
    line_taken words (words_of (Same a b)) line
    (subst (λ c. Takes line.program c line.rest) (sym is.0)
    (same_words line.program a b line.rest name is.1))
taken words (Pack a b more) few line name =
    let is = of_names words (codes "pack") (a ∷ b ∷ more) line in
    let n : length words ≡ length (line.program ∷ line.command ∷ line.rest) = ap length line.all in
    let m : length (names_in line.rest) ≡ length (a ∷ b ∷ more) = ap length is.1 in
    let least = names_in-length line.rest in
    let fits : length (b ∷ more) ≤ usize_max = omega (arith, n, m, least, few) in
    line_taken words (words_of (Pack a b more)) line
    (subst (λ c. Takes line.program c line.rest) (sym is.0)
    (pack_taken line.program line.rest (pack_words a b more line.rest fits name is.1)))

-- so a usage is told of no such line
pub refuses : (words : List Text) (fault : LineFault) → length words ≤ usize_max → IsUsage fault
    → (takes app words ≡ true → fault ≡ Memory) → AreRefused words fault
refuses words (Usage text) few is memory =
    λ form line name. let out : Usage text ≡ Memory =
    memory (taken words form few line name) in absurd (cc)
refuses words Odd few is memory = absurd is
refuses words SameName few is memory = absurd is
refuses words NotText few is memory = absurd is
refuses words Memory few is memory = tt
