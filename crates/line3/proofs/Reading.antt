-- A walk that reads names, as many as there are, after those that a command asks for first.
use Rattle.line3.proofs.Common.{ap, ap₂, subst, sym, refl, inl, inr, ◌≡◌, ◌∙◌, ◌&&◌, ◌++◌, Bool, true, List, [], ◌∷◌, fold, append-nil, append_assoc, Text, NameFiles, names_in, IsFileWord}
use Rattle.std.specs.List.{list_all}
use Rattle.clap.specs.Walk.{Walk, walked}
use Rattle.clap.specs.Simple.{Shape}
use Rattle.clap.specs.Takes.{turn_passes, walk_passes}
use Rattle.line3.proofs.Words.{end, end_is, names_ended, names_plain}

-- reading: the walk that has read these names, with no `--` before
module _ (s : Shape) (reading : List Text → Walk) where
  -- the same, after a `--`
  abbrev pub trail : List Text → Walk
  trail got = record (reading got) { is_trailing = true }

  -- what one word more does
  pub record Reads : Type 0 where
    pub name_read : (got : List Text) (w : Text) → IsFileWord w
        → walked s.rules [] (reading got) w ≡ reading (got ++ w ∷ [])
    pub name_passes : (got : List Text) (w : Text) → IsFileWord w
        → turn_passes s [] (reading got) w ≡ true
    pub end_read : (got : List Text) → walked s.rules [] (reading got) end ≡ trail got
    pub end_passes : (got : List Text) → turn_passes s [] (reading got) end ≡ true
    pub word_read : (got : List Text) (w : Text)
        → walked s.rules [] (trail got) w ≡ trail (got ++ w ∷ [])
    pub word_passes : (got : List Text) (w : Text) → turn_passes s [] (trail got) w ≡ true

  module _ (reads : Reads) where
    -- after a `--` each word is read
    pub trail_all : (got words : List Text)
        → fold (walked s.rules []) (trail got) words ≡ trail (got ++ words)
    trail_all got [] = ap trail (sym (append-nil got))
    trail_all got (w ∷ words) =
        ap (λ (v : Walk). fold (walked s.rules []) v words) (reads.word_read got w)
        ∙ trail_all (got ++ w ∷ []) words
        ∙ ap trail (append_assoc got (w ∷ []) words)

    pub trail_passes : (got words : List Text) → walk_passes s [] (trail got) words ≡ true
    unfolding walk_passes
    trail_passes got [] = refl
    trail_passes got (w ∷ words) =
        ap₂ (λ (t : Bool) (v : Walk). t && walk_passes s [] v words) (reads.word_passes got w)
        (reads.word_read got w)
        ∙ trail_passes (got ++ w ∷ []) words

    -- the walk has read these names, before a `--` or after it
    pub record HasRead (names : List Text) (w : Walk) : Type 0 where
      pub held : w.held ≡ (reading names).held
      pub stopped : w.stopped ≡ (reading names).stopped

    has_read : (names : List Text) (w v : Walk) → w ≡ v → HasRead names v → HasRead names w
    has_read names w v e h = record {
      held = ap (λ (v : Walk). v.held) e ∙ h.held;
      stopped = ap (λ (v : Walk). v.stopped) e ∙ h.stopped;
    }

    pub read_all : (got words : List Text) → NameFiles words
        → HasRead (got ++ names_in words) (fold (walked s.rules []) (reading got) words)
    read_all got [] name =
        has_read _ _ (reading (got ++ [])) (ap reading (sym (append-nil got)))
        (record { held = refl; stopped = refl })
    read_all got (w ∷ words) (inl ends) =
        has_read _ _ (trail (got ++ names_in (w ∷ words))) (
        ap (λ (v : Text). fold (walked s.rules []) (reading got) (v ∷ words)) (end_is w ends)
        ∙ ap (λ (v : Walk). fold (walked s.rules []) v words) (reads.end_read got)
        ∙ trail_all got words
        ∙ ap (λ (l : List Text). trail (got ++ l)) (sym (names_ended w words ends)))
        (record { held = refl; stopped = refl })
    read_all got (w ∷ words) (inr (is, name)) =
        subst
        (λ l. HasRead l (fold (walked s.rules []) (reading got) (w ∷ words)))
        (append_assoc got (w ∷ []) (names_in words)
        ∙ ap (λ (l : List Text). got ++ l) (sym (names_plain w words is)))
        (has_read _ _ (fold (walked s.rules []) (reading (got ++ w ∷ [])) words)
        (ap (λ (v : Walk). fold (walked s.rules []) v words) (reads.name_read got w is))
        (read_all (got ++ w ∷ []) words name))

    pub read_passes : (got words : List Text) → NameFiles words
        → walk_passes s [] (reading got) words ≡ true
    unfolding walk_passes
    read_passes got [] name = refl
    read_passes got (w ∷ words) (inl ends) =
        ap (λ (v : Text). walk_passes s [] (reading got) (v ∷ words)) (end_is w ends)
        ∙ ap₂ (λ (t : Bool) (v : Walk). t && walk_passes s [] v words) (reads.end_passes got)
        (reads.end_read got)
        ∙ trail_passes got words
    read_passes got (w ∷ words) (inr (is, name)) =
        ap₂ (λ (t : Bool) (v : Walk). t && walk_passes s [] v words) (reads.name_passes got w is)
        (reads.name_read got w is)
        ∙ read_passes (got ++ w ∷ []) words name

pub all_pass : (words : List Text) → list_all (λ (w : Text). true) words ≡ true
all_pass [] = refl
all_pass (w ∷ words) = all_pass words
