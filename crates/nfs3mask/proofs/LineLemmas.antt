-- Which form the words of a command line have.
use Rattle.nfs3mask.proofs.Common.{sym, ap, arith, refl, ◌≡◌, ◌<◌, ◌∙◌, ℕ, List, [], ◌∷◌, length, IsMaskLine, IsUsage, names_in, without_end, AreMaskWordsRefused, Change, mask_words}
use Rattle.line3.specs.declared.asked.LineFault.{LineFault}
use Rattle.line3.specs.declared.asked.LineFault.TheVariants.{Usage, Memory}

abbrev pub tail_of : List (List ℕ) → List (List ℕ)
tail_of [] = []
tail_of (x ∷ xs) = xs

-- one line has one list of words that are said
pub same_said : (line said other : List (List ℕ)) → IsMaskLine line said → IsMaskLine line other
    → said ≡ other
same_said line said other is too =
    let e : is.program ∷ is.rest ≡ too.program ∷ too.rest = sym is.all ∙ too.all in
    let rest : is.rest ≡ too.rest = ap tail_of e in
    is.named ∙ ap names_in rest ∙ sym too.named

-- the line of words without a `--`
pub line_of : (line words : List (List ℕ)) (program : List ℕ) (said : List (List ℕ))
    → words ≡ without_end 1 line → words ≡ program ∷ said → IsMaskLine line said
line_of [] words program said are is = absurd (cc)
line_of (x ∷ rest) words program said are is =
    let e : program ∷ said ≡ x ∷ names_in rest = sym is ∙ are in
    record { program = x; rest = rest; all = refl; named = ap tail_of e }

-- a usage is the answer to a line that has not the form
pub told : (line : List (List ℕ)) (fault : LineFault) → IsUsage fault
    → ((input output : List ℕ) (changes : List Change)
    → IsMaskLine line (mask_words input output changes) → ⊥) → AreMaskWordsRefused line fault
told line (Usage text) is none = λ input output changes line name. none input output changes line
told line Memory is none = tt
told line _ is none = absurd is

-- so few words have not the form
pub no_form_so_short : (line words : List (List ℕ)) → words ≡ without_end 1 line
    → length words < 3 → (input output : List ℕ) (changes : List Change)
    → IsMaskLine line (mask_words input output changes) → ⊥
no_form_so_short line words are short input output changes is =
    let n : length words ≡ length (is.program ∷ mask_words input output changes) =
    ap length (are ∙ ap (without_end 1) is.all ∙ ap (λ l. is.program ∷ l) (sym is.named)) in
    absurd (omega (arith, n, short))
