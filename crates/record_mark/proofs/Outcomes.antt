-- What bytes are, they are alone; and what is unfinished is a front of what ends.
use Rattle.record_mark.proofs.Common.{◌≡◌, inl, inr, ℕ, zero, suc, ◌+◌, List, [], ◌∷◌, ◌++◌, length, refl, sym, ap, ◌∙◌, Bool, true, false, cond, nat_lt, Ends, Run, Runs, Stops, landed, after, number, max_body, is_last, length_of, IsRecord, IsTooLong, IsUnfinished, HasBody, Joining, Between, Header, Bytes, Joined, Whole, TooLong, expecting, headed, join_next, EndsRecord, joined_body}
use Rattle.record_mark.proofs.Machines.{after-append, ran_before}
use Rattle.record_mark.proofs.Joins.{record_stops, too_long_stops, joining_runs, header_runs}
use Rattle.record_mark.proofs.Takings.{standing, unfinished, led_by, taken_by}

-- one body
pub one_body : (bytes body other : List ℕ) → HasBody bytes body → HasBody bytes other → body ≡ other
one_body bytes body other (inl h) (inl k) =
    let e = sym (record_stops bytes body h) ∙ record_stops bytes other k in cc
one_body bytes body other (inl h) (inr k) =
    let is = standing bytes other k in
    let e = sym (record_stops bytes body h) ∙ joining_runs bytes is.joining is.joined in
    absurd (cc)
one_body bytes body other (inr h) (inl k) =
    let is = standing bytes body h in
    let e = sym (record_stops bytes other k) ∙ joining_runs bytes is.joining is.joined in
    absurd (cc)
one_body bytes body other (inr h) (inr k) =
    let is = standing bytes body h in
    let at = standing bytes other k in
    let e =
    sym (joining_runs bytes is.joining is.joined) ∙ joining_runs bytes at.joining at.joined in
    let same : is.joining ≡ at.joining = cc in
    sym is.carries ∙ ap joined_body same ∙ at.carries

pub one_place : (bytes : List ℕ) (at other : ℕ) → IsTooLong bytes at → IsTooLong bytes other
    → at ≡ other
one_place bytes at other h k =
    let e = sym (too_long_stops bytes at h) ∙ too_long_stops bytes other k in cc

pub whole_alone : (bytes body part : List ℕ) → IsRecord bytes body → IsUnfinished bytes part → ⊥
whole_alone bytes body part h k =
    let is = standing bytes part k in
    let e = sym (record_stops bytes body h) ∙ joining_runs bytes is.joining is.joined in cc

pub too_long_alone : (bytes body : List ℕ) (at : ℕ) → IsTooLong bytes at → HasBody bytes body → ⊥
too_long_alone bytes body at h (inl k) =
    let e = sym (too_long_stops bytes at h) ∙ record_stops bytes body k in cc
too_long_alone bytes body at h (inr k) =
    let is = standing bytes body k in
    let e = sym (too_long_stops bytes at h) ∙ joining_runs bytes is.joining is.joined in cc

-- bytes with which a machine comes to its end
pub record CanEnd (run : Run Joining Joined) : Type 0 where
  pub more : List ℕ
  pub end : Joined
  pub stops : after join_next run more ≡ Stops end

can_end_after : (run next : Run Joining Joined) (front : List ℕ) → after join_next run front ≡ next
    → CanEnd next → CanEnd run
can_end_after run next front e h =
    record {
      more = front ++ h.more;
      end = h.end;
      stops =
          after-append join_next run front h.more ∙ ap (λ r. after join_next r h.more) e
          ∙ h.stops;
    }

-- the header of an empty last fragment
closing : List ℕ
closing = 128 ∷ 0 ∷ 0 ∷ 0 ∷ []

closes : (body : List ℕ)
    → headed body (number closing)
    ≡ cond (nat_lt max_body (length body + 0)) (Ends (TooLong (length body)))
    (Ends (Whole body))
unfolding closing number is_last length_of
closes body = refl

either_ends : (b : Bool) (x y : Joined) → CanEnd (landed (cond b (Ends x) (Ends y)))
either_ends true x y = record { more = []; end = x; stops = refl }
either_ends false x y = record { more = []; end = y; stops = refl }

between_fragments : (body : List ℕ) → CanEnd (Runs (Header body []))
unfolding closing
between_fragments body =
    can_end_after (Runs (Header body []))
    (landed (cond (nat_lt max_body (length body + 0)) (Ends (TooLong (length body)))
    (Ends (Whole body)))) closing
    (header_runs body closing refl ∙ ap landed (closes body))
    (either_ends (nat_lt max_body (length body + 0)) (TooLong (length body)) (Whole body))

in_fragment : (body : List ℕ) (last : Bool) (n : ℕ) → CanEnd (landed (expecting body last n))
in_fragment body true zero = record { more = []; end = Whole body; stops = refl }
in_fragment body false zero = between_fragments body
in_fragment body last (suc left) =
    can_end_after (Runs (Bytes body last left)) (landed (expecting (body ++ 0 ∷ []) last left))
    (0 ∷ []) refl (in_fragment (body ++ 0 ∷ []) last left)

at_header : (over : Bool) (body : List ℕ) (last : Bool) (n : ℕ)
    → CanEnd (landed (cond over (Ends (TooLong (length body))) (expecting body last n)))
at_header true body last n = record { more = []; end = TooLong (length body); stops = refl }
at_header false body last n = in_fragment body last n

after_header : (body : List ℕ) (header : ℕ) → CanEnd (landed (headed body header))
after_header body header =
    at_header (nat_lt max_body (length body + length_of header)) body (is_last header)
    (length_of header)

at_three : (body more : List ℕ) (a b c : ℕ) → CanEnd (Runs (Header body (a ∷ b ∷ c ∷ more)))
at_three body more a b c =
    can_end_after (Runs (Header body (a ∷ b ∷ c ∷ more)))
    (landed (headed body (number (a ∷ b ∷ c ∷ 0 ∷ [])))) (0 ∷ []) refl
    (after_header body (number (a ∷ b ∷ c ∷ 0 ∷ [])))

at_two : (body : List ℕ) (a b : ℕ) → CanEnd (Runs (Header body (a ∷ b ∷ [])))
at_two body a b =
    can_end_after (Runs (Header body (a ∷ b ∷ []))) (Runs (Header body (a ∷ b ∷ 0 ∷ []))) (0 ∷ [])
    refl (at_three body [] a b 0)

-- wherever it runs, it can come to an end
can_end : (s : Joining) → CanEnd (Runs s)
can_end Between =
    can_end_after (Runs Between) (Runs (Header [] (0 ∷ 0 ∷ []))) (0 ∷ 0 ∷ []) refl (at_two [] 0 0)
can_end (Header body []) = between_fragments body
can_end (Header body (a ∷ [])) =
    can_end_after (Runs (Header body (a ∷ []))) (Runs (Header body (a ∷ 0 ∷ []))) (0 ∷ []) refl
    (at_two body a 0)
can_end (Header body (a ∷ b ∷ [])) = at_two body a b
can_end (Header body (a ∷ b ∷ c ∷ more)) = at_three body more a b c
can_end (Bytes body last left) = in_fragment body last (suc left)

pub unfinished_goes_on : (bytes body : List ℕ) → IsUnfinished bytes body
    → (more : List ℕ) × (end : Joined) × EndsRecord (bytes ++ more) end
unfinished_goes_on bytes body h =
    let is = standing bytes body h in
    let on = can_end is.joining in (
      on.more,
      on.end,
      taken_by (Stops on.end) (bytes ++ on.more) tt (after-append join_next (Runs Between) bytes
          on.more
          ∙ ap (λ r. after join_next r on.more) (joining_runs bytes is.joining is.joined)
          ∙ on.stops),
    )

pub shorter_is_unfinished : (front back : List ℕ) (byte : ℕ) (end : Joined)
    → EndsRecord (front ++ byte ∷ back) end → (body : List ℕ) × IsUnfinished front body
shorter_is_unfinished front back byte end h =
    let ran =
    ran_before join_next (Runs Between) front byte back end
    (led_by (Stops end) (front ++ byte ∷ back) h) in
    (joined_body ran.0, unfinished front ran.0 (taken_by (Runs ran.0) front tt ran.1))
