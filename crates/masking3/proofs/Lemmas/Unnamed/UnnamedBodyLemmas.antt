-- The body of a call without the name of its machine, from its items.
use Rattle.std.proofs.Math.Bool.{and-false}
use Rattle.std.proofs.Math.Seq.{drop-append-add, drop-append_seam}
use Rattle.masking3.proofs.Common.{◌≡◌, ℕ, ◌+◌, ◌-◌, ◌≤◌, ◌<◌, ◌^◌, true, List, ◌++◌, length, drop, refl, ap₂, length-append, arith, replicate, nat_le, le-leb, length-replicate, big_number-reads_back, residue, word_bytes, has_name, head_less_by, name_room, unnamed_body}

module _ (a b c d e f : ℕ) where
  abbrev front : ℕ → List ℕ → List ℕ
  front flavor more =
      word_bytes a
      ++ (word_bytes b
      ++ (word_bytes c
      ++ (word_bytes d ++ (word_bytes e ++ (word_bytes f ++ (word_bytes flavor ++ more))))))

  -- another flavor
  pub not_spliced : (more : List ℕ) → unnamed_body (front 0 more) ≡ front 0 more
  not_spliced more = rw (and-false (nat_le 40 (length (front 0 more)))) refl

  module _ (n stamp : ℕ) (name back : List ℕ) where
    abbrev padded : List ℕ
    padded = name ++ replicate (residue (length name)) 0

    abbrev named : List ℕ
    named =
        front 1
        (word_bytes n ++ (word_bytes stamp ++ ((word_bytes (length name) ++ padded) ++ back)))

    abbrev room : ℕ
    room = length name + residue (length name)

    abbrev up_to_name : List ℕ
    up_to_name = front 1 (word_bytes n ++ (word_bytes stamp ++ word_bytes (length name)))

    padding : length padded ≡ room
    padding = simp (length-append, length-replicate)

    whole : length named ≡ 40 + (room + length back)
    whole = simp (length-append, length-replicate) (omega arith)

    room_named : length name < 2 ^ 32 → name_room named ≡ room
    room_named short =
        rw (big_number-reads_back 4 (length name) (padded ++ back) (omega (arith, short))) refl

    has : length name < 2 ^ 32 → has_name named ≡ true
    has short =
        let enough : 40 ≤ length named = omega (arith, whole) in
        let fits : name_room named ≤ length named - 40 = omega (arith, whole, room_named short) in
        rw (le-leb 40 (length named) enough, le-leb (name_room named) (length named - 40) fits) refl

    rest : length name < 2 ^ 32 → drop (40 + name_room named) named ≡ back
    rest short =
        rw (room_named short, drop-append-add up_to_name (padded ++ back) room, ← padding)
        (drop-append_seam padded back)

    head : n < 2 ^ 32 → length name < 2 ^ 32
        → head_less_by (name_room named) named
        ≡ front 1 (word_bytes (n - room) ++ (word_bytes stamp ++ word_bytes 0))
    head low short =
        let more = word_bytes stamp ++ ((word_bytes (length name) ++ padded) ++ back) in
        rw (big_number-reads_back 4 n more (omega (arith, low)), room_named short) refl

    pub spliced : n < 2 ^ 32 → length name < 2 ^ 32
        → unnamed_body named
        ≡ front 1 (word_bytes (n - room) ++ (word_bytes stamp ++ (word_bytes 0 ++ back)))
    spliced low short =
        rw (has short) (ap₂ (λ (l m : List ℕ). l ++ m) (head low short) (rest short))
