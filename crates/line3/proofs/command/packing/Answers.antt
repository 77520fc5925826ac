use Rattle.line3.proofs.Common.{arith, inr, codes, ◌∷◌, IsLine, ap, sym, subst, ◌≡◌, ◌≤◌, ◌∙◌, ◌%◌, ℕ, List, Contains, length, map, string_bytes, length-map}
use Rattle.line3.proofs.LineLemmas.{among, not_among}
use Rattle.line3.proofs.command.packing.Goals as goal

pub returns-then-contains-clause-refused : goal.returns-then-contains-clause-refused
returns-then-contains-clause-refused c = λ line said.
    let many : length (map string_bytes c.args.streams.now) ≡ length c.args.streams.now =
    length-map c.args.streams.now string_bytes in
    inr (record {
      output = _;
      streams = _;
      line = said;
      paired = ap (λ n. n % 2) many ∙ c.if-streams-ne0.false;
      own =
          among c.args.streams.now c.args.output.now
          (sym c.contains.ensures.value ∙ c.if-contains.true);
    })

pub returns-else-contains-clause-asked : goal.returns-else-contains-clause-asked
returns-else-contains-clause-asked c = λ line said.
    let many : length (map string_bytes c.args.streams.now) ≡ length c.args.streams.now =
    length-map c.args.streams.now string_bytes in
    let low : 2 ≤ length c.args.streams.now = c.requires in
    let none =
    not_among c.args.streams.now c.args.output.now
    (sym c.contains.ensures.value ∙ c.if-contains.false) in (
      subst (λ (t : List ℕ). IsLine line (codes "pack" ∷ t ∷ map string_bytes c.args.streams.now))
          (sym c.as_str.ensures.value) said,
      record {
        paired = ap (λ n. n % 2) many ∙ c.if-streams-ne0.false;
        some = omega (arith, many, low);
        distinct =
            subst (λ (t : List ℕ). Contains (map string_bytes c.args.streams.now) t → ⊥)
            (sym c.as_str.ensures.value) none;
      },
    )
