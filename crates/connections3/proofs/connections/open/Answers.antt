use Rattle.std.proofs.Common.{◌≡◌, ◌∙◌, [], ◌∷◌, ◌++◌, ap, arith, length, rules, subst, sym}
use Rattle.std.specs.BTreeMap.{get}
use Rattle.connections3.specs.contracts.ends.EndPairOrd.TheImpl.{ghosts}
use Rattle.connections3.specs.Groups.{with_newer}
use Rattle.connections3.specs.Connections.{FindsRecent, all_ends}
use Rattle.connections3.proofs.GroupsLemmas.{all_ends_last, ends_count, table_opened}
use Rattle.connections3.proofs.ResultLemmas.{if_ok}
use Rattle.connections3.proofs.connections.open.Goals as goal

pub returns-clause-table : goal.returns-clause-table
returns-clause-table c =
    let cs = c.args.connections.now.items in
    let one = c.in_ok-connection.connection in
    let ends = c.args.packet.now.ends in
    let two = c.with_newer-two in
    let items : c.push.new.self.items ≡ cs ++ one ∷ [] = search rules in
    let n = ends_count cs in
    let count : c.len-newest.result ≡ length (all_ends cs) =
    c.len-newest.ensures ∙ omega (arith, c.args.connections.now.ok.0) in
    let all = ap all_ends items ∙ (all_ends_last cs one
    ∙ ap (λ e. all_ends cs ++ e ∷ []) c.in_ok-connection.ensures.ok.ends) in
    let updates = if_ok c.insert.result c.insert.ensures.updates c.if-is_err-2.ensures.value in
    let found = get ghosts.cmp c.args.recent.now ends in
    let is : two.result ≡ with_newer found (length (all_ends cs)) =
    two.ensures
    ∙ (ap (λ o. with_newer o c.len-newest.result) (c.copied.ensures ∙ c.get.ensures.value)
    ∙ ap (λ m. with_newer found m) count) in
    subst (FindsRecent c.insert.new.self) (sym all)
    (table_opened c.args.recent.now c.insert.new.self (all_ends cs) ends two.result
    c.requires.table is updates.0)
