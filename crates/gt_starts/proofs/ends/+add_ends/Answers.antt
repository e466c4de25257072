use Rattle.std.proofs.Common.{◌≡◌, ◌-◌, ◌<◌, ◌≤◌, Some, [], ◌∷◌, ◌++◌, length, vec_len, take, drop, set, arith, rules, sym, subst}
use Rattle.gt_starts.specs.Tries.{child, node_of}
use Rattle.gt_starts.specs.Ways.{EndsIn}
use Rattle.gt_starts.specs.Ends.{AddsEnds}
use Rattle.gt_starts.proofs.LeadLemmas.{lead-one}
use Rattle.gt_starts.proofs.EndLemmas.{last_of, split-names, more-ends}
use Rattle.gt_starts.proofs.ends.+add_ends.Goals as goal

pub add_ends-requires : goal.add_ends-requires
add_ends-requires t c =
    let path = c.requires.there.0 in
    let at = c.in_ok-next.ensures.grows.nodes path c.args.node (c.in_ok-end.ensures.grows.nodes path c.args.node c.requires.there.1) in
    (omega arith, ((path ++ c.name-item.result ∷ [], lead-one (child c.add_child-2.new.self) 0 path c.name-item.result c.args.node c.in_ok-next.next at c.in_ok-next.ensures.child), c.in_ok-next.ensures.apart))

pub index_mut-requires : goal.index_mut-requires
index_mut-requires t c =
    let within : c.in_ok-end.field-0 < vec_len c.extended.new.rows = search (rules, c.in_ok-row.ensures.room) in
    let longer : vec_len c.extended.new.rows ≤ vec_len c.add_ends.new.ends = c.in_ok-add_ends.ensures.longer in
    omega arith

pub returns-clause-added : goal.returns-clause-added
returns-clause-added t c = λ before at.
    let names = c.args.names.now in
    let name = c.name-item.result in
    let last = c.last-item.result in
    let end = c.in_ok-end.field-0 in
    let trie = c.add_ends.new.trie in
    let rest = take (length names - 1) (drop 1 names) in
    let splits : names ≡ name ∷ rest = split-names names name c.in-len1-up.len_at_least c.name-item.is in
    let first = c.in_ok-end.ensures.grows.nodes before c.args.node at in
    let second = c.in_ok-next.ensures.grows.nodes before c.args.node first in
    let behind = lead-one (child c.add_child.new.self) 0 before last c.args.node end first c.in_ok-end.ensures.child in
    let leads : node_of trie (before ++ last ∷ []) ≡ Some end = c.in_ok-add_ends.ensures.grows.nodes (before ++ last ∷ []) end (c.in_ok-next.ensures.grows.nodes (before ++ last ∷ []) end behind) in
    let next = lead-one (child c.add_child-2.new.self) 0 before name c.args.node c.in_ok-next.next second c.in_ok-next.ensures.child in
    let within : end < vec_len c.extended.new.rows = search (rules, c.in_ok-row.ensures.room) in
    let longer : vec_len c.extended.new.rows ≤ vec_len c.add_ends.new.ends = c.in_ok-add_ends.ensures.longer in
    let room : end < vec_len c.add_ends.new.ends = omega arith in
    let inside : end < length c.add_ends.new.ends.items = search (rules, room) in
    subst (λ ns. AddsEnds trie before ns c.args.ends.now.items (set c.add_ends.new.ends.items end c.in_ok-row.row) c.args.begins.now.value) (sym splits)
    (more-ends trie before name rest last (subst (EndsIn last) splits (last_of names last c.in-len1-up.len_at_least c.last-item.is)) end leads c.args.ends.now.items c.extended.new.rows.items c.add_ends.new.ends.items c.args.begins.now.value
    c.in_ok-row.row c.extended.ensures.same inside c.in_ok-row.ensures.added (c.in_ok-add_ends.ensures.added (before ++ name ∷ []) next))
