use Rattle.std.proofs.Common.{◌≡◌, length, ap, sym, ◌∙◌, arith, length-set}
use Rattle.std.specs.Option.{is_some}
use Rattle.std.proofs.lemmas.Option.{same_Some}
use Rattle.gt_links.specs.Lists.{Lists, nodes_of, without}
use Rattle.gt_links.proofs.Among.{with_nodes-then_push}
use Rattle.gt_links.proofs.Calls.{within_from_holds}
use Rattle.gt_links.proofs.links.Links.move_back.Goals as goal

pub unwrap-list-requires : goal.unwrap-list-requires
unwrap-list-requires c = ap is_some (c.list_of.ensures.one c.requires.linked.0 c.requires.linked.1)

pub push_back-requires-clause-list : goal.push_back-requires-clause-list
push_back-requires-clause-list c =
    let s = c.args.self.now in
    let i = c.requires.linked.0 in
    let holds = c.requires.linked.1 in
    let same : c.unwrap-list.result ≡ i = same_Some _ _ (sym c.unwrap-list.ensures ∙ c.list_of.ensures.one i holds) in
    let count : length c.unlink.new.self.lists ≡ length s.lists =
    ap (λ (t : Lists). length t.lists) (c.unlink.ensures.taken i holds) ∙ length-set s.lists i (without c.args.node (nodes_of s i)) in
    omega (arith, within_from_holds s i c.args.node holds)

pub returns : goal.returns
returns c = record {
  moved = λ i holds.
      let s = c.args.self.now in
      let same : c.unwrap-list.result ≡ i = same_Some _ _ (sym c.unwrap-list.ensures ∙ c.list_of.ensures.one i holds) in
      with_nodes-then_push s c.unlink.new.self c.push_back.new.self i c.unwrap-list.result c.args.node _ (within_from_holds s i c.args.node holds) same (c.unlink.ensures.taken i holds) c.push_back.ensures.back;
}
