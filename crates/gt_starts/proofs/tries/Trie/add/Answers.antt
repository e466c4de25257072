use Rattle.std.proofs.Common.{◌≡◌, ◌+◌, ◌<◌, [], ◌∷◌, ◌++◌, length, take, sym, ap, ◌∙◌, arith}
use Rattle.std.proofs.lemmas.List.{take_more}
use Rattle.gt_starts.specs.Tries.{child, node_of}
use Rattle.gt_starts.proofs.LeadLemmas.{lead-one}
use Rattle.gt_starts.proofs.TrieLemmas.{grows-then}
use Rattle.gt_starts.proofs.tries.Trie.add.Goals as goal

pub loop-name-preserved : goal.loop-name-preserved
loop-name-preserved c =
    let within : c.loop-name.name-index < length c.args.names.now = omega arith in
    let front = take c.loop-name.name-index c.args.names.now in
    let next : take (c.loop-name.name-index + 1) c.args.names.now ≡ front ++ c.name-item.result ∷ [] =
    take_more c.args.names.now c.loop-name.name-index c.name-item.result within ∙ ap (λ name. front ++ name ∷ []) (sym c.name-item.is) in
    record {
      at = ap (node_of c.add_child.new.self) next
          ∙ lead-one (child c.add_child.new.self) 0 front c.name-item.result c.loop-name.node c.in_ok-node.node (c.in_ok-node.ensures.grows.nodes front c.loop-name.node c.loop-name.invariant.at) c.in_ok-node.ensures.child;
      grows = grows-then c.args.self.now c.loop-name.self c.add_child.new.self c.loop-name.invariant.grows c.in_ok-node.ensures.grows;
      apart = c.in_ok-node.ensures.apart;
    }
