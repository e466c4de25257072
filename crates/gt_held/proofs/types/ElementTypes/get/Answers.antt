use Rattle.std.proofs.Common.{arith}
use Rattle.std.proofs.lemmas.Option.{slice_get_within}
use Rattle.gt_held.specs.Types.{pointer_to}
use Rattle.gt_held.proofs.TypeLemmas.{pointer-found, pointer-type, node-type}
use Rattle.gt_held.proofs.types.ElementTypes.get.Goals as goal

pub index-requires-in-Pointers : goal.index-requires-in-Pointers
index-requires-in-Pointers c =
    let within =
    slice_get_within c.args.self.now.pointers.items c.in-Pointers.id.0 (pointer_to c.in-Pointers.id)
    (pointer-found c.requires.there.0 c.args.self.now c.requires.there.1 c.args.kind c.requires.there.2 c.in-Pointers.id c.in-Pointers.is)
    in
    omega (arith, within, c.args.self.now.pointers.ok.0)

pub returns-in-Nodes : goal.returns-in-Nodes
returns-in-Nodes c = record {
  found = λ program are may. node-type program c.args.self.now are c.args.kind may c.in-Nodes.id c.index.result.now c.in-Nodes.is c.index.ensures;
}

pub returns-in-Pointers : goal.returns-in-Pointers
returns-in-Pointers c = record {
  found = λ program are may.
      pointer-type program c.args.self.now are c.args.kind may c.in-Pointers.id c.index-in-Pointers.result.now c.in-Pointers.is c.index-in-Pointers.ensures;
}
