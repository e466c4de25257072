use Rattle.std.proofs.Common.{◌≡◌, ℕ, refl}
use Rattle.std.specs.Prelude.{List}
use Rattle.std.proofs.lemmas.Result.{IfOk-weaker}
use Rattle.gt_tree.specs.Trees.{Tree}
use Rattle.gt_value.specs.Values.{tree_of}
use Rattle.gt_value.specs.Places.{Part}
use Rattle.gt_value.specs.Cursors.{Frame, IsAt}
use Rattle.gt_value.specs.Reading.{Stands, given_in}
use Rattle.gt_value.proofs.ReadableTypes.{readable}
use Rattle.gt_value.proofs.cursors.Cursor.read.Goals as goal

pub read_type-requires-clause-stands : goal.read_type-requires-clause-stands
read_type-requires-clause-stands c = let is = c.requires.stands.is in (is.p.tree, is.stands.0)

pub read_type-requires-clause-shallow : goal.read_type-requires-clause-shallow
read_type-requires-clause-shallow c =
    let s = c.requires.stands.is.stands.0 in
    (readable c.args.self.now.source (given_in s.context) refl s.context.settled s.context.statics s.typed).0

pub read_type-requires-clause-flat : goal.read_type-requires-clause-flat
read_type-requires-clause-flat c =
    let s = c.requires.stands.is.stands.0 in
    (readable c.args.self.now.source (given_in s.context) refl s.context.settled s.context.statics s.typed).1

pub returns : goal.returns
returns c = record {
  value = IfOk-weaker c.read_type.result (λ v. (value : Tree) → Stands c.args.self.now.source c.args.self.now.site.around c.args.self.now.ty.now c.args.self.now.at value → tree_of v ≡ value)
      (λ v. (at : Frame) (value : Part) (path : List ℕ) (there : IsAt at c.args.self.now value path) → tree_of v ≡ there.p.tree) (λ v reads at value path there. reads there.p.tree there.stands.0) c.read_type.ensures;
}
