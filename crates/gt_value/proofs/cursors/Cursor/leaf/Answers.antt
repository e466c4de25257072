use Rattle.std.proofs.Common.{◌≡◌, ◌+◌, ◌^◌, ◌<◌, length, refl, sym, subst, rules, arith, Some, None}
use Rattle.gt_value.specs.Places.{leaf_kind}
use Rattle.gt_value.proofs.CursorLeaves.{LeafOn, no-leaf, leaf-there, bits-inside}
use Rattle.gt_value.proofs.FindingContents.{word-holds}
use Rattle.gt_value.proofs.cursors.Cursor.leaf.Goals as goal

pub returns-in_err-kind : goal.returns-in_err-kind
returns-in_err-kind c =
    let none : leaf_kind c.args.self.now.ty.now ≡ None = search rules in
    record { leaf = subst (λ r. LeafOn c.args.self.now r) (sym c.from_residual.ensures) (λ at value path there. no-leaf at c.args.self.now value path there none) }

pub read_count-length-requires : goal.read_count-length-requires
read_count-length-requires c = record { laid = c.requires.stands.is.stands.0.context.laid }

pub returns : goal.returns
returns c =
    let kind : leaf_kind c.args.self.now.ty.now ≡ Some c.in_ok-kind.kind = search rules in
    record { leaf = λ at value path there. leaf-there at c.args.self.now value path there _ kind (omega (arith, c.start.ensures.start)) refl refl refl c.read_count-length.ensures }

pub overflow_add-addr : goal.overflow_add-addr
overflow_add-addr c =
    let self = c.args.self.now in
    let here = c.requires.stands.is in
    let kind : leaf_kind self.ty.now ≡ Some c.in_ok-kind.kind = search rules in
    let holds = word-holds self.source self.site.around self.ty.now self.at here.p.tree c.in_ok-kind.kind kind here.stands.0 in
    let inside = bits-inside self.source.space.now self.source.from self.at c.in_ok-kind.kind holds.0 in
    let near : self.source.space.now.start + length self.source.space.now.bytes < 2 ^ 32 = search (rules, c.start.ensures.every_space) in
    omega (arith, inside, near, c.start.ensures.start)

pub overflow_add-result : goal.overflow_add-result
overflow_add-result c =
    let self = c.args.self.now in
    let here = c.requires.stands.is in
    let kind : leaf_kind self.ty.now ≡ Some c.in_ok-kind.kind = search rules in
    let holds = word-holds self.source self.site.around self.ty.now self.at here.p.tree c.in_ok-kind.kind kind here.stands.0 in
    let inside = bits-inside self.source.space.now self.source.from self.at c.in_ok-kind.kind holds.0 in
    let near : self.source.space.now.start + length self.source.space.now.bytes < 2 ^ 32 = search (rules, c.start.ensures.every_space) in
    omega (arith, inside, near, c.start.ensures.start)
