use Rattle.std.proofs.Common.{◌≡◌, ◌∙◌, true, ap, sym, subst, rules, None}
use Rattle.gt_types.specs.declared.types.Ty.{out-Ty}
use Rattle.gt_types.specs.declared.types.Ty.TheOpen as part
use Rattle.gt_types.specs.declared.types.Ty.TheVariants.{outs-Arr, outs-Tail}
use Rattle.gt_types.specs.Shapes.{is_unscanned, is_pointer}
use Rattle.gt_value.specs.Reading.{EachStands}
use Rattle.gt_value.specs.Cursors.{StepAnswers}
use Rattle.gt_value.proofs.StandingParts.{array-stands, tail-stands}
use Rattle.gt_value.proofs.CursorSteps.{array-answers, tail-answers, unscanned-none, pointer-none}
use Rattle.gt_value.proofs.CursorAnswers.{stands-here, steps-on}
use Rattle.gt_value.proofs.cursors.Cursor.step.Goals as goal

pub returns-in-Node : goal.returns-in-Node
returns-in-Node c =
    let self = c.args.self.now in
    record { part = steps-on self c.args.place c.inside.result (subst (λ t. StepAnswers self.source self.site t self.at c.args.place c.inside.result) (sym c.in-Node.is) c.inside.ensures) }

pub element-requires : goal.element-requires
element-requires c =
    let self = c.args.self.now in
    let elem = c.get.result.now in
    let here = stands-here self c.requires.stands in
    let is : out-Ty self.ty.now ≡ part.Arr c.in-Arr.n elem = ap out-Ty c.in-Arr.is ∙ outs-Arr c.in-Arr.n c.in-Arr.elem ∙ ap (part.Arr c.in-Arr.n) (sym c.get.ensures) in
    let row = array-stands self.source self.site.around self.ty.now elem self.at c.in-Arr.n here.0 is here.1 in
    record { stand = (row.trees, row.stand) }

pub returns-in-Arr : goal.returns-in-Arr
returns-in-Arr c =
    let self = c.args.self.now in
    let elem = c.get.result.now in
    let is : out-Ty self.ty.now ≡ part.Arr c.in-Arr.n elem = ap out-Ty c.in-Arr.is ∙ outs-Arr c.in-Arr.n c.in-Arr.elem ∙ ap (part.Arr c.in-Arr.n) (sym c.get.ensures) in
    record { part = steps-on self c.args.place c.element.result (array-answers self.source self.site elem self.at c.in-Arr.n c.args.place self.ty.now c.element.result is c.element.ensures) }

pub read_length-n-requires : goal.read_length-n-requires
read_length-n-requires c = record { laid = (stands-here c.args.self.now c.requires.stands).1.context.laid }

pub element-requires-in-Tail : goal.element-requires-in-Tail
element-requires-in-Tail c =
    let self = c.args.self.now in
    let elem = c.get-in-Tail.result.now in
    let here = stands-here self c.requires.stands in
    let is : out-Ty self.ty.now ≡ part.Tail c.in-Tail.len elem = ap out-Ty c.in-Tail.is ∙ outs-Tail c.in-Tail.len c.in-Tail.elem ∙ ap (part.Tail c.in-Tail.len) (sym c.get-in-Tail.ensures) in
    let found = tail-stands self.source self.site.around self.ty.now elem self.at c.in-Tail.len here.0 is here.1 in
    let many = c.read_length-n.ensures found.n found.worth found.few in
    record { stand = (found.row.trees, subst (λ k. EachStands self.source self.site.around elem self.at k found.row.trees) (sym many) found.row.stand) }

pub returns-in-Tail : goal.returns-in-Tail
returns-in-Tail c =
    let self = c.args.self.now in
    let elem = c.get-in-Tail.result.now in
    let is : out-Ty self.ty.now ≡ part.Tail c.in-Tail.len elem = ap out-Ty c.in-Tail.is ∙ outs-Tail c.in-Tail.len c.in-Tail.elem ∙ ap (part.Tail c.in-Tail.len) (sym c.get-in-Tail.ensures) in
    record {
      part = steps-on self c.args.place c.element-in-Tail.result
          (tail-answers self.source self.site elem self.at c.read_length-n.result c.args.place self.ty.now c.in-Tail.len c.element-in-Tail.result is c.read_length-n.ensures c.element-in-Tail.ensures);
    }

pub returns-in-Num : goal.returns-in-Num
returns-in-Num c =
    let self = c.args.self.now in
    let known : is_unscanned self.ty.now ≡ true = search rules in
    record { part = steps-on self c.args.place None (unscanned-none self.source self.site self.ty.now self.at c.args.place known) }

pub returns-in-Str : goal.returns-in-Str
returns-in-Str c =
    let self = c.args.self.now in
    let known : is_pointer self.ty.now ≡ true = search rules in
    record { part = steps-on self c.args.place None (pointer-none self.source self.site self.ty.now self.at c.args.place known) }
