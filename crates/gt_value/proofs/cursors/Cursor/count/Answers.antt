use Rattle.std.proofs.Common.{◌≡◌, ◌∙◌, false, ap, sym, rules}
use Rattle.gt_types.specs.declared.types.Ty.{out-Ty}
use Rattle.gt_types.specs.declared.types.Ty.TheVariants.{outs-Arr, outs-Tail}
use Rattle.gt_value.proofs.CursorLeaves.{is_row, uncounted, array-counted, tail-counted}
use Rattle.gt_value.proofs.cursors.Cursor.count.Goals as goal

pub returns-in-Arr : goal.returns-in-Arr
returns-in-Arr c =
    let self = c.args.self.now in
    let is = ap out-Ty c.in-Arr.is ∙ outs-Arr c.in-Arr.n c.in-Arr.elem in
    record { count = λ at value path there. (array-counted self.source self.site.around self.ty.now c.in-Arr.elem self.at c.in-Arr.n there.p.tree is there.stands.0).1 }

pub read_length-requires : goal.read_length-requires
read_length-requires c = record { laid = c.requires.stands.is.stands.0.context.laid }

pub returns-in-Tail : goal.returns-in-Tail
returns-in-Tail c =
    let self = c.args.self.now in
    let is = ap out-Ty c.in-Tail.is ∙ outs-Tail c.in-Tail.len c.in-Tail.elem in
    record {
      count = λ at value path there.
          (tail-counted self.source self.site.around self.ty.now c.in-Tail.elem c.in-Tail.len self.at c.read_length.result there.p.tree is c.read_length.ensures there.stands.0).1;
    }

pub returns-in-Num : goal.returns-in-Num
returns-in-Num c =
    let self = c.args.self.now in
    let known : is_row self.ty.now ≡ false = search rules in
    record { count = λ at value path there. sym (uncounted self.source self.site.around self.ty.now self.at there.p.tree known there.stands.0) }

pub returns-in-Num-2 : goal.returns-in-Num-2
returns-in-Num-2 c =
    let self = c.args.self.now in
    let known : is_row self.ty.now ≡ false = search rules in
    record { count = λ at value path there. sym (uncounted self.source self.site.around self.ty.now self.at there.p.tree known there.stands.0) }

pub returns-in-Num-3 : goal.returns-in-Num-3
returns-in-Num-3 c =
    let self = c.args.self.now in
    let known : is_row self.ty.now ≡ false = search rules in
    record { count = λ at value path there. sym (uncounted self.source self.site.around self.ty.now self.at there.p.tree known there.stands.0) }

pub returns-in-Str : goal.returns-in-Str
returns-in-Str c =
    let self = c.args.self.now in
    let known : is_row self.ty.now ≡ false = search rules in
    record { count = λ at value path there. sym (uncounted self.source self.site.around self.ty.now self.at there.p.tree known there.stands.0) }

pub returns-in-Str-2 : goal.returns-in-Str-2
returns-in-Str-2 c =
    let self = c.args.self.now in
    let known : is_row self.ty.now ≡ false = search rules in
    record { count = λ at value path there. sym (uncounted self.source self.site.around self.ty.now self.at there.p.tree known there.stands.0) }

pub returns-in-Str-3 : goal.returns-in-Str-3
returns-in-Str-3 c =
    let self = c.args.self.now in
    let known : is_row self.ty.now ≡ false = search rules in
    record { count = λ at value path there. sym (uncounted self.source self.site.around self.ty.now self.at there.p.tree known there.stands.0) }
