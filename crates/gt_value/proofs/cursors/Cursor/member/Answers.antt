use Rattle.std.proofs.Common.{◌≡◌, sym, subst, rules, None}
use Rattle.gt_types.specs.Contains.{itself}
use Rattle.gt_value.specs.Reading.{Stands}
use Rattle.gt_value.proofs.CursorLeaves.{memberless}
use Rattle.gt_value.proofs.cursors.Cursor.member.Goals as goal

pub returns-in-Node : goal.returns-in-Node
returns-in-Node c =
    let self = c.args.self.now in
    record { member = λ at value path there. c.active.ensures there.p.tree (subst (λ t. Stands self.source self.site.around t self.at there.p.tree) c.in-Node.is there.stands.0) }

pub returns-in-Num : goal.returns-in-Num
returns-in-Num c =
    let self = c.args.self.now in
    let known : itself self.ty.now ≡ None = search rules in
    record { member = λ at value path there. sym (memberless self.source self.site.around self.ty.now self.at there.p.tree known there.stands.0) }

pub returns-in-Num-2 : goal.returns-in-Num-2
returns-in-Num-2 c =
    let self = c.args.self.now in
    let known : itself self.ty.now ≡ None = search rules in
    record { member = λ at value path there. sym (memberless self.source self.site.around self.ty.now self.at there.p.tree known there.stands.0) }

pub returns-in-Num-3 : goal.returns-in-Num-3
returns-in-Num-3 c =
    let self = c.args.self.now in
    let known : itself self.ty.now ≡ None = search rules in
    record { member = λ at value path there. sym (memberless self.source self.site.around self.ty.now self.at there.p.tree known there.stands.0) }

pub returns-in-Str : goal.returns-in-Str
returns-in-Str c =
    let self = c.args.self.now in
    let known : itself self.ty.now ≡ None = search rules in
    record { member = λ at value path there. sym (memberless self.source self.site.around self.ty.now self.at there.p.tree known there.stands.0) }

pub returns-in-Str-2 : goal.returns-in-Str-2
returns-in-Str-2 c =
    let self = c.args.self.now in
    let known : itself self.ty.now ≡ None = search rules in
    record { member = λ at value path there. sym (memberless self.source self.site.around self.ty.now self.at there.p.tree known there.stands.0) }

pub returns-in-Arr : goal.returns-in-Arr
returns-in-Arr c =
    let self = c.args.self.now in
    let known : itself self.ty.now ≡ None = search rules in
    record { member = λ at value path there. sym (memberless self.source self.site.around self.ty.now self.at there.p.tree known there.stands.0) }

pub returns-in-Arr-2 : goal.returns-in-Arr-2
returns-in-Arr-2 c =
    let self = c.args.self.now in
    let known : itself self.ty.now ≡ None = search rules in
    record { member = λ at value path there. sym (memberless self.source self.site.around self.ty.now self.at there.p.tree known there.stands.0) }
