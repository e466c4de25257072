use Rattle.std.proofs.Common.{◌≡◌, length, ap, sym, arith, rules, true, false}
use Rattle.std.proofs.lemmas.Option.{slice_get_within}
use Rattle.gt_layout.proofs.Laying.{read_at}
use Rattle.gt_value.specs.Reading.{entered}
use Rattle.gt_value.proofs.StandingParts.{active-is}
use Rattle.gt_value.proofs.FindingSteps.{node-has}
use Rattle.gt_value.proofs.CursorLeaves.{struct-memberless, union-member}
use Rattle.gt_value.proofs.cursors.Cursor.active.Goals as goal

pub worth_of-worth-requires : goal.worth_of-worth-requires
worth_of-worth-requires c = record { laid = c.requires.stands.1.context.laid }

pub bounds-as_slice-id : goal.bounds-as_slice-id
bounds-as_slice-id c =
    let self = c.args.self.now in
    let known = node-has c.args.id c.args.desc.now c.requires.stands.0 c.requires.stands.1.fits in
    let there = slice_get_within self.source.program.now.structures c.args.id.0 known.0 known.1 in
    omega (arith, there, ap length c.as_slice.ensures.items)

pub returns-then-not-structure : goal.returns-then-not-structure
returns-then-not-structure c value s =
    let self = c.args.self.now in
    let source = self.source in
    let y = c.index-as_slice-id.result in
    let known = node-has c.args.id c.args.desc.now c.requires.stands.0 c.requires.stands.1.fits in
    let there = slice_get_within source.program.now.structures c.args.id.0 known.0 known.1 in
    let has = read_at c.as_slice.result.now source.program.now.structures c.args.id.0 y c.as_slice.ensures.items there c.index-as_slice-id.is in
    let struct : y.is_union ≡ false = search rules in
    sym (struct-memberless source self.site.around c.args.id c.args.desc.now self.at value y has s struct)

pub active_member-requires-clause-laid : goal.active_member-requires-clause-laid
active_member-requires-clause-laid c = c.requires.stands.1.context.laid

pub active_member-requires-clause-has : goal.active_member-requires-clause-has
active_member-requires-clause-has c =
    let source = c.args.self.now.source in
    let known = node-has c.args.id c.args.desc.now c.requires.stands.0 c.requires.stands.1.fits in
    let there = slice_get_within source.program.now.structures c.args.id.0 known.0 known.1 in
    read_at c.as_slice.result.now source.program.now.structures c.args.id.0 c.index-as_slice-id.result c.as_slice.ensures.items there c.index-as_slice-id.is

pub returns : goal.returns
returns c value s =
    let self = c.args.self.now in
    let source = self.source in
    let y = c.index-as_slice-id.result in
    let known = node-has c.args.id c.args.desc.now c.requires.stands.0 c.requires.stands.1.fits in
    let there = slice_get_within source.program.now.structures c.args.id.0 known.0 known.1 in
    let has = read_at c.as_slice.result.now source.program.now.structures c.args.id.0 y c.as_slice.ensures.items there c.index-as_slice-id.is in
    let inner = entered self.site.around c.args.id self.at in
    let union : y.is_union ≡ true = search rules in
    let member = c.active_member.result in
    let active = active-is source c.enter-inner.result inner c.args.desc.now c.worth_of-worth.result y.fields member c.enter-inner.ensures c.worth_of-worth.ensures c.active_member.ensures in
    union-member source self.site.around c.args.id c.args.desc.now self.at value y has s member union active
