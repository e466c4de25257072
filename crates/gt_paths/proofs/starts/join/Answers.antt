use Rattle.std.proofs.Common.{sym}
use Rattle.std.proofs.lemmas.Bool.Decides.{not_from_Decides}
use Rattle.gt_unions.specs.Beginnings.{Begins}
use Rattle.gt_paths.proofs.Meetings.{joining, joining_more, meet_at, never_meet}
use Rattle.gt_paths.proofs.Trails.{walk_begins, walk_ends, walk_on, walk_stops}
use Rattle.gt_paths.proofs.starts.join.Goals as goal

pub structs-init : goal.structs-init
structs-init c = (walk_begins c.args.program.now (Begins c.args.program.now c.args.b) c.args.a, joining c.args.program.now c.args.a c.args.b)

pub returns-then-begins_with : goal.returns-then-begins_with
returns-then-begins_with c = record { joined = meet_at c.args.program.now c.args.a c.args.b c.structs.at (c.begins_with.ensures.0 c.if-begins_with.true) c.structs.invariant.1 }

pub returns-in_default : goal.returns-in_default
returns-in_default c = record {
  joined = never_meet c.args.program.now c.args.a c.args.b c.structs.at
      (walk_stops c.args.program.now (Begins c.args.program.now c.args.b) c.structs.at (not_from_Decides c.begins_with.result c.begins_with.ensures c.if-begins_with.false) (sym c.in_default.ensures))
      c.structs.invariant.1;
}

pub structs-preserved : goal.structs-preserved
structs-preserved c =
    let no = not_from_Decides c.begins_with.result c.begins_with.ensures c.if-begins_with.false in (
      walk_on c.args.program.now (Begins c.args.program.now c.args.b) c.structs.counter c.structs.at c.in-Some.next no (sym c.in-Some.ensures) c.structs.invariant.0,
      joining_more c.args.program.now c.args.a c.args.b c.structs.at c.in-Some.next no (sym c.in-Some.ensures) c.structs.invariant.1,
    )

pub returns : goal.returns
returns c = record {
  joined = never_meet c.args.program.now c.args.a c.args.b c.structs.at
      (walk_ends c.args.program.now (Begins c.args.program.now c.args.b) c.as_slice.result.now c.structs.counter c.structs.at c.as_slice.ensures.items c.structs-test.false c.structs.invariant.0)
      c.structs.invariant.1;
}
