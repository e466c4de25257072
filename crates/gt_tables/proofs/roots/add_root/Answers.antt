use Rattle.std.proofs.Common.{◌∙◌, ◌+◌, ◌*◌, [], ◌∷◌, ap, length}
use Rattle.gt_tables.specs.Building.{first_of, Grows}
use Rattle.gt_tables.proofs.Keeping.{grows-on}
use Rattle.gt_tables.proofs.Wholes.{add-grows, add-there, roots-add}
use Rattle.gt_tables.proofs.Serving.{served-same}
use Rattle.gt_tables.proofs.PartCounts.{root-counted}
use Rattle.gt_tables.proofs.ServingRoots.{root-walk-new}
use Rattle.gt_tables.proofs.roots.add_root.Goals as goal

pub returns-clause-grows : goal.returns-clause-grows
returns-clause-grows c =
    let program = c.args.source.now.program.now in
    grows-on program c.args.parts.now c.root_rows.new.parts c.add.new.self c.in_ok-rows.ensures.grows
    (add-grows program c.root_rows.new.parts c.add.new.self c.in_ok-rows.rows.items c.in_ok-rows.ensures.grows.are c.in_ok-rows.ensures.rows c.in_ok-walk.ensures.walks c.add.ensures.known c.add.ensures.cases)

pub returns-clause-roots : goal.returns-clause-roots
returns-clause-roots c =
    let program = c.args.source.now.program.now in
    let first = first_of c.args.source.now in
    let grows : Grows program c.args.parts.now c.add.new.self =
    grows-on program c.args.parts.now c.root_rows.new.parts c.add.new.self c.in_ok-rows.ensures.grows
    (add-grows program c.root_rows.new.parts c.add.new.self c.in_ok-rows.rows.items c.in_ok-rows.ensures.grows.are c.in_ok-rows.ensures.rows c.in_ok-walk.ensures.walks c.add.ensures.known c.add.ensures.cases) in
    roots-add first program c.args.parts.now c.add.new.self c.args.roots.now.items c.push.new.self.items c.in_ok-walk.walk grows c.requires.roots
    (add-there first c.root_rows.new.parts.walks.items c.add.new.self.walks.items c.in_ok-rows.rows.items c.in_ok-walk.walk c.in_ok-walk.ensures.walks
    (c.in_ok-walk.ensures.number ∙ ap (λ n. n + length c.root_rows.new.parts.walks.items) c.first_part.ensures))
    c.in_ok-push.ensures.items

pub returns-clause-serves : goal.returns-clause-serves
returns-clause-serves c plain =
    let number = c.in_ok-walk.ensures.number ∙ ap (λ n. n + length c.root_rows.new.parts.walks.items) c.first_part.ensures in (
      c.in_ok-walk.walk,
      c.in_ok-push.ensures.items,
      root-walk-new c.args.source.now c.root_rows.new.parts.walks.items c.add.new.self.walks.items c.in_ok-rows.rows.items c.args.root.now c.args.address c.in_ok-walk.walk c.in_ok-walk.ensures.walks number
          c.in_ok-rows.ensures.serves,
    )

pub returns-clause-served : goal.returns-clause-served
returns-clause-served c = served-same c.args.source.now c.root_rows.new.parts c.add.new.self (c.in_ok-rows.rows.items ∷ []) c.in_ok-walk.ensures.walks c.add.ensures.known c.in_ok-rows.ensures.served

pub returns-clause-counted : goal.returns-clause-counted
returns-clause-counted c n hand h =
    root-counted c.args.source.now c.root_rows.new.parts c.add.new.self c.in_ok-rows.rows.items c.args.roots.now.items c.push.new.self.items hand c.in_ok-walk.walk n c.add.ensures.known c.add.ensures.cases
    c.in_ok-walk.ensures.walks (c.in_ok-walk.ensures.number ∙ ap (λ n. n + length c.root_rows.new.parts.walks.items) c.first_part.ensures) c.in_ok-push.ensures.items
    (c.in_ok-rows.ensures.counted (n + 2 * length c.args.roots.now.items) c.args.roots.now.items hand h)
