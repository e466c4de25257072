use Rattle.std.proofs.Common.{◌≡◌, ◌∙◌, ◌<◌, [], ◌∷◌, ap, sym, subst, arith, List, None, false}
use Rattle.std.specs.Prelude.{flat_map}
use Rattle.gt_walk.specs.declared.rows.Count.TheVariants as count
use Rattle.gt_walk.specs.declared.rows.WalkRow.{WalkRow}
use Rattle.gt_walk.specs.declared.rows.WalkRow.TheVariants as row
use Rattle.gt_walk.specs.Nested.{parts_in}
use Rattle.gt_tables.specs.Building.{first_of, AreRows, Shallow}
use Rattle.gt_tables.proofs.Keeping.{if-ok}
use Rattle.gt_tables.proofs.NamedParts.{note-none, pointing-none}
use Rattle.gt_tables.proofs.Wholes.{rows-pointing}
use Rattle.gt_tables.proofs.blocks.pointer_rows.Goals as goal

pub returns-then-may_stand-clause-rows : goal.returns-then-may_stand-clause-rows
returns-then-may_stand-clause-rows c =
    let first = first_of c.args.source.now in
    let lt : c.args.id.0 < first = omega (arith, c.requires.there, c.requires.source.count) in
    if-ok (λ rows. rows.items ≡ row.Note 8 None ∷ row.Ptr 0 c.args.id.0 (count.Fixed 1) false ∷ []) (λ rows. (walks : List (List WalkRow)) → AreRows first walks Shallow rows.items) c.pointing_rows.result
    (λ rows is walks. subst (AreRows first walks Shallow) (sym is) (rows-pointing first walks Shallow 8 c.args.id.0 None 1 false lt)) c.pointing_rows.ensures

-- they name no walk of a part
pub returns-then-may_stand-clause-bare : goal.returns-then-may_stand-clause-bare
returns-then-may_stand-clause-bare c =
    if-ok (λ rows. rows.items ≡ row.Note 8 None ∷ row.Ptr 0 c.args.id.0 (count.Fixed 1) false ∷ []) (λ rows. flat_map parts_in rows.items ≡ []) c.pointing_rows.result
    (λ rows is. ap (λ l. flat_map parts_in l) is ∙ pointing-none 8 None 0 c.args.id.0 (count.Fixed 1) false) c.pointing_rows.ensures

pub returns-else-may_stand-clause-bare : goal.returns-else-may_stand-clause-bare
returns-else-may_stand-clause-bare c =
    if-ok (λ rows. rows.items ≡ row.Note 8 None ∷ []) (λ rows. flat_map parts_in rows.items ≡ []) c.note.result (λ rows is. ap (λ l. flat_map parts_in l) is ∙ note-none 8 None) c.note.ensures
