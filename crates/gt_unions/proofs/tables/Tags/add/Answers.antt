use Rattle.std.proofs.Common.{◌≡◌, ℤ, rules, w64, sym, subst}
use Rattle.std.specs.Prelude.{OnOk}
use Rattle.std.proofs.lemmas.Int.{to_z-of_z}
use Rattle.gt_types.specs.declared.program.Active.{Active}
use Rattle.gt_types.specs.declared.program.Active.TheVariants.{Tag}
use Rattle.gt_unions.specs.Tables.{with_tag}
use Rattle.gt_unions.proofs.tables.Tags.add.Goals as goal

pub returns-in-Tag : goal.returns-in-Tag
returns-in-Tag c = record {
  added =
      subst (λ (a : Active). OnOk c.add_tag.result (c.add_tag.new.self ≡ with_tag c.args.self.now c.args.place a)) (sym c.in-Tag.is)
      (subst (λ (z : ℤ). OnOk c.add_tag.result (c.add_tag.new.self ≡ with_tag c.args.self.now c.args.place (Tag z))) (to_z-of_z w64 c.in-Tag.tag (search rules)) c.add_tag.ensures.added);
}
