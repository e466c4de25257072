use Rattle.std.proofs.Common.{◌∙◌, ap, sym, map}
use Rattle.gt_names.specs.Lists.{with_name}
use Rattle.gt_names.proofs.TableLemmas.{names_with, with_present, with_absent, with_pushed}
use Rattle.gt_names.proofs.tables.Table.with.Goals as goal

pub returns-then-is_some : goal.returns-then-is_some
returns-then-is_some g c =
    record {
      added = with_present c.args.self c.args.name.now c.args.value c.place.result c.is_some.result c.place.ensures.place c.is_some.ensures c.if-is_some.true;
    }

pub returns : goal.returns
returns g c =
    record {
      added =
          with_pushed c.self.inside.entries.items c.args.self c.in_ok-entries.entries.items c.in_ok-name_of_entry.name_of_entry c.args.name.now c.args.value
          c.in_ok-entries.ensures.added c.in_ok-name_of_entry.ensures.same c.self.view_is
          (with_absent c.args.self c.args.name.now c.args.value c.place.result c.is_some.result c.place.ensures.place c.is_some.ensures c.if-is_some.false);
    }

pub invariant_of-result : goal.invariant_of-result
invariant_of-result g c =
    c.in_ok-add.ensures.added ∙ ap (λ names. with_name names c.args.name.now) (c.self.invariant ∙ ap (map (λ e. e.name)) c.self.view_is)
    ∙ sym (names_with c.args.self c.args.name.now c.args.value) ∙ ap (map (λ e. e.name)) (sym (returns g c).added)
