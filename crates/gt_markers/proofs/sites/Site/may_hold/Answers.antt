use Rattle.std.proofs.Common.{sym, ap, ◌∙◌}
use Rattle.gt_markers.specs.Sites.{may_stand}
use Rattle.gt_markers.specs.SiteViews.{site_of}
use Rattle.gt_markers.proofs.sites.Site.may_hold.Goals as goal

pub returns-in-Field : goal.returns-in-Field
returns-in-Field c =
    record {
      may = λ options are.
          c.may_stand_at_field.ensures options are ∙ ap (λ s. may_stand c.args.structures.now (site_of s) options c.args.kind) (sym c.in-Field.is);
    }

pub returns-in-Structure : goal.returns-in-Structure
returns-in-Structure c =
    record {
      may = λ options are.
          c.may_stand_at_structure.ensures c.args.structures.now options
          ∙ ap (λ s. may_stand c.args.structures.now (site_of s) options c.args.kind) (sym c.in-Structure.is);
    }

pub returns-in-Root : goal.returns-in-Root
returns-in-Root c =
    record {
      may = λ options are.
          c.may_stand_at_root.ensures options are ∙ ap (λ s. may_stand c.args.structures.now (site_of s) options c.args.kind) (sym c.in-Root.is);
    }

pub returns-in-Cache : goal.returns-in-Cache
returns-in-Cache c =
    record {
      may = λ options are.
          c.may_stand_at_cache.ensures c.args.structures.now options
          ∙ ap (λ s. may_stand c.args.structures.now (site_of s) options c.args.kind) (sym c.in-Cache.is);
    }
