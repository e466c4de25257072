use Rattle.std.proofs.Common.{◌≡◌, ◌↔◌, true, Some, sym, subst}
use Rattle.gt_starts.specs.Begins.{IsInSome, sets_at}
use Rattle.gt_starts.specs.Paths.{Starts}
use Rattle.gt_starts.specs.Ways.{way_to}
use Rattle.gt_starts.proofs.EndLemmas.{Leads, leads-known, leads-nowhere, leads-hidden, leads-childless}
use Rattle.gt_starts.proofs.paths.PathSet.leads.Goals as goal

pub returns-in-Known : goal.returns-in-Known
returns-in-Known c =
    let way = way_to c.args.program.now (Some c.args.begin) c.args.path.now in
    record {
      leads = subst (λ (starts : Starts). c.has_at.result ≡ true ↔ Leads starts c.args.begin.0 way c.args.last.now) c.self.view_is
          (leads-known c.self.inside.trie c.self.inside.begins.items c.self.inside.ends.items c.self.invariant c.args.last.now c.args.begin.0 way c.in-Known.node c.has_at.result c.in-Known.ensures.leads
          (subst (λ rows. c.has_at.result ≡ true ↔ IsInSome (sets_at rows c.in-Known.node) c.args.begin.0) c.deref.ensures.value c.has_at.ensures.there));
    }

pub returns-in-Some : goal.returns-in-Some
returns-in-Some c =
    let way = way_to c.args.program.now (Some c.args.begin) c.args.path.now in
    record {
      leads = subst (λ (starts : Starts). c.has_at-in-Some.result ≡ true ↔ Leads starts c.args.begin.0 way c.args.last.now) c.self.view_is
          (leads-hidden c.self.inside.trie c.self.inside.begins.items c.self.inside.ends.items c.self.invariant c.args.last.now c.args.begin.0 way c.in-Hidden.node c.in-Some.end c.has_at-in-Some.result
          c.in-Hidden.ensures.leads c.in-Some.ensures.child
          (subst (λ rows. c.has_at-in-Some.result ≡ true ↔ IsInSome (sets_at rows c.in-Some.end) c.args.begin.0) c.deref-in-Some.ensures.value c.has_at-in-Some.ensures.there));
    }

pub returns-in-None : goal.returns-in-None
returns-in-None c =
    let way = way_to c.args.program.now (Some c.args.begin) c.args.path.now in
    record {
      leads = (
        λ e. absurd (cc),
        λ h. absurd (leads-childless c.self.inside.trie c.self.inside.begins.items c.self.inside.ends.items c.self.invariant c.args.last.now c.args.begin.0 way c.in-Hidden.node c.in-Hidden.ensures.leads c.in-None.ensures.child
            (subst (λ (starts : Starts). Leads starts c.args.begin.0 way c.args.last.now) (sym c.self.view_is) h)),
      );
    }

pub returns-in-Nowhere : goal.returns-in-Nowhere
returns-in-Nowhere c =
    let way = way_to c.args.program.now (Some c.args.begin) c.args.path.now in
    record {
      leads = (
        λ e. absurd (cc),
        λ h. absurd (leads-nowhere c.self.inside.trie c.self.inside.begins.items c.self.inside.ends.items c.self.invariant c.args.last.now c.args.begin.0 way c.in-Nowhere.ensures.leads
            (subst (λ (starts : Starts). Leads starts c.args.begin.0 way c.args.last.now) (sym c.self.view_is) h)),
      );
    }
