use Rattle.std.proofs.Common.{◌≡◌, ◌↔◌, ℕ, true, sym, subst}
use Rattle.gt_starts.specs.Begins.{IsInSome, sets_at}
use Rattle.gt_starts.specs.Paths.{EndsFrom}
use Rattle.gt_starts.proofs.EndLemmas.{ends-anywhere, ends-nowhere}
use Rattle.gt_starts.proofs.paths.PathSet.ends.Goals as goal

pub returns-in-Some : goal.returns-in-Some
returns-in-Some c = record {
  ends = subst (λ starts. c.any_at.result ≡ true ↔ ((begin : ℕ) × EndsFrom starts c.args.last.now begin)) c.self.view_is
      (ends-anywhere c.self.inside.trie c.self.inside.begins.items c.self.inside.ends.items c.self.invariant c.args.last.now c.in-Some.end c.any_at.result c.in-Some.ensures.child
      (subst (λ rows. c.any_at.result ≡ true ↔ ((begin : ℕ) × IsInSome (sets_at rows c.in-Some.end) begin)) c.deref.ensures.value c.any_at.ensures.some));
}

pub returns-in-None : goal.returns-in-None
returns-in-None c = record {
  ends = (
    λ e. absurd (cc),
    λ h. absurd (ends-nowhere c.self.inside.trie c.self.inside.begins.items c.self.inside.ends.items c.self.invariant c.args.last.now c.in-None.ensures.child h.0
        (subst (λ starts. EndsFrom starts c.args.last.now h.0) (sym c.self.view_is) h.1)),
  );
}
