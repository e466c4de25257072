use Rattle.std.proofs.Common.{◌≤◌, refl, sym, subst, ◌∙◌, inl, inr, arith}
use Rattle.std.proofs.lemmas.Bool.{cases_lt, true≢false}
use Rattle.gt_bits.specs.Sets.{IsLongestRun, IsLowestRun}
use Rattle.gt_pages.specs.Parts.{parts_of}
use Rattle.gt_pages.proofs.FreeLemmas.{free_run, run_free}
use Rattle.gt_pages.proofs.store.Store.fit.Goals as goal

pub returns-then-are_free : goal.returns-then-are_free
returns-then-are_free c = record { fits = record { free = c.are_free.ensures.0 c.if-are_free.true; lowest = inl refl }; longest = tt }

pub returns-then-need-eq0 : goal.returns-then-need-eq0
returns-then-need-eq0 c = record {
  fits = record {
    free = record { in_space = omega (arith, c.if-need-eq0.true); each = λ q from to. absurd (let impossible : 1 ≤ 0 = omega (arith, from, to, c.if-need-eq0.true) in omega (arith, impossible)) };
    lowest = inr (λ free. true≢false (sym (c.are_free.ensures.1 free) ∙ c.if-are_free.false), λ other free. omega arith);
  };
  longest = tt;
}

pub returns-in-Some : goal.returns-in-Some
returns-in-Some c =
    let p = parts_of c.args.self.now in
    let run = subst (λ r. IsLowestRun p.free c.args.need c.args.self.now.pages r) c.in-Some.is
    (subst (λ words. IsLowestRun words c.args.need c.args.self.now.pages c.first_run.result) c.deref.ensures.value c.first_run.ensures) in
    record {
      fits = record {
        free = run_free p c.requires c.in-Some.page c.args.need run.run.0 run.run.1;
        lowest = inr (
          λ free. true≢false (sym (c.are_free.ensures.1 free) ∙ c.if-are_free.false),
          λ other free. elim (cases_lt other c.in-Some.page) [
            | inl low ↦ absurd (run.lowest other low (free_run p c.requires other c.args.need free))
            | inr high ↦ high
          ],
        );
      };
      longest = tt;
    }

pub returns-in-None : goal.returns-in-None
returns-in-None c =
    let p = parts_of c.args.self.now in
    let run = subst (λ r. IsLowestRun p.free c.args.need c.args.self.now.pages r) c.in-None.is
    (subst (λ words. IsLowestRun words c.args.need c.args.self.now.pages c.first_run.result) c.deref.ensures.value c.first_run.ensures) in
    let long = subst (λ words. IsLongestRun words c.args.self.now.pages c.longest_run.result) c.deref-in-None.ensures.value c.longest_run.ensures in
    record {
      fits = tt;
      longest = record {
        none = λ page free. run.none page (free_run p c.requires page c.args.need free);
        longest = record {
          free = (long.run.0, run_free p c.requires long.run.0 c.longest_run.result long.run.1.0 long.run.1.1);
          most = λ page other free. long.longest other page (free_run p c.requires page other free);
        };
      };
    }
