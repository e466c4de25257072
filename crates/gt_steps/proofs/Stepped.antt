-- What one command leaves of a session.
use Rattle.std.proofs.Common.{◌≡◌, ℕ, Option, Ok, Err, IfOk, OnErr, ◌<◌, ◌≤◌, refl, sym, ap, subst, ◌∙◌, inl, inr, arith}
use Rattle.std.specs.Prelude.{Result, ◌⊎◌}
use Rattle.std.specs.declared.alloc.AllocError.{AllocError}
use Rattle.std.proofs.lemmas.Bool.{cases_lt}
use Rattle.gt_types.specs.declared.program.Program.{Program}
use Rattle.gt_io.specs.Held.{Held}
use Rattle.gt_objects.specs.declared.objects.Objects.{Objects}
use Rattle.gt_caches.specs.Pairs.{Entries}
use Rattle.gt_next.specs.declared.answer.Answer.{Answer}
use Rattle.gt_next.specs.declared.answer.Answer.TheVariants.{Skipped, Stats}
use Rattle.gt_next.specs.States.{State}
use Rattle.gt_next.specs.Collecting.{NextCollect, NextStats, allocated, threshold}
use Rattle.gt_collect.specs.declared.modes.Mode.{Mode}
use Rattle.gt_collect.specs.Modes.{threshold_in}
use Rattle.gt_session.specs.declared.session.Session.{Session}
use Rattle.gt_session.specs.Sessions.{Goes, IsAsBefore, IsSession, StandsFor}
use Rattle.gt_steps.specs.Collecting.{NextIn}

module _ (N : State → Answer → State → Type 0) (old new : Session) where
  -- the new session stands for some state
  pub stays : (result : Result Answer AllocError) → IfOk result (Goes N old new) → OnErr result (IsAsBefore old new) → IsSession old → IsSession new
  stays (Ok answer) goes before is = let next = goes is.0 is.1 is.2 in (is.0, next.0, next.2)
  stays (Err e) goes before is = (is.0, is.1, before is.0 is.1 is.2)

  -- of one state of files
  pub of_files : (told : Option Held) (result : Result Answer AllocError) → IfOk result (Goes N old new)
      → IfOk result (λ answer. (s : State) → StandsFor old told s → (t : State) × N s answer t × StandsFor new told t)
  of_files told (Ok answer) goes = λ s stands. goes told s stands
  of_files told (Err e) goes = tt

-- a command that changes nothing goes from each state to the same
pub stays_there : (N : State → Answer → State → Type 0) (session : Session) (result : Result Answer AllocError)
    → IfOk result (λ answer. (told : Option Held) (s : State) → StandsFor session told s → N s answer s) → IfOk result (Goes N session session)
stays_there N session (Ok answer) next = λ told s stands. (s, next told s stands, stands)
stays_there N session (Err e) next = tt

-- a collection that is skipped leaves the state as it is
pub skips_in : (program : Program) (mode : Mode) (old : Session) (objects : Objects) (caches : Entries) → objects ≡ old.objects → caches ≡ old.caches → (told : Option Held) (s : State) → StandsFor old told s
    → allocated s < threshold_in mode → (t : State) × NextIn program mode s Skipped t × StandsFor (record old { objects = objects; caches = caches }) told t
skips_in program mode old objects caches same_objects same_caches told s stands low =
    let next : NextIn program mode s Skipped s = record {
      skips = λ _. (refl, refl);
      collects = λ enough. absurd (let no : 1 ≤ 0 = omega (arith, low, enough) in omega (arith, no));
    } in (
      s,
      next,
      subst (λ (o : Objects). let new : Session = record old { objects = o; caches = caches } in StandsFor new told s) (sym same_objects)
          (subst (λ (c : Entries). let new : Session = record old { caches = c } in StandsFor new told s) (sym same_caches) stands),
    )

-- where the threshold of the mode is that of the state, it is the command `collect`
pub by_threshold : (program : Program) (mode : Mode) (s t : State) (answer : Answer) → threshold_in mode ≡ threshold s → NextIn program mode s answer t → NextCollect program s answer t
by_threshold program mode s t answer least next = either (cases_lt (allocated s) (threshold s))
  where
    either : (allocated s < threshold s) ⊎ (threshold s ≤ allocated s) → NextCollect program s answer t
    either (inl few) =
        let low : allocated s < threshold_in mode = omega (arith, least, few) in
        let same = next.skips low in
        subst (λ a. NextCollect program s a t) (sym same.0) (subst (λ n. NextCollect program s Skipped n) (sym same.1) (NextCollect.skips few))
    either (inr enough) =
        let high : threshold_in mode ≤ allocated s = omega (arith, least, enough) in
        NextCollect.collects enough (next.collects high)

-- the numbers of the collector
pub stats_are : (s : State) (a l t i r : ℕ) → a ≡ allocated s → l ≡ s.last → t ≡ threshold s → i ≡ s.heap.places.image.count → r ≡ s.rounds → NextStats s (Stats a l t i r) s
stats_are s a l t i r bytes last least image rounds =
    subst (λ x. NextStats s x s)
    (sym (ap (λ n. Stats n l t i r) bytes ∙ ap (λ n. Stats (allocated s) n t i r) last ∙ ap (λ n. Stats (allocated s) s.last n i r) least
    ∙ ap (λ n. Stats (allocated s) s.last (threshold s) n r) image ∙ ap (λ n. Stats (allocated s) s.last (threshold s) s.heap.places.image.count n) rounds)) NextStats.reports
