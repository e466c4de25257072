-- Headers declare one program or have one first fault, and never both.
use Rattle.std.proofs.Common.{◌≡◌, ℕ, List, subst, ◌⊎◌, inl, inr}
use Rattle.gt_types.specs.declared.faults.Fault.{Fault}
use Rattle.gt_types.specs.declared.program.Program.{Program}
use Rattle.gt_types.specs.Settled.{Settled}
use Rattle.gt_items.specs.declared.items.Items.{Items}
use Rattle.gt_layout.specs.Laws.{HasOneLayout}
use Rattle.gt_drafts.specs.declared.draft.Draft.{Draft}
use Rattle.gt_resolve.specs.Resolution.{Resolves, HasFirstFault}
use Rattle.gt_markers.specs.Sound.{IsSound}
use Rattle.gt_rules.specs.Faults.{Declares as DeclaresProgram, IsFirstFault as IsFirstOptionFault}
use Rattle.gt_options.specs.declared.settling.Settlement.{Settlement}
use Rattle.gt_options.specs.declared.settling.Settlement.TheVariants as settlement
use Rattle.gt_options.specs.Settlements.{IsSettlement}
use Rattle.gt_headers.specs.Headers.{AreResolved, Declares, DeclaresBy, IsFirstFault, IsTooLargeAt}
use Rattle.gt_headers.specs.Reading.{AreRead, IsReadingFault}
use Rattle.gt_headers.specs.Sizes.{IsSizeFault}
use Rattle.gt_headers.proofs.SizeLemmas.{one_size_fault}

-- a fault that comes after those of names and types: of options, or of sizes
abbrev AfterNames : List (List ℕ) → Fault → Type 0
AfterNames texts fault = ((draft : Draft) × AreResolved texts draft × IsFirstOptionFault draft fault) ⊎ IsTooLargeAt texts fault

-- the names and types are then without a fault
are_resolved : (texts : List (List ℕ)) (fault : Fault) → AfterNames texts fault → (draft : Draft) × AreResolved texts draft
are_resolved texts fault (inl (draft, resolved, f)) = (draft, resolved)
are_resolved texts fault (inr large) = (large.draft, large.resolved)

module _ (one_reading : (texts : List (List ℕ)) (files others : List Items) → AreRead texts files → AreRead texts others → files ≡ others)
    (read_no_fault : (texts : List (List ℕ)) (files : List Items) (fault : Fault) → AreRead texts files → IsReadingFault texts fault → ⊥)
    (one_reading_fault : (texts : List (List ℕ)) (fault other : Fault) → IsReadingFault texts fault → IsReadingFault texts other → fault ≡ other)
    (not_both : (files : List Items) (draft : Draft) (fault : Fault) → Resolves files draft → HasFirstFault files fault → ⊥)
    (one_draft : (files : List Items) (draft other : Draft) → Resolves files draft → Resolves files other → draft ≡ other)
    (one_fault : (files : List Items) (fault other : Fault) → HasFirstFault files fault → HasFirstFault files other → fault ≡ other)
    (sound : (texts : List (List ℕ)) (draft : Draft) → AreResolved texts draft → IsSound draft)
    (one_settlement : (draft : Draft) (s other : Settlement) → IsSound draft → IsSettlement draft s → IsSettlement draft other → s ≡ other)
    (settled : (draft : Draft) (program : Program) → IsSound draft → DeclaresProgram draft program → Settled program)
    (one_layout : (program : Program) → Settled program → HasOneLayout program) where
  -- ---- one draft, one program, one fault of options or of sizes

  one_resolved : (texts : List (List ℕ)) (draft other : Draft) → AreResolved texts draft → AreResolved texts other → draft ≡ other
  one_resolved texts draft other a b =
      one_draft b.files draft other (subst (λ (files : List Items). Resolves files draft) (one_reading texts a.files b.files a.are_read b.are_read) a.resolved) b.resolved

  one_program : (texts : List (List ℕ)) (draft other : Draft) (program second : Program) → AreResolved texts draft → AreResolved texts other
      → DeclaresProgram draft program → DeclaresProgram other second → program ≡ second
  one_program texts draft other program second a b d e =
      let same : settlement.Program program ≡ settlement.Program second =
      one_settlement other (settlement.Program program) (settlement.Program second) (sound texts other b)
      (subst (λ (x : Draft). DeclaresProgram x program) (one_resolved texts draft other a b) d) e in
      cc

  faultless : (texts : List (List ℕ)) (draft other : Draft) (program : Program) (fault : Fault) → AreResolved texts draft → AreResolved texts other
      → DeclaresProgram draft program → IsFirstOptionFault other fault → ⊥
  faultless texts draft other program fault a b d f =
      let same : settlement.Program program ≡ settlement.Fault fault =
      one_settlement draft (settlement.Program program) (settlement.Fault fault) (sound texts draft a) d
      (subst (λ (x : Draft). IsFirstOptionFault x fault) (one_resolved texts other draft b a) f) in
      cc

  one_option_fault : (texts : List (List ℕ)) (draft other : Draft) (fault second : Fault) → AreResolved texts draft → AreResolved texts other
      → IsFirstOptionFault draft fault → IsFirstOptionFault other second → fault ≡ second
  one_option_fault texts draft other fault second a b f g =
      let same : settlement.Fault fault ≡ settlement.Fault second =
      one_settlement other (settlement.Fault fault) (settlement.Fault second) (sound texts other b)
      (subst (λ (x : Draft). IsFirstOptionFault x fault) (one_resolved texts draft other a b) f) g in
      cc

  -- a fault of sizes is one of each program that the texts declare
  size_fault_of : (texts : List (List ℕ)) (draft : Draft) (program : Program) (fault : Fault) (b : AreResolved texts draft) → DeclaresProgram draft program
      → IsTooLargeAt texts fault → IsSizeFault b.files program fault
  size_fault_of texts draft program fault b d a =
      subst (λ (p : Program). IsSizeFault b.files p fault) (one_program texts a.draft draft a.program program a.resolved b a.declares d)
      (subst (λ (files : List Items). IsSizeFault files a.program fault) (one_reading texts a.resolved.files b.files a.resolved.are_read b.are_read) a.first)

  one_too_large : (texts : List (List ℕ)) (fault other : Fault) → IsTooLargeAt texts fault → IsTooLargeAt texts other → fault ≡ other
  one_too_large texts fault other a b =
      one_size_fault one_layout b.resolved.files b.program fault other (settled b.draft b.program (sound texts b.draft b.resolved) b.declares)
      (size_fault_of texts b.draft b.program fault b.resolved b.declares a) b.first

  one_after : (texts : List (List ℕ)) (fault other : Fault) → AfterNames texts fault → AfterNames texts other → fault ≡ other
  one_after texts fault other (inl (draft, a, f)) (inl (second, b, g)) = one_option_fault texts draft second fault other a b f g
  one_after texts fault other (inl (draft, a, f)) (inr b) = absurd (faultless texts b.draft draft b.program fault b.resolved a b.declares f)
  one_after texts fault other (inr a) (inl (draft, b, g)) = absurd (faultless texts a.draft draft a.program other a.resolved b a.declares g)
  one_after texts fault other (inr a) (inr b) = one_too_large texts fault other a b

  -- where names and types have no fault, only options or sizes may have one
  after_names : (texts : List (List ℕ)) (draft : Draft) (fault : Fault) → AreResolved texts draft → IsFirstFault texts fault → AfterNames texts fault
  after_names texts draft fault a (inl f) = absurd (read_no_fault texts a.files fault a.are_read f)
  after_names texts draft fault a (inr (inl (files, read, f))) =
      absurd (not_both files draft fault (subst (λ (x : List Items). Resolves x draft) (one_reading texts a.files files a.are_read read) a.resolved) f)
  after_names texts draft fault a (inr (inr f)) = f

  -- ---- the outcomes

  pub one_first_fault : (texts : List (List ℕ)) (fault other : Fault) → IsFirstFault texts fault → IsFirstFault texts other → fault ≡ other
  one_first_fault texts fault other (inl a) (inl b) = one_reading_fault texts fault other a b
  one_first_fault texts fault other (inl a) (inr (inl (files, read, b))) = absurd (read_no_fault texts files fault read a)
  one_first_fault texts fault other (inl a) (inr (inr b)) =
      let (draft, resolved) = are_resolved texts other b in absurd (read_no_fault texts resolved.files fault resolved.are_read a)
  one_first_fault texts fault other (inr (inl (files, read, a))) (inl b) = absurd (read_no_fault texts files other read b)
  one_first_fault texts fault other (inr (inl (files, read, a))) (inr (inl (others, also, b))) =
      one_fault others fault other (subst (λ (x : List Items). HasFirstFault x fault) (one_reading texts files others read also) a) b
  one_first_fault texts fault other (inr (inl (files, read, a))) (inr (inr b)) =
      let (draft, resolved) = are_resolved texts other b in one_after texts fault other (after_names texts draft fault resolved (inr (inl (files, read, a)))) b
  one_first_fault texts fault other (inr (inr a)) b =
      let (draft, resolved) = are_resolved texts fault a in one_after texts fault other a (after_names texts draft other resolved b)

  pub one_declared : (texts : List (List ℕ)) (program other : Program) → Declares texts program → Declares texts other → program ≡ other
  one_declared texts program other (draft, a) (second, b) = one_program texts draft second program other a.resolved b.resolved a.declares b.declares

  declared_by_no_fault : (texts : List (List ℕ)) (draft : Draft) (program : Program) (fault : Fault) → DeclaresBy texts draft program → IsFirstFault texts fault → ⊥
  declared_by_no_fault texts draft program fault d f = by (after_names texts draft fault d.resolved f)
    where
      by : AfterNames texts fault → ⊥
      by (inl (other, b, g)) = faultless texts draft other program fault d.resolved b d.declares g
      by (inr large) = d.sized fault (size_fault_of texts draft program fault d.resolved d.declares large)

  pub declared_no_fault : (texts : List (List ℕ)) (program : Program) (fault : Fault) → Declares texts program → IsFirstFault texts fault → ⊥
  declared_no_fault texts program fault (draft, d) f = declared_by_no_fault texts draft program fault d f

  -- where names and types have no fault, it cannot be that there is neither a program nor a first fault
  pub some_outcome : ((draft : Draft) → IsSound draft → ¬ ((s : Settlement) → ¬ IsSettlement draft s)) → (texts : List (List ℕ)) (draft : Draft) → AreResolved texts draft
      → ((program : Program) → ¬ Declares texts program) → ((fault : Fault) → ¬ IsFirstFault texts fault) → ⊥
  some_outcome some texts draft a no_program no_fault = some draft (sound texts draft a) none
    where
      large : (program : Program) → DeclaresProgram draft program → (fault : Fault) → ¬ IsSizeFault a.files program fault
      large program d fault f = no_fault fault (inr (inr (inr (record { draft = draft; resolved = a; program = program; declares = d; first = f }))))

      none : (s : Settlement) → ¬ IsSettlement draft s
      none (settlement.Program program) d = no_program program (draft, record { resolved = a; declares = d; sized = large program d })
      none (settlement.Fault fault) f = no_fault fault (inr (inr (inl (draft, a, f))))
