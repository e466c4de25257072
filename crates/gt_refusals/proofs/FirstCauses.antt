-- Each command is refused for the first cause of its row that is there, and nothing changes.
use Rattle.std.proofs.Common.{◌≡◌, ℕ, List, [], ◌∷◌, Some, refl, inl, inr}
use Rattle.gt_types.specs.declared.program.Program.{Program}
use Rattle.gt_layout.specs.declared.planes.Layouts.{Layouts}
use Rattle.gt_script.specs.declared.command.Command.{Command}
use Rattle.gt_script.specs.declared.command.Command.TheVariants as command
use Rattle.gt_script.specs.declared.command.Given.{Given}
use Rattle.gt_script.specs.declared.command.Route.{Route}
use Rattle.gt_next.specs.declared.answer.Answer.TheVariants.{Refused}
use Rattle.gt_next.specs.declared.answer.Why.{Why}
use Rattle.gt_next.specs.declared.answer.Why.TheVariants.{WrongType, OutOfRange, Inactive}
use Rattle.gt_next.specs.States.{State}
use Rattle.gt_next.specs.Spots.{Spot, Standing, standing_at}
use Rattle.gt_next.specs.Paths.{Leads}
use Rattle.gt_next.specs.Leaves.{Got, Reads, IsIdlePointer, IsSuited, RefusesValue, IsBeyond}
use Rattle.gt_next.specs.Caching.{NextPut, NextFind}
use Rattle.gt_next.specs.Collecting.{NextCollect, NextForce, NextStats}
use Rattle.gt_next.specs.Next.{Next, NextSet, Answers, NextGet, NextDrop, NextPrint, NextHeap, NextTables}
use Rattle.gt_refusals.specs.declared.causes.Cause.TheVariants.{WrongShape, VariableTooMany, IdlePointer, WrongPlace, NumberBeyond}
use Rattle.gt_refusals.specs.Refusals.{refusals_of, IsFirstOf}
use Rattle.gt_refusals.proofs.Suiting.{suited}
use Rattle.gt_refusals.proofs.FirstMade.{first-new, first-array, first-text, first-block}

module _ (program : Program) (layouts : Layouts) (s : State) where
  -- a command is refused so, and the state stays as it is
  abbrev Comes : Command → Why → State → Type 0
  Comes c why t = IsFirstOf program layouts s c (refusals_of c) why × (t ≡ s)

  ends-value : (path : Route) (value : Given) (why : Why) (at : Spot) → Leads program s path at → RefusesValue program s at value why
      → IsFirstOf program layouts s (command.Set path value) (IdlePointer ∷ WrongPlace ∷ NumberBeyond ∷ WrongShape ∷ []) why
  ends-value path value why at leads (RefusesValue.idle idle) = inl (refl, (at, leads, idle))
  ends-value path value why at leads (RefusesValue.not_suited busy other) = inr ((at, leads, busy), inl (refl, (at, leads, other)))
  ends-value path value why at leads (RefusesValue.beyond {t} busy suits stands far) =
      inr ((at, leads, busy), inr ((at, leads, suits), inl (refl, (at, leads, (t, stands, far)))))

  first-set : (path : Route) (value : Given) (why : Why) (t : State) → NextSet program s path value (Refused why) t → Comes (command.Set path value) why t
  first-set path value why t (NextSet.unbound none) = (inl (refl, none), refl)
  first-set path value why t (NextSet.refused bound refused) = (inr (bound, inl refused), refl)
  first-set path value why t (NextSet.value_refused {at} bound leads refused) = (inr (bound, inr ((at, leads), ends-value path value why at leads refused)), refl)
  first-set path value why t (NextSet.shape {at} {t = x} {leaf} bound leads good stands is none) =
      let busy : ¬ IsIdlePointer program s at = λ idle. good Inactive (RefusesValue.idle idle) in
      let suits : IsSuited program s at value = suited program s at x value leaf stands is (λ other. good WrongType (RefusesValue.not_suited busy other)) in
      let near : ¬ IsBeyond x.type value = λ far. good OutOfRange (RefusesValue.beyond busy suits stands far) in
      (inr (bound, inr ((at, leads), inr ((at, leads, busy), inr ((at, leads, suits), inr ((at, leads, (x, stands, near)), inl (refl, (at, leads, (x, leaf, stands, is, none)))))))), refl)

  ends-get : (var : List ℕ) (path : Route) (why : Why) (t : State) (at : Spot) (what : Standing) (got : Got) → Leads program s path at → standing_at program s.heap.graph at ≡ Some what → Reads what got
      → Answers s var got (Refused why) t → IsFirstOf program layouts s (command.Get var path) (VariableTooMany ∷ []) why × (t ≡ s)
  ends-get var path why t at what got leads stands reads (Answers.too_many {id} full) = (inl (refl, full, (at, leads, (what, id, stands, reads))), refl)

  first-get : (var : List ℕ) (path : Route) (why : Why) (t : State) → NextGet program s var path (Refused why) t → Comes (command.Get var path) why t
  first-get var path why t (NextGet.refused refused) = (inl refused, refl)
  first-get var path why t (NextGet.no_leaf {at} {what} leads stands none) = (inr ((at, leads), inl (refl, (at, leads, (what, stands, none)))), refl)
  first-get var path why t (NextGet.reads {at} {what} {got} leads stands reads answer) =
      let end = ends-get var path why t at what got leads stands reads answer in
      (inr ((at, leads), inr ((at, leads, (what, got, stands, reads)), end.0)), end.1)

  first-drop : (var : List ℕ) (why : Why) (t : State) → NextDrop s var (Refused why) t → Comes (command.Drop var) why t
  first-drop var why t (NextDrop.unbound none) = (inl (refl, none), refl)

  first-print : (path : Route) (why : Why) (t : State) → NextPrint program s path (Refused why) t → Comes (command.Print path) why t
  first-print path why t (NextPrint.refused refused) = (inl refused, refl)

  first-put : (name key value : List ℕ) (why : Why) (t : State) → NextPut program s name key value (Refused why) t → Comes (command.Put name key value) why t
  first-put name key value why t (NextPut.no_cache none) = (inl (refl, none), refl)
  first-put name key value why t (NextPut.key_refused {place} {cache} {pairs} at refused) = (inr ((place, cache, pairs, at, tt), inl (place, cache, pairs, at, refused)), refl)
  first-put name key value why t (NextPut.value_refused {place} {k} {cache} {pairs} at is refused) =
      (inr ((place, cache, pairs, at, tt), inr ((place, cache, pairs, at, (k, is)), inl (place, cache, pairs, at, refused))), refl)
  first-put name key value why t (NextPut.too_large {place} {k} {v} {cache} {pairs} at is worth none many) =
      (inr ((place, cache, pairs, at, tt), inr ((place, cache, pairs, at, (k, is)), inr ((place, cache, pairs, at, (v, worth)), inl (refl, (place, cache, pairs, at, (k, is, none, many)))))), refl)

  first-find : (name key : List ℕ) (why : Why) (t : State) → NextFind program s name key (Refused why) t → Comes (command.Find name key) why t
  first-find name key why t (NextFind.no_cache none) = (inl (refl, none), refl)
  first-find name key why t (NextFind.key_refused {place} {cache} {pairs} at refused) = (inr ((place, cache, pairs, at, tt), inl (place, cache, pairs, at, refused)), refl)

  -- ---- commands that are never refused

  never-force : {why : Why} {t : State} → NextForce program s (Refused why) t → ⊥
  never-force next = elim next [ ]

  never-collect : {why : Why} {t : State} → NextCollect program s (Refused why) t → ⊥
  never-collect (NextCollect.collects grown next) = never-force next

  never-heap : {why : Why} {t : State} → NextHeap s (Refused why) t → ⊥
  never-heap next = elim next [ ]

  never-stats : {why : Why} {t : State} → NextStats s (Refused why) t → ⊥
  never-stats next = elim next [ ]

  never-tables : {why : Why} {t : State} → NextTables program layouts s (Refused why) t → ⊥
  never-tables next = elim next [ ]

pub Next-IsFirstOf : (program : Program) (layouts : Layouts) (s t : State) (c : Command) (why : Why) → Next program layouts s c (Refused why) t → IsFirstOf program layouts s c (refusals_of c) why × (t ≡ s)
Next-IsFirstOf program layouts s t (command.New var type n) why next = first-new program layouts s var type n why t next
Next-IsFirstOf program layouts s t (command.Array var type n) why next = first-array program layouts s var type n why t next
Next-IsFirstOf program layouts s t (command.Text var bytes) why next = first-text program layouts s var bytes why t next
Next-IsFirstOf program layouts s t (command.Block var n) why next = first-block program layouts s var n why t next
Next-IsFirstOf program layouts s t (command.Set path value) why next = first-set program layouts s path value why t next
Next-IsFirstOf program layouts s t (command.Get var path) why next = first-get program layouts s var path why t next
Next-IsFirstOf program layouts s t (command.Drop var) why next = first-drop program layouts s var why t next
Next-IsFirstOf program layouts s t (command.Print path) why next = first-print program layouts s path why t next
Next-IsFirstOf program layouts s t (command.Put name key value) why next = first-put program layouts s name key value why t next
Next-IsFirstOf program layouts s t (command.Find name key) why next = first-find program layouts s name key why t next
Next-IsFirstOf program layouts s t command.Collect why next = absurd (never-collect program layouts s next)
Next-IsFirstOf program layouts s t command.CollectForce why next = absurd (never-force program layouts s next)
Next-IsFirstOf program layouts s t command.Heap why next = absurd (never-heap program layouts s next)
Next-IsFirstOf program layouts s t command.Stats why next = absurd (never-stats program layouts s next)
Next-IsFirstOf program layouts s t command.Tables why next = absurd (never-tables program layouts s next)
Next-IsFirstOf program layouts s t c why next = absurd next
