-- For the first cause that is there, the machine may refuse the command.
use Rattle.std.proofs.Common.{◌≡◌, ℕ, List, Some, sym, subst, inl, inr}
use Rattle.std.specs.Prelude.{slice_get}
use Rattle.gt_types.specs.declared.program.Cache.{Cache}
use Rattle.gt_types.specs.declared.program.Program.{Program}
use Rattle.gt_types.specs.Settled.{Settled}
use Rattle.gt_layout.specs.declared.planes.Layouts.{Layouts}
use Rattle.gt_script.specs.declared.command.Command.{Command}
use Rattle.gt_script.specs.declared.command.Command.TheVariants as command
use Rattle.gt_script.specs.declared.command.Given.{Given}
use Rattle.gt_script.specs.declared.command.Route.{Route}
use Rattle.gt_tree.specs.Scopes.{Typed}
use Rattle.gt_tree.proofs.PathBits.{some-same}
use Rattle.gt_next.specs.declared.answer.Answer.TheVariants.{Refused}
use Rattle.gt_next.specs.declared.answer.Why.{Why}
use Rattle.gt_next.specs.States.{State}
use Rattle.gt_next.specs.Spots.{Spot, Value, standing_at}
use Rattle.gt_next.specs.Paths.{Leads}
use Rattle.gt_next.specs.Leaves.{IsIdlePointer, IsSuited, IsBeyond, RefusesValue}
use Rattle.gt_next.specs.Caching.{cache_of, IsMember, IsCacheAt, NextPut, NextFind}
use Rattle.gt_next.specs.Next.{Next, NextSet, Answers, NextGet, NextDrop, NextPrint}
use Rattle.gt_refusals.specs.Refusals.{refusals_of, IsFirstOf}
use Rattle.gt_refusals.proofs.AnswersMade.{answer-new, answer-array, answer-text, answer-block}

module _ (program : Program) (layouts : Layouts) (s : State) where
  abbrev ComesFirst : Command → Why → Type 0
  ComesFirst c why = IsFirstOf program layouts s c (refusals_of c) why

  abbrev Answered : Command → Why → Type 0
  Answered c why = Next program layouts s c (Refused why) s

  -- ---- set

  typed-same : (x y : Typed) → Value x ≡ Value y → x ≡ y
  typed-same x y e = cc

  -- a number is not beyond the range of the type at a spot
  abbrev IsNear : Given → Spot → Type 0
  IsNear value at = (t : Typed) × (standing_at program s.heap.graph at ≡ Some (Value t)) × (¬ IsBeyond t.type value)

  fits : (at : Spot) (value : Given) → ¬ IsIdlePointer program s at → IsSuited program s at value → IsNear value at → (why : Why) → ¬ RefusesValue program s at value why
  fits at value busy suits near why (RefusesValue.idle idle) = busy idle
  fits at value busy suits near why (RefusesValue.not_suited other not) = not suits
  fits at value busy suits (x, there, near) why (RefusesValue.beyond {t} other also stands far) =
      near (subst (λ y. IsBeyond y.type value) (typed-same t x (some-same (standing_at program s.heap.graph at) (Value t) (Value x) stands there)) far)

  module _ (path : Route) (one : (at other : Spot) → Leads program s path at → Leads program s path other → at ≡ other) (value : Given) where
    moves : (P : Spot → Type 0) (a b : Spot) → Leads program s path a → Leads program s path b → P a → P b
    moves P a b from to p = subst P (one a b from to) p

    abbrev IsBusy : Spot → Type 0
    IsBusy at = ¬ IsIdlePointer program s at

    abbrev Suited : Spot → Type 0
    Suited at = IsSuited program s at value

    answer-set : (why : Why) → ComesFirst (command.Set path value) why → Answered (command.Set path value) why
    answer-set why (inl (is, none)) = subst (Answered (command.Set path value)) (sym is) (NextSet.unbound none)
    answer-set why (inr (bound, inl refused)) = NextSet.refused bound refused
    answer-set why (inr (bound, inr (leads, inl (is, (at, to, idle))))) = subst (Answered (command.Set path value)) (sym is) (NextSet.value_refused bound to (RefusesValue.idle idle))
    answer-set why (inr (bound, inr (leads, inr ((a, to_a, busy), inl (is, (at, to, other)))))) =
        subst (Answered (command.Set path value)) (sym is) (NextSet.value_refused bound to (RefusesValue.not_suited (moves IsBusy a at to_a to busy) other))
    answer-set why (inr (bound, inr (leads, inr ((a, to_a, busy), inr ((b, to_b, suits), inl (is, (at, to, (t, stands, far)))))))) =
        subst (Answered (command.Set path value)) (sym is) (NextSet.value_refused bound to (RefusesValue.beyond (moves IsBusy a at to_a to busy) (moves Suited b at to_b to suits) stands far))
    answer-set why (inr (bound, inr (leads, inr ((a, to_a, busy), inr ((b, to_b, suits), inr ((c, to_c, near), inl (is, (at, to, (t, leaf, stands, is_leaf, none))))))))) =
        subst (Answered (command.Set path value)) (sym is)
        (NextSet.shape bound to (fits at value (moves IsBusy a at to_a to busy) (moves Suited b at to_b to suits) (moves (IsNear value) c at to_c to near)) stands is_leaf none)
    answer-set why (inr (bound, inr (leads, inr (busy, inr (suits, inr (near, inr (never, last))))))) = absurd never

  -- ---- get, drop and print

  answer-get : (var : List ℕ) (path : Route) (why : Why) → ComesFirst (command.Get var path) why → Answered (command.Get var path) why
  answer-get var path why (inl refused) = NextGet.refused refused
  answer-get var path why (inr (leads, inl (is, (at, to, (what, stands, none))))) = subst (Answered (command.Get var path)) (sym is) (NextGet.no_leaf to stands none)
  answer-get var path why (inr (leads, inr (leaf, inl (is, full, (at, to, (what, id, stands, reads)))))) =
      subst (Answered (command.Get var path)) (sym is) (NextGet.reads to stands reads (Answers.too_many full))
  answer-get var path why (inr (leads, inr (leaf, inr (vacant, never)))) = absurd never

  answer-drop : (var : List ℕ) (why : Why) → ComesFirst (command.Drop var) why → Answered (command.Drop var) why
  answer-drop var why (inl (is, none)) = subst (Answered (command.Drop var)) (sym is) (NextDrop.unbound none)
  answer-drop var why (inr (never, last)) = absurd never

  answer-print : (path : Route) (why : Why) → ComesFirst (command.Print path) why → Answered (command.Print path) why
  answer-print path why (inl refused) = NextPrint.refused refused
  answer-print path why (inr (never, last)) = absurd never

  -- ---- caches

  cache-one : {name : List ℕ} {p q : ℕ} {c d : Cache} {ps qs : List (ℕ × ℕ)} → IsCacheAt program s name p c ps → IsCacheAt program s name q d qs → c ≡ d
  cache-one {name} {p} {q} {c} {d} one other =
      let place : p ≡ q = some-same (cache_of program name) p q one.at other.at in
      some-same (slice_get program.caches q) c d (subst (λ i. slice_get program.caches i ≡ Some c) place one.declared) other.declared

  answer-put : (name key value : List ℕ) (why : Why) → ComesFirst (command.Put name key value) why → Answered (command.Put name key value) why
  answer-put name key value why (inl (is, none)) = subst (Answered (command.Put name key value)) (sym is) (NextPut.no_cache none)
  answer-put name key value why (inr (there, inl (place, cache, pairs, at, refused))) = NextPut.key_refused at refused
  answer-put name key value why (inr (there, inr ((p, c, ps, found, (k, keyed)), inl (place, cache, pairs, at, refused)))) =
      NextPut.value_refused at (subst (λ x. IsMember s key x.key k) (cache-one found at) keyed) refused
  answer-put name key value why (inr (there, inr (key_is, inr ((p, c, ps, found, (v, worth)), inl (is, (place, cache, pairs, at, (k, keyed, none, many))))))) =
      subst (Answered (command.Put name key value)) (sym is) (NextPut.too_large at keyed (subst (λ x. IsMember s value x.value v) (cache-one found at) worth) none many)
  answer-put name key value why (inr (there, inr (key_is, inr (value_is, inr (never, last))))) = absurd never

  answer-find : (name key : List ℕ) (why : Why) → ComesFirst (command.Find name key) why → Answered (command.Find name key) why
  answer-find name key why (inl (is, none)) = subst (Answered (command.Find name key)) (sym is) (NextFind.no_cache none)
  answer-find name key why (inr (there, inl (place, cache, pairs, at, refused))) = NextFind.key_refused at refused
  answer-find name key why (inr (there, inr (never, last))) = absurd never

-- where a path leads to one spot, the first cause of a command's row that is there is answered
pub IsFirstOf-Next : (program : Program) (layouts : Layouts) → Settled program → (s : State) → ((path : Route) (at other : Spot) → Leads program s path at → Leads program s path other → at ≡ other)
    → (c : Command) (why : Why) → IsFirstOf program layouts s c (refusals_of c) why → Next program layouts s c (Refused why) s
IsFirstOf-Next program layouts settled s one (command.New var type n) why first = answer-new program layouts settled s var type n why first
IsFirstOf-Next program layouts settled s one (command.Array var type n) why first = answer-array program layouts settled s var type n why first
IsFirstOf-Next program layouts settled s one (command.Text var bytes) why first = answer-text program layouts settled s var bytes why first
IsFirstOf-Next program layouts settled s one (command.Block var n) why first = answer-block program layouts settled s var n why first
IsFirstOf-Next program layouts settled s one (command.Set path value) why first = answer-set program layouts s path (one path) value why first
IsFirstOf-Next program layouts settled s one (command.Get var path) why first = answer-get program layouts s var path why first
IsFirstOf-Next program layouts settled s one (command.Drop var) why first = answer-drop program layouts s var why first
IsFirstOf-Next program layouts settled s one (command.Print path) why first = answer-print program layouts s path why first
IsFirstOf-Next program layouts settled s one (command.Put name key value) why first = answer-put program layouts s name key value why first
IsFirstOf-Next program layouts settled s one (command.Find name key) why first = answer-find program layouts s name key why first
IsFirstOf-Next program layouts settled s one c why first = absurd first
