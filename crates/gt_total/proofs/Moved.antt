-- What a command does, but for stats, does not depend on the rounds of the last collection.
use Rattle.std.proofs.Common.{◌≡◌, ℕ, ℤ, Bool, true, false, List, Option, refl, ap}
use Rattle.gt_types.specs.declared.types.TypeId.{TypeId}
use Rattle.gt_types.specs.declared.program.Cache.{Cache}
use Rattle.gt_types.specs.declared.program.Program.{Program}
use Rattle.gt_layout.specs.declared.planes.Layouts.{Layouts}
use Rattle.gt_script.specs.declared.command.Command.{Command}
use Rattle.gt_script.specs.declared.command.Command.TheVariants as command
use Rattle.gt_script.specs.declared.command.Route.{Route}
use Rattle.gt_script.specs.declared.command.Given.{Given}
use Rattle.gt_script.specs.declared.command.TypeName.{TypeName}
use Rattle.gt_next.specs.declared.answer.Answer.{Answer}
use Rattle.gt_next.specs.declared.answer.Why.{Why}
use Rattle.gt_next.specs.States.{State, with_variable, without_variable}
use Rattle.gt_next.specs.Spots.{Spot}
use Rattle.gt_next.specs.Paths.{Begins, RefusesStart, Leads, RefusesPath}
use Rattle.gt_next.specs.Leaves.{Got, IsUnboundValue, RefusesValue}
use Rattle.gt_next.specs.Making.{Wanted, Contents, IsMisshapen, Binds, NextNew, NextArray, NextText, NextBlock}
use Rattle.gt_next.specs.Caching.{RefusesMember, IsMember, IsCacheAt, NextPut, NextFind}
use Rattle.gt_next.specs.Collecting.{Collects, NextForce, NextCollect}
use Rattle.gt_next.specs.Next.{Next, Answers, NextSet, NextGet, NextDrop, NextPrint, NextHeap, NextTables}
use Rattle.gt_next.specs.Laws.{AreOneState}

-- the same with other rounds
abbrev pub with_rounds : State → ℕ → State
with_rounds s rounds = record s { rounds = rounds }

-- such a step leads to one state, but for the rounds
abbrev pub LeadsAlike : (State → Type 0) → State → Type 0
LeadsAlike Leads t = (u : State) × Leads u × AreOneState t u

module _ (program : Program) (layouts : Layouts) (s : State) where
  -- ---- paths and values

  begins : (r q : ℕ) {path : Route} {at : Spot} → Begins program (with_rounds s r) path at → Begins program (with_rounds s q) path at
  begins r q (Begins.at_variable variable bound) = Begins.at_variable variable bound
  begins r q (Begins.at_root root place) = Begins.at_root root place

  starts_not : (r q : ℕ) {path : Route} {why : Why} → RefusesStart program (with_rounds s r) path why → RefusesStart program (with_rounds s q) path why
  starts_not r q (RefusesStart.unbound variable none) = RefusesStart.unbound variable none
  starts_not r q (RefusesStart.no_root root none) = RefusesStart.no_root root none

  leads : (r q : ℕ) {path : Route} {at : Spot} → Leads program (with_rounds s r) path at → Leads program (with_rounds s q) path at
  leads r q way = record { start = way.start; begins = begins r q way.begins; walks = way.walks }

  refuses_path : (r q : ℕ) {path : Route} {why : Why} → RefusesPath program (with_rounds s r) path why → RefusesPath program (with_rounds s q) path why
  refuses_path r q (RefusesPath.at_start start) = RefusesPath.at_start (starts_not r q start)
  refuses_path r q (RefusesPath.at_step start walk) = RefusesPath.at_step (begins r q start) walk

  unbound : (r q : ℕ) {value : Given} → IsUnboundValue (with_rounds s r) value → IsUnboundValue (with_rounds s q) value
  unbound r q (IsUnboundValue.unbound none) = IsUnboundValue.unbound none

  refuses_value : (r q : ℕ) {at : Spot} {value : Given} {why : Why} → RefusesValue program (with_rounds s r) at value why → RefusesValue program (with_rounds s q) at value why
  refuses_value r q (RefusesValue.idle is) = RefusesValue.idle is
  refuses_value r q (RefusesValue.not_suited busy not) = RefusesValue.not_suited busy not
  refuses_value r q (RefusesValue.beyond busy suited stands is) = RefusesValue.beyond busy suited stands is

  -- ---- blocks

  misshapen : (r q : ℕ) {node : TypeId} {w : Wanted} {n : Option ℤ} → IsMisshapen program (with_rounds s r) node w n → IsMisshapen program (with_rounds s q) node w n
  misshapen r q (IsMisshapen.no_tail not) = IsMisshapen.no_tail not
  misshapen r q (IsMisshapen.no_number tail) = IsMisshapen.no_number tail
  misshapen r q (IsMisshapen.no_zero none) = IsMisshapen.no_zero none

  binds : (r q : ℕ) (var : List ℕ) (w : Wanted) (contents : Contents) (a : Answer) (t : State) → Binds program layouts (with_rounds s r) var w contents a t
      → LeadsAlike (Binds program layouts (with_rounds s q) var w contents a) t
  binds r q var w contents a t (Binds.too_many full) = (with_rounds s q, Binds.too_many full, refl)
  binds r q var w contents a t (Binds.full free needs round none) = (with_rounds s q, Binds.full free needs round none, refl)
  binds r q var w contents a t (Binds.made {t = u} free kind count capacity value makes is) =
      (with_rounds u q, Binds.made free kind count capacity value makes (ap (λ x. with_rounds x q) is), refl)

  next_new : (r q : ℕ) (var : List ℕ) (type : TypeName) (n : Option ℤ) (a : Answer) (t : State) → NextNew program layouts (with_rounds s r) var type n a t
      → LeadsAlike (NextNew program layouts (with_rounds s q) var type n a) t
  next_new r q var type n a t (NextNew.no_type none) = (with_rounds s q, NextNew.no_type none, refl)
  next_new r q var type n a t (NextNew.negative names is negative) = (with_rounds s q, NextNew.negative names is negative, refl)
  next_new r q var type n a t (NextNew.too_large names not_negative has large) = (with_rounds s q, NextNew.too_large names not_negative has large, refl)
  next_new r q var type n a t (NextNew.shape names not_negative has small shape) = (with_rounds s q, NextNew.shape names not_negative has small (misshapen r q shape), refl)
  next_new r q var type n a t (NextNew.binds {answer} {t = u} names not_negative has small shaped next) =
      let moved = binds r q var _ _ answer u next in
      (moved.0, NextNew.binds names not_negative has small (λ shape. shaped (misshapen q r shape)) moved.1, moved.2)

  next_array : (r q : ℕ) (var : List ℕ) (type : TypeName) (n : ℤ) (a : Answer) (t : State) → NextArray program layouts (with_rounds s r) var type n a t
      → LeadsAlike (NextArray program layouts (with_rounds s q) var type n a) t
  next_array r q var type n a t (NextArray.no_type none) = (with_rounds s q, NextArray.no_type none, refl)
  next_array r q var type n a t (NextArray.negative is negative) = (with_rounds s q, NextArray.negative is negative, refl)
  next_array r q var type n a t (NextArray.tails is not_negative tails) = (with_rounds s q, NextArray.tails is not_negative tails, refl)
  next_array r q var type n a t (NextArray.too_large is number plain large) = (with_rounds s q, NextArray.too_large is number plain large, refl)
  next_array r q var type n a t (NextArray.binds {answer} {t = u} is number plain small next) =
      let moved = binds r q var _ _ answer u next in
      (moved.0, NextArray.binds is number plain small moved.1, moved.2)

  next_text : (r q : ℕ) (var bytes : List ℕ) (a : Answer) (t : State) → NextText program layouts (with_rounds s r) var bytes a t → LeadsAlike (NextText program layouts (with_rounds s q) var bytes a) t
  next_text r q var bytes a t (NextText.too_large large) = (with_rounds s q, NextText.too_large large, refl)
  next_text r q var bytes a t (NextText.binds {answer} {t = u} small next) =
      let moved = binds r q var _ _ answer u next in
      (moved.0, NextText.binds small moved.1, moved.2)

  next_block : (r q : ℕ) (var : List ℕ) (n : ℤ) (a : Answer) (t : State) → NextBlock program layouts (with_rounds s r) var n a t → LeadsAlike (NextBlock program layouts (with_rounds s q) var n a) t
  next_block r q var n a t (NextBlock.negative negative) = (with_rounds s q, NextBlock.negative negative, refl)
  next_block r q var n a t (NextBlock.too_large number large) = (with_rounds s q, NextBlock.too_large number large, refl)
  next_block r q var n a t (NextBlock.binds {answer} {t = u} number small next) =
      let moved = binds r q var _ _ answer u next in
      (moved.0, NextBlock.binds number small moved.1, moved.2)

  -- ---- set and get

  next_set : (r q : ℕ) (path : Route) (value : Given) (a : Answer) (t : State) → NextSet program (with_rounds s r) path value a t → LeadsAlike (NextSet program (with_rounds s q) path value a) t
  next_set r q path value a t (NextSet.unbound none) = (with_rounds s q, NextSet.unbound (unbound r q none), refl)
  next_set r q path value a t (NextSet.refused bound path_refused) = (with_rounds s q, NextSet.refused (λ none. bound (unbound q r none)) (refuses_path r q path_refused), refl)
  next_set r q path value a t (NextSet.value_refused bound way not) = (with_rounds s q, NextSet.value_refused (λ none. bound (unbound q r none)) (leads r q way) (refuses_value r q not), refl)
  next_set r q path value a t (NextSet.shape bound way good stands leaf never) = (
    with_rounds s q,
    NextSet.shape (λ none. bound (unbound q r none)) (leads r q way) (λ why not. good why (refuses_value q r not)) stands leaf
        (λ u writes. never (with_rounds u r) (writes.0, writes.1, ap (λ x. with_rounds x r) writes.2)),
    refl,
  )
  next_set r q path value a t (NextSet.writes {u} bound way good stands leaf writes) = (
    with_rounds u q,
    NextSet.writes (λ none. bound (unbound q r none)) (leads r q way) (λ why not. good why (refuses_value q r not)) stands leaf (writes.0, writes.1, ap (λ x. with_rounds x q) writes.2),
    refl,
  )

  answers : (r q : ℕ) (var : List ℕ) (got : Got) (a : Answer) (t : State) → Answers (with_rounds s r) var got a t → LeadsAlike (Answers (with_rounds s q) var got a) t
  answers r q var got a t Answers.a_number = (with_rounds s q, Answers.a_number, refl)
  answers r q var got a t Answers.a_null = (with_rounds s q, Answers.a_null, refl)
  answers r q var got a t (Answers.too_many full) = (with_rounds s q, Answers.too_many full, refl)
  answers r q var got a t (Answers.an_object {id} free) = (record (with_rounds s q) { variables = with_variable s.variables var id }, Answers.an_object free, refl)

  next_get : (r q : ℕ) (var : List ℕ) (path : Route) (a : Answer) (t : State) → NextGet program (with_rounds s r) var path a t → LeadsAlike (NextGet program (with_rounds s q) var path a) t
  next_get r q var path a t (NextGet.refused not) = (with_rounds s q, NextGet.refused (refuses_path r q not), refl)
  next_get r q var path a t (NextGet.no_leaf way stands none) = (with_rounds s q, NextGet.no_leaf (leads r q way) stands none, refl)
  next_get r q var path a t (NextGet.reads {got} {answer} {t = u} way stands reads gives) =
      let moved = answers r q var got answer u gives in
      (moved.0, NextGet.reads (leads r q way) stands reads moved.1, moved.2)

  -- ---- drop, print and heap

  next_drop : (r q : ℕ) (var : List ℕ) (a : Answer) (t : State) → NextDrop (with_rounds s r) var a t → LeadsAlike (NextDrop (with_rounds s q) var a) t
  next_drop r q var a t (NextDrop.unbound none) = (with_rounds s q, NextDrop.unbound none, refl)
  next_drop r q var a t (NextDrop.drops bound) = (record (with_rounds s q) { variables = without_variable s.variables var }, NextDrop.drops bound, refl)

  next_print : (r q : ℕ) (path : Route) (a : Answer) (t : State) → NextPrint program (with_rounds s r) path a t → LeadsAlike (NextPrint program (with_rounds s q) path a) t
  next_print r q path a t (NextPrint.refused not) = (with_rounds s q, NextPrint.refused (refuses_path r q not), refl)
  next_print r q path a t (NextPrint.shows way stands shows) = (with_rounds s q, NextPrint.shows (leads r q way) stands shows, refl)

  next_heap : (r q : ℕ) (a : Answer) (t : State) → NextHeap (with_rounds s r) a t → LeadsAlike (NextHeap (with_rounds s q) a) t
  next_heap r q a t NextHeap.reports = (with_rounds s q, NextHeap.reports, refl)

  next_tables : (r q : ℕ) (a : Answer) (t : State) → NextTables program layouts (with_rounds s r) a t → LeadsAlike (NextTables program layouts (with_rounds s q) a) t
  next_tables r q a t (NextTables.lists is) = (with_rounds s q, NextTables.lists is, refl)

  -- ---- caches

  refuses_member : (r q : ℕ) {name : List ℕ} {type : TypeId} {why : Why} → RefusesMember (with_rounds s r) name type why → RefusesMember (with_rounds s q) name type why
  refuses_member r q (RefusesMember.unbound none) = RefusesMember.unbound none
  refuses_member r q (RefusesMember.other bound not) = RefusesMember.other bound not

  member : (r q : ℕ) {name : List ℕ} {type : TypeId} {id : ℕ} → IsMember (with_rounds s r) name type id → IsMember (with_rounds s q) name type id
  member r q is = record { bound = is.bound; single = is.single }

  cache_at : (r q : ℕ) {name : List ℕ} {place : ℕ} {cache : Cache} {pairs : List (ℕ × ℕ)} → IsCacheAt program (with_rounds s r) name place cache pairs → IsCacheAt program (with_rounds s q) name place cache pairs
  cache_at r q is = record { at = is.at; declared = is.declared; held = is.held }

  next_put : (r q : ℕ) (name key value : List ℕ) (a : Answer) (t : State) → NextPut program (with_rounds s r) name key value a t → LeadsAlike (NextPut program (with_rounds s q) name key value a) t
  next_put r q name key value a t (NextPut.no_cache none) = (with_rounds s q, NextPut.no_cache none, refl)
  next_put r q name key value a t (NextPut.key_refused cache not) = (with_rounds s q, NextPut.key_refused (cache_at r q cache) (refuses_member r q not), refl)
  next_put r q name key value a t (NextPut.value_refused cache k not) = (with_rounds s q, NextPut.value_refused (cache_at r q cache) (member r q k) (refuses_member r q not), refl)
  next_put r q name key value a t (NextPut.too_large cache k v none many) = (with_rounds s q, NextPut.too_large (cache_at r q cache) (member r q k) (member r q v) none many, refl)
  next_put r q name key value a t (NextPut.replaces cache k v has) = (_, NextPut.replaces (cache_at r q cache) (member r q k) (member r q v) has, refl)
  next_put r q name key value a t (NextPut.adds cache k v none few) = (_, NextPut.adds (cache_at r q cache) (member r q k) (member r q v) none few, refl)

  next_find : (r q : ℕ) (name key : List ℕ) (a : Answer) (t : State) → NextFind program (with_rounds s r) name key a t → LeadsAlike (NextFind program (with_rounds s q) name key a) t
  next_find r q name key a t (NextFind.no_cache none) = (with_rounds s q, NextFind.no_cache none, refl)
  next_find r q name key a t (NextFind.key_refused cache not) = (with_rounds s q, NextFind.key_refused (cache_at r q cache) (refuses_member r q not), refl)
  next_find r q name key a t (NextFind.finds cache k has) = (with_rounds s q, NextFind.finds (cache_at r q cache) (member r q k) has, refl)
  next_find r q name key a t (NextFind.finds_none cache k none) = (with_rounds s q, NextFind.finds_none (cache_at r q cache) (member r q k) none, refl)

  -- ---- collections

  collects : (r q : ℕ) {kept freed dropped : ℕ} {t : State} → Collects program (with_rounds s r) kept freed dropped t → Collects program (with_rounds s q) kept freed dropped t
  collects r q is = record {
    heap = is.heap;
    kept_count = is.kept_count;
    freed_count = is.freed_count;
    dropped_count = is.dropped_count;
    variables = is.variables;
    rounds = is.rounds;
    rest = is.rest;
  }

  next_force : (r q : ℕ) (a : Answer) (t : State) → NextForce program (with_rounds s r) a t → LeadsAlike (NextForce program (with_rounds s q) a) t
  next_force r q a t (NextForce.collects {t = u} is) = (u, NextForce.collects (collects r q is), refl)

  next_collect : (r q : ℕ) (a : Answer) (t : State) → NextCollect program (with_rounds s r) a t → LeadsAlike (NextCollect program (with_rounds s q) a) t
  next_collect r q a t (NextCollect.skips less) = (with_rounds s q, NextCollect.skips less, refl)
  next_collect r q a t (NextCollect.collects {answer} {t = u} least next) =
      let moved = next_force r q answer u next in
      (moved.0, NextCollect.collects least moved.1, moved.2)

  -- ---- all commands

  -- the command asks for the rounds
  abbrev pub asks_rounds : Command → Bool
  asks_rounds command.Stats = true
  asks_rounds c = false

  pub moved : (r q : ℕ) (c : Command) → asks_rounds c ≡ false → (a : Answer) (t : State) → Next program layouts (with_rounds s r) c a t → LeadsAlike (Next program layouts (with_rounds s q) c a) t
  moved r q (command.New var type n) plain a t next = next_new r q var type n a t next
  moved r q (command.Array var type n) plain a t next = next_array r q var type n a t next
  moved r q (command.Text var bytes) plain a t next = next_text r q var bytes a t next
  moved r q (command.Block var n) plain a t next = next_block r q var n a t next
  moved r q (command.Set path value) plain a t next = next_set r q path value a t next
  moved r q (command.Get var path) plain a t next = next_get r q var path a t next
  moved r q (command.Drop var) plain a t next = next_drop r q var a t next
  moved r q (command.Print path) plain a t next = next_print r q path a t next
  moved r q (command.Put cache key value) plain a t next = next_put r q cache key value a t next
  moved r q (command.Find cache key) plain a t next = next_find r q cache key a t next
  moved r q command.Collect plain a t next = next_collect r q a t next
  moved r q command.CollectForce plain a t next = next_force r q a t next
  moved r q command.Heap plain a t next = next_heap r q a t next
  moved r q command.Stats plain a t next = absurd (cc)
  moved r q command.Tables plain a t next = next_tables r q a t next
  moved r q c plain a t next = absurd next
