-- A refusal changes nothing: command by command.
use Rattle.std.proofs.Common.{◌≡◌, ℕ, List, refl, Option}
use Rattle.std.specs.Prelude.{ℤ}
use Rattle.gt_types.specs.declared.program.Program.{Program}
use Rattle.gt_layout.specs.declared.planes.Layouts.{Layouts}
use Rattle.gt_script.specs.declared.command.Command.{Command}
use Rattle.gt_script.specs.declared.command.Command.TheVariants as command
use Rattle.gt_script.specs.declared.command.Given.{Given}
use Rattle.gt_script.specs.declared.command.Route.{Route}
use Rattle.gt_script.specs.declared.command.TypeName.{TypeName}
use Rattle.gt_next.specs.declared.answer.Answer.TheVariants.{Refused}
use Rattle.gt_next.specs.declared.answer.Why.{Why}
use Rattle.gt_next.specs.States.{State}
use Rattle.gt_next.specs.Making.{Wanted, Contents, Binds, NextNew, NextArray, NextText, NextBlock}
use Rattle.gt_next.specs.Caching.{NextPut, NextFind}
use Rattle.gt_next.specs.Collecting.{NextCollect, NextForce, NextStats}
use Rattle.gt_next.specs.Leaves.{Got}
use Rattle.gt_next.specs.Next.{Next, NextSet, Answers, NextGet, NextDrop, NextPrint, NextHeap, NextTables}

module _ {program : Program} {layouts : Layouts} {s : State} where
  -- ---- blocks that are made

  binds : {why : Why} {t : State} {var : List ℕ} {w : Wanted} {contents : Contents} → Binds program layouts s var w contents (Refused why) t → t ≡ s
  binds (Binds.too_many full) = refl
  binds (Binds.full free needs rounds none) = refl

  new : {why : Why} {t : State} {var : List ℕ} {type : TypeName} {n : Option ℤ} → NextNew program layouts s var type n (Refused why) t → t ≡ s
  new (NextNew.no_type none) = refl
  new (NextNew.negative names is less) = refl
  new (NextNew.too_large names not capacity large) = refl
  new (NextNew.shape names not capacity small shape) = refl
  new (NextNew.binds names not capacity small good makes) = binds makes

  array : {why : Why} {t : State} {var : List ℕ} {type : TypeName} {n : ℤ} → NextArray program layouts s var type n (Refused why) t → t ≡ s
  array (NextArray.no_type none) = refl
  array (NextArray.negative kind less) = refl
  array (NextArray.tails kind not tails) = refl
  array (NextArray.too_large kind is not large) = refl
  array (NextArray.binds kind is not small makes) = binds makes

  string : {why : Why} {t : State} {var bytes : List ℕ} → NextText program layouts s var bytes (Refused why) t → t ≡ s
  string (NextText.too_large large) = refl
  string (NextText.binds small makes) = binds makes

  block : {why : Why} {t : State} {var : List ℕ} {n : ℤ} → NextBlock program layouts s var n (Refused why) t → t ≡ s
  block (NextBlock.negative less) = refl
  block (NextBlock.too_large is large) = refl
  block (NextBlock.binds is small makes) = binds makes

module _ {s : State} where
  -- ---- variables and numbers

  answers : {why : Why} {t : State} {var : List ℕ} {got : Got} → Answers s var got (Refused why) t → t ≡ s
  answers (Answers.too_many full) = refl

  drop : {why : Why} {t : State} {var : List ℕ} → NextDrop s var (Refused why) t → t ≡ s
  drop (NextDrop.unbound none) = refl

  heap : {why : Why} {t : State} → NextHeap s (Refused why) t → t ≡ s
  heap next = elim next [ ]

  stats : {why : Why} {t : State} → NextStats s (Refused why) t → t ≡ s
  stats next = elim next [ ]

module _ {program : Program} {s : State} where
  tables : {why : Why} {t : State} (layouts : Layouts) → NextTables program layouts s (Refused why) t → t ≡ s
  tables layouts next = elim next [ ]

  -- ---- leaves and variables

  set : {why : Why} {t : State} {path : Route} {value : Given} → NextSet program s path value (Refused why) t → t ≡ s
  set (NextSet.unbound none) = refl
  set (NextSet.refused bound path) = refl
  set (NextSet.value_refused bound leads value) = refl
  set (NextSet.shape bound leads good stands leaf none) = refl

  get : {why : Why} {t : State} {var : List ℕ} {path : Route} → NextGet program s var path (Refused why) t → t ≡ s
  get (NextGet.refused path) = refl
  get (NextGet.no_leaf leads stands none) = refl
  get (NextGet.reads leads stands reads answer) = answers answer

  print : {why : Why} {t : State} {path : Route} → NextPrint program s path (Refused why) t → t ≡ s
  print (NextPrint.refused path) = refl

  -- ---- caches

  put : {why : Why} {t : State} {name key value : List ℕ} → NextPut program s name key value (Refused why) t → t ≡ s
  put (NextPut.no_cache none) = refl
  put (NextPut.key_refused at key) = refl
  put (NextPut.value_refused at key value) = refl
  put (NextPut.too_large at key value none many) = refl

  find : {why : Why} {t : State} {name key : List ℕ} → NextFind program s name key (Refused why) t → t ≡ s
  find (NextFind.no_cache none) = refl
  find (NextFind.key_refused at key) = refl

  -- ---- answers that are never refusals

  force : {why : Why} {t : State} → NextForce program s (Refused why) t → t ≡ s
  force next = elim next [ ]

  collect : {why : Why} {t : State} → NextCollect program s (Refused why) t → t ≡ s
  collect (NextCollect.collects grown next) = force next

-- ---- all commands

pub unchanged : (program : Program) (layouts : Layouts) (s t : State) (why : Why) (c : Command) → Next program layouts s c (Refused why) t → t ≡ s
unchanged program layouts s t why (command.New var type n) next = new next
unchanged program layouts s t why (command.Array var type n) next = array next
unchanged program layouts s t why (command.Text var bytes) next = string next
unchanged program layouts s t why (command.Block var n) next = block next
unchanged program layouts s t why (command.Set path value) next = set next
unchanged program layouts s t why (command.Get var path) next = get next
unchanged program layouts s t why (command.Drop var) next = drop next
unchanged program layouts s t why (command.Print path) next = print next
unchanged program layouts s t why (command.Put cache key value) next = put next
unchanged program layouts s t why (command.Find cache key) next = find next
unchanged program layouts s t why command.Collect next = collect next
unchanged program layouts s t why command.CollectForce next = force next
unchanged program layouts s t why command.Heap next = heap next
unchanged program layouts s t why command.Stats next = stats next
unchanged program layouts s t why command.Tables next = tables layouts next
unchanged program layouts s t why c next = absurd next
