-- The commands, by their last steps.
use Rattle.std.proofs.Common.{◌≡◌, ◌≢◌, ℕ, ℤ, List, Result, Ok, Err, refl, sym, subst, pos, negsuc}
use Rattle.std.specs.Prelude.{IfOk}
use Rattle.std.specs.declared.alloc.AllocError.{AllocError}
use Rattle.gt_types.specs.declared.program.Program.{Program}
use Rattle.gt_layout.specs.declared.planes.Layouts.{Layouts}
use Rattle.gt_script.specs.declared.command.Command.{Command}
use Rattle.gt_script.specs.declared.command.TypeName.{TypeName}
use Rattle.gt_tree.specs.Blocks.{Kind, Chars, Raw}
use Rattle.gt_tree.specs.FixedLaws.{MayHold}
use Rattle.gt_graph.specs.Good.{IsOfTails}
use Rattle.gt_determined.specs.Staying.{StaysGoodUncollected}
use Rattle.gt_next.specs.declared.answer.Answer.{Answer}
use Rattle.gt_next.specs.declared.answer.Answer.TheVariants.{Refused}
use Rattle.gt_next.specs.declared.answer.Why.{Why}
use Rattle.gt_next.specs.Kinds.{IsKindOf}
use Rattle.gt_next.specs.Making.{NextArray, NextBlock, IsNegative}
use Rattle.gt_next.specs.Next.{Next}
use Rattle.gt_next.specs.Laws.{IsOfBytes, IsCollection, IsRead}
use Rattle.gt_next.specs.States.{State, IsGoodState}
use Rattle.gt_schema.specs.declared.schema.Schema.{Schema}
use Rattle.gt_session.specs.declared.session.Session.{Session}
use Rattle.gt_session.specs.Sessions.{Goes, IsSession}
use Rattle.gt_making.specs.Binding.{LeavesBy, MakesMany}

-- a refusal leaves the session as it is
pub refuses : (Steps : State → Answer → State → Type 0) (session : Session) (why : Why) → ((s : State) → Steps s (Refused why) s) → LeavesBy Steps session session (Refused why)
refuses Steps session why steps told s stands = (s, steps s, stands.holds)

-- one relation for another
pub leaves-so : (First Then : State → Answer → State → Type 0) (old new : Session) → ((s t : State) (answer : Answer) → First s answer t → Then s answer t)
    → (result : Result Answer AllocError) → IfOk result (LeavesBy First old new) → IfOk result (LeavesBy Then old new)
leaves-so First Then old new so (Ok answer) leaves = λ told s stands. let t = leaves told s stands in (t.0, so s t.0 answer t.1, t.2)
leaves-so First Then old new so (Err e) leaves = tt

-- a good state stays good
pub goes : (c : Command) (Steps : State → Answer → State → Type 0) (old new : Session) → ((s t : State) (answer : Answer) → Steps s answer t → Next old.schema.program old.schema.layouts s c answer t)
    → IsOfBytes c → ¬ IsCollection c → IsSession old → ((program : Program) (layouts : Layouts) → IsRead program layouts → StaysGoodUncollected program layouts) → new.schema ≡ old.schema
    → (result : Result Answer AllocError) → IfOk result (LeavesBy Steps old new) → IfOk result (Goes Steps old new)
goes c Steps old new next bytes quiet is law same (Ok answer) leaves = λ told s stands.
    let t = leaves told s stands in
    let read : IsRead old.schema.program old.schema.layouts = record { settled = stands.holds.schema.settled; laid = stands.holds.schema.laid } in
    let good = law old.schema.program old.schema.layouts read s t.0 c answer stands.good bytes quiet (next s t.0 answer t.1) in
    (t.0, t.1, record { holds = t.2; good = subst (λ (x : Schema). IsGoodState x.program x.layouts t.0) (sym same) good })
goes c Steps old new next bytes quiet is law same (Err e) leaves = tt

-- ---- array and block

module _ (program : Program) (layouts : Layouts) (var : List ℕ) where
  pub as-array : (type : TypeName) (kind : Kind) (n : ℤ) (count : ℕ) → IsKindOf program type kind → n ≡ pos count → ¬ IsOfTails program kind → (s t : State) (answer : Answer)
      → MakesMany program layouts s var kind count answer t → NextArray program layouts s var type n answer t
  as-array type kind n count is e plain s t answer (MakesMany.too_large large) = NextArray.too_large is e plain large
  as-array type kind n count is e plain s t answer (MakesMany.binds small binds) = NextArray.binds is e plain small binds

  pub as-block : (n : ℤ) (count : ℕ) → n ≡ pos count → (s t : State) (answer : Answer) → MakesMany program layouts s var Raw count answer t → NextBlock program layouts s var n answer t
  as-block n count e s t answer (MakesMany.too_large large) = NextBlock.too_large e large
  as-block n count e s t answer (MakesMany.binds small binds) = NextBlock.binds e small binds

pub is-negative : (n : ℤ) → ((k : ℕ) → n ≡ pos k → ⊥) → IsNegative n
is-negative (pos k) never = absurd (never k refl)
is-negative (negsuc k) never = IsNegative.negative

pub not-negative : (n : ℤ) (k : ℕ) → n ≡ pos k → ¬ IsNegative n
not-negative n k e less = none k (subst IsNegative e less)
  where
    none : (k : ℕ) → ¬ IsNegative (pos k)
    none k less = elim less [ ]

-- what elements of a type of a script are may stand in a block, and is no characters
pub kind-may : {program : Program} {type : TypeName} {kind : Kind} → IsKindOf program type kind → MayHold program kind
kind-may (IsKindOf.structures star means may) = may
kind-may (IsKindOf.pointers star other means may) = may
kind-may (IsKindOf.pointers_by_word star word pointer may) = may
kind-may (IsKindOf.strings star name) = tt

pub kind-no-chars : {program : Program} {type : TypeName} {kind : Kind} → IsKindOf program type kind → kind ≢ Chars
kind-no-chars (IsKindOf.structures star means may) e = cc
kind-no-chars (IsKindOf.pointers star other means may) e = cc
kind-no-chars (IsKindOf.pointers_by_word star word pointer may) e = cc
kind-no-chars (IsKindOf.strings star name) e = cc
