-- The last steps of the commands that make blocks.
use Rattle.std.proofs.Common.{◌≡◌, ℕ, suc, List, length, Option, Some, Result, Ok, Err, refl, sym, ap, subst, ◌∙◌}
use Rattle.std.specs.Prelude.{IfOk, OnErr}
use Rattle.std.specs.declared.alloc.AllocError.{AllocError}
use Rattle.std.proofs.lemmas.Result.{IfOk-weaker, on_err_weaker}
use Rattle.gt_types.specs.declared.program.Program.{Program}
use Rattle.gt_types.specs.Settled.{Settled}
use Rattle.gt_layout.specs.declared.planes.Layouts.{Layouts}
use Rattle.gt_layout.specs.Planes.{IsLaidOut}
use Rattle.gt_layout.specs.Excess.{IsWithin}
use Rattle.gt_tree.specs.Trees.{Tree}
use Rattle.gt_tree.specs.Blocks.{Chars}
use Rattle.gt_tree.specs.FixedLaws.{MayHold}
use Rattle.gt_value.specs.Names.{kind_of}
use Rattle.gt_pages.specs.Ledger.{Room, rounded}
use Rattle.gt_graph.specs.Objects.{Graph, Object}
use Rattle.gt_graph.specs.Places.{Needs, ledger_of}
use Rattle.gt_graph.specs.Good.{Heap, IsOfTails}
use Rattle.gt_held.specs.Zeros.{HasZero}
use Rattle.gt_objects.specs.declared.objects.Known.{Known}
use Rattle.gt_objects.specs.declared.objects.Objects.{Objects}
use Rattle.gt_objects.specs.declared.making.Made.{Made as MadeBlock}
use Rattle.gt_objects.specs.declared.making.MakeFail.{MakeFail}
use Rattle.gt_objects.specs.declared.making.MakeFail.TheVariants as fail
use Rattle.gt_objects.specs.Holding.{IsHeapOf}
use Rattle.gt_objects.specs.Making.{HasSize, IsZeroObject, IsMade, known_text, named, placed, text_object, with_object}
use Rattle.gt_io.specs.Held.{Held}
use Rattle.gt_next.specs.declared.answer.Answer.{Answer}
use Rattle.gt_next.specs.declared.answer.Answer.TheVariants.{Made, Refused}
use Rattle.gt_next.specs.declared.answer.Why.TheVariants.{Full, TooManyVars}
use Rattle.gt_next.specs.States.{State, Variables, meaning, with_variable, IsFullOfVariables}
use Rattle.gt_next.specs.Making.{Binds, Contents, Wanted, text, wanted, zeros}
use Rattle.gt_session.specs.declared.session.Session.{Session}
use Rattle.gt_session.specs.Sessions.{Holds, IsAsBefore, KeepsBytes, StandsFor}
use Rattle.gt_making.specs.Binding.{BindsIn, CanBeZero, Ends, TakesBack, wanted_of}
use Rattle.gt_making.proofs.BoundNames.{bound-twice}

-- the zero object of which this is known, under whatever name
abbrev pub zero_of : Known → Tree → Object
zero_of known value = record { id = 0; kind = kind_of known.kind; count = known.count; capacity = known.capacity; value = value }

module _ (program : Program) (g : Graph) (known : Known) (may : MayHold program (kind_of known.kind)) (single : IsOfTails program (kind_of known.kind) → known.count ≡ 1)
    (no_room : ¬ IsOfTails program (kind_of known.kind) → known.capacity ≡ 0) where
  pub zero-object : (zero : HasZero program g (kind_of known.kind) known.count known.capacity) → IsZeroObject program g known (zero_of known zero.0)
  zero-object zero = record {
    object = record { may_hold = may; single_tail = single; no_room = no_room; fits = zero.1.fits };
    zero = zero.1.zero;
    is_known = record { kind = refl; count = refl; capacity = refl };
  }

-- a session with other objects and variables holds the state with this heap and these variables
pub holds-with : (old : Session) (told : Option Held) (s : State) → Holds old told s → (objects : Objects) (heap : Heap) → IsHeapOf old.schema.program old.schema.layouts objects heap
    → heap.graph.pairs ≡ s.heap.graph.pairs → (v w : Variables) → v ≡ w → Holds (record old { objects = objects; vars = w }) told (record s { heap = heap; variables = v })
holds-with old told s holds objects heap is pairs v w same = record {
  schema = holds.schema;
  heap = is;
  pairs = pairs ∙ holds.pairs;
  variables = same;
  min_expand = holds.min_expand;
  min_heapsize = holds.min_heapsize;
  last = holds.last;
  rounds = holds.rounds;
  files = holds.files;
}

-- ---- one more object

-- an object of what is wanted
abbrev pub IsWanted : Wanted → Object → Type 0
IsWanted w o = (o.kind ≡ w.kind) × (o.count ≡ w.count) × (o.capacity ≡ w.capacity)

-- What was asked for is made, whatever state the session stands for; or there is no room for its size, or no memory, and all is as before.
pub record MakesOne (old : Session) (w : Wanted) (contents : State → Contents) (made : Result MadeBlock MakeFail) (objects : Objects) : Type 0 where
  pub is_made : IfOk made (λ m. (told : Option Held) (s : State) → StandsFor old told s
      → (o : Object) × IsWanted w o × contents s o.value × IsMade old.schema.program old.schema.layouts s.heap o m.addr m.size objects)
  pub size : (need : ℕ) → made ≡ Err (fail.Full need) → (bytes : ℕ) × Needs old.schema.program old.schema.layouts w.kind w.count w.capacity bytes × (rounded bytes ≡ Some need)
  pub full : (need : ℕ) → made ≡ Err (fail.Full need) → (heap : Heap) → IsHeapOf old.schema.program old.schema.layouts old.objects heap → ¬ Room (ledger_of heap.places) need
  pub unchanged : OnErr made ((heap : Heap) → IsHeapOf old.schema.program old.schema.layouts old.objects heap → IsHeapOf old.schema.program old.schema.layouts objects heap)
  pub bytes : OnErr made (objects.space ≡ old.objects.space)

module _ (old : Session) (objects : Objects) (made : Result MadeBlock MakeFail) where
  -- a zero object
  pub makes-zeros : (known : Known) → MayHold old.schema.program (kind_of known.kind) → (IsOfTails old.schema.program (kind_of known.kind) → known.count ≡ 1)
      → (¬ IsOfTails old.schema.program (kind_of known.kind) → known.capacity ≡ 0) → CanBeZero old known
      → IfOk made (λ m. (heap : Heap) (o : Object) → IsHeapOf old.schema.program old.schema.layouts old.objects heap → IsZeroObject old.schema.program heap.graph known o
      → IsMade old.schema.program old.schema.layouts heap o m.addr m.size objects)
      → ((need : ℕ) → made ≡ Err (fail.Full need) → HasSize old.schema.program old.schema.layouts known need)
      → ((need : ℕ) → made ≡ Err (fail.Full need) → (heap : Heap) → IsHeapOf old.schema.program old.schema.layouts old.objects heap → ¬ Room (ledger_of heap.places) need)
      → OnErr made ((heap : Heap) → IsHeapOf old.schema.program old.schema.layouts old.objects heap → IsHeapOf old.schema.program old.schema.layouts objects heap)
      → OnErr made (objects.space ≡ old.objects.space) → MakesOne old (wanted_of known) (λ state. zeros old.schema.program state (wanted_of known)) made objects
  makes-zeros known may single no_room zero makes size full unchanged bytes = record {
    is_made = IfOk-weaker made _ _
        (λ m makes told s stands.
        let value = zero told s stands in (
          zero_of known value.0,
          (refl, refl, refl),
          value.1,
          makes s.heap (zero_of known value.0) stands.holds.heap (zero-object old.schema.program s.heap.graph known may single no_room value),
        ))
        makes;
    size = size;
    full = full;
    unchanged = unchanged;
    bytes = bytes;
  }

  -- the characters of a text
  pub makes-text : (bytes : List ℕ)
      → IfOk made (λ m. (program : Program) (layouts : Layouts) (heap : Heap) → Settled program → IsLaidOut program layouts → IsWithin program layouts → IsHeapOf program layouts old.objects heap
      → IsMade program layouts heap (text_object bytes) m.addr m.size objects)
      → ((need : ℕ) → made ≡ Err (fail.Full need) → (program : Program) (layouts : Layouts) → HasSize program layouts (known_text bytes) need)
      → ((need : ℕ) → made ≡ Err (fail.Full need) → (program : Program) (layouts : Layouts) (heap : Heap) → IsHeapOf program layouts old.objects heap → ¬ Room (ledger_of heap.places) need)
      → OnErr made ((program : Program) (layouts : Layouts) (heap : Heap) → IsHeapOf program layouts old.objects heap → IsHeapOf program layouts objects heap)
      → OnErr made (objects.space ≡ old.objects.space) → MakesOne old (wanted Chars (suc (length bytes)) 0) (λ state. text bytes) made objects
  makes-text bytes makes size full unchanged same = record {
    is_made = IfOk-weaker made _ _
        (λ m makes told s stands. (
          text_object bytes,
          (refl, refl, refl),
          refl,
          makes old.schema.program old.schema.layouts s.heap stands.holds.schema.settled stands.holds.schema.laid stands.holds.schema.within stands.holds.heap,
        ))
        makes;
    size = λ need e. size need e old.schema.program old.schema.layouts;
    full = λ need e. full need e old.schema.program old.schema.layouts;
    unchanged = on_err_weaker made (λ still. still old.schema.program old.schema.layouts) unchanged;
    bytes = same;
  }

-- ---- the end of a command

-- by what was answered
module _ (old : Session) (var : List ℕ) (before : Option ℕ) (made : Result MadeBlock MakeFail) (vars : Variables) where
  pub ends-made : (m : MadeBlock) → made ≡ Ok m → vars ≡ with_variable old.vars var m.addr → Ends old var before made (record old { vars = vars }) (Ok (Made m.addr m.size))
  ends-made m e same =
      subst (λ r. Ends old var before r (record old { vars = vars }) (Ok (Made m.addr m.size))) (sym e)
      (subst (λ v. Ends old var before (Ok m) (record old { vars = v }) (Ok (Made m.addr m.size))) (sym same) Ends.made)

  pub ends-full : (reason : MakeFail) (need : ℕ) → made ≡ Err reason → reason ≡ fail.Full need → TakesBack old.vars var before vars
      → Ends old var before made (record old { vars = vars }) (Ok (Refused (Full need)))
  ends-full reason need e is takes = subst (λ r. Ends old var before r (record old { vars = vars }) (Ok (Refused (Full need)))) (sym (e ∙ ap Err is)) (Ends.full takes)

  pub ends-memory : (reason : MakeFail) (e : AllocError) → made ≡ Err reason → reason ≡ fail.Memory → TakesBack old.vars var before vars → Ends old var before made (record old { vars = vars }) (Err e)
  ends-memory reason e failed is takes = subst (λ r. Ends old var before r (record old { vars = vars }) (Err e)) (sym (failed ∙ ap Err is)) (Ends.memory takes)

-- what is promised of a command that asks for one object
pub record IsEnd (old : Session) (var : List ℕ) (w : Wanted) (contents : State → Contents) (new : Session) (result : Result Answer AllocError) : Type 0 where
  pub binds : IfOk result (BindsIn old new var w contents)
  pub refused : IfOk result (λ answer. KeepsBytes answer old new)
  pub unchanged : OnErr result (IsAsBefore old new)
  pub space : OnErr result (new.objects.space ≡ old.objects.space)
  pub schema : new.schema ≡ old.schema

module _ (old : Session) (var : List ℕ) (w : Wanted) (contents : State → Contents) where
  pub too-many : IsFullOfVariables old.vars var → BindsIn old old var w contents (Refused TooManyVars)
  too-many full told s stands = (s, Binds.too_many (subst (λ v. IsFullOfVariables v var) (sym stands.holds.variables) full), stands.holds)

  module _ (few : ¬ IsFullOfVariables old.vars var) (objects : Objects) (vars : Variables) (bound : vars ≡ with_variable old.vars var 0) (before : Option ℕ) (meant : before ≡ meaning old.vars var) where
    abbrev pub mid : Session
    mid = record old { objects = objects; vars = vars }

    few-held : (told : Option Held) (s : State) → StandsFor old told s → ¬ IsFullOfVariables s.variables var
    few-held told s stands full = few (subst (λ v. IsFullOfVariables v var) stands.holds.variables full)

    -- where nothing was made the session holds what it did
    holds-still : ((heap : Heap) → IsHeapOf old.schema.program old.schema.layouts old.objects heap → IsHeapOf old.schema.program old.schema.layouts objects heap) → (back : Variables)
        → TakesBack vars var before back → (told : Option Held) (s : State) → Holds old told s → Holds (record old { objects = objects; vars = back }) told s
    holds-still still back takes told s holds = holds-with old told s holds objects s.heap (still s.heap holds.heap) refl s.variables back (holds.variables ∙ sym (takes old.vars 0 bound meant))

    pub ended : {made : Result MadeBlock MakeFail} {new : Session} {result : Result Answer AllocError} → MakesOne old w contents made objects → Ends mid var before made new result
        → IsEnd old var w contents new result
    ended makes (Ends.made {m}) = record {
      binds = λ told s stands.
          let one = makes.is_made told s stands in
          let heap = with_object s.heap (named m.addr one.0) (placed m.addr m.size) in
          let again = ap (λ v. with_variable v var m.addr) bound ∙ bound-twice old.vars var 0 m.addr in (
            record s { heap = heap; variables = with_variable s.variables var m.addr },
            Binds.made (few-held told s stands) one.1.0 one.1.1 one.1.2 one.2 one.3.makes refl,
            holds-with old told s stands.holds objects heap one.3.holds refl (with_variable s.variables var m.addr) (with_variable vars var m.addr) (ap (λ v. with_variable v var m.addr) stands.holds.variables ∙ sym again),
          );
      refused = tt;
      unchanged = tt;
      space = tt;
      schema = refl;
    }
    ended makes (Ends.full {need} {vars = back} takes) = record {
      binds = λ told s stands.
          let size = makes.size need refl in (
            s,
            Binds.full (few-held told s stands) size.1 size.2 (makes.full need refl s.heap stands.holds.heap),
            holds-still makes.unchanged back takes told s stands.holds,
          );
      refused = makes.bytes;
      unchanged = tt;
      space = tt;
      schema = refl;
    }
    ended makes (Ends.memory {vars = back} takes) = record {
      binds = tt;
      refused = tt;
      unchanged = λ told s stands. record { holds = holds-still makes.unchanged back takes told s stands.holds; good = stands.good };
      space = makes.bytes;
      schema = refl;
    }
