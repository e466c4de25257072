-- Drop, heap, stats and tables have one answer and one next state.
use Rattle.std.proofs.Common.{◌≡◌, ℕ, Bool, true, List, get_or, refl, ap, sym, ◌∙◌, arith, ext_get_or}
use Rattle.std.proofs.lemmas.Bool.Decides.{same_from_decides}
use Rattle.std.proofs.lemmas.Option.{slice_get-get_or}
use Rattle.gt_types.specs.declared.program.Program.{Program}
use Rattle.gt_layout.specs.declared.planes.Layouts.{Layouts}
use Rattle.gt_listing.specs.Listing.{AreTails, listing}
use Rattle.gt_script.specs.declared.command.Route.{Route}
use Rattle.gt_next.specs.declared.answer.Answer.{Answer}
use Rattle.gt_next.specs.declared.answer.Answer.TheVariants.{Tables}
use Rattle.gt_next.specs.States.{State}
use Rattle.gt_next.specs.Collecting.{NextStats}
use Rattle.gt_next.specs.Next.{NextDrop, NextHeap, NextPrint, NextTables}

pub drop-one : (s : State) (var : List ℕ) (t u : State) (a b : Answer) → NextDrop s var a t → NextDrop s var b u → (a ≡ b) × (t ≡ u)
drop-one s var t u a b (NextDrop.unbound e) (NextDrop.unbound h) = (refl, refl)
drop-one s var t u a b (NextDrop.unbound e) (NextDrop.drops h) = absurd (cc)
drop-one s var t u a b (NextDrop.drops e) (NextDrop.unbound h) = absurd (cc)
drop-one s var t u a b (NextDrop.drops e) (NextDrop.drops h) = (refl, refl)

pub heap-one : (s t u : State) (a b : Answer) → NextHeap s a t → NextHeap s b u → (a ≡ b) × (t ≡ u)
heap-one s t u a b NextHeap.reports NextHeap.reports = (refl, refl)

pub stats-one : (s t u : State) (a b : Answer) → NextStats s a t → NextStats s b u → (a ≡ b) × (t ≡ u)
stats-one s t u a b NextStats.reports NextStats.reports = (refl, refl)

-- a structure is of a tail type or is not, so that the marks are one list
tails-one : (program : Program) (tails marks : List Bool) → AreTails program tails → AreTails program marks → tails ≡ marks
tails-one program tails marks a b =
    ext_get_or true tails marks (a.all ∙ sym b.all) (λ k lt.
    same_from_decides (get_or tails k true) (get_or marks k true) (a.each k (get_or tails k true) (slice_get-get_or tails k true lt))
    (b.each k (get_or marks k true) (slice_get-get_or marks k true (omega (arith, a.all, b.all, lt)))))

pub tables-one : (program : Program) (layouts : Layouts) (s t u : State) (a b : Answer) → NextTables program layouts s a t → NextTables program layouts s b u → (a ≡ b) × (t ≡ u)
tables-one program layouts s t u a b (NextTables.lists (tails, are, e)) (NextTables.lists (marks, same, h)) =
    (ap Tables (e ∙ ap (listing program layouts) (tails-one program tails marks are same) ∙ sym h), refl)

-- ---- states that stay as they are

pub print-kept : (program : Program) (s : State) (path : Route) (t : State) (a : Answer) → NextPrint program s path a t → t ≡ s
print-kept program s path t a (NextPrint.refused r) = refl
print-kept program s path t a (NextPrint.shows l st sh) = refl

pub heap-kept : (s t : State) (a : Answer) → NextHeap s a t → t ≡ s
heap-kept s t a NextHeap.reports = refl

pub stats-kept : (s t : State) (a : Answer) → NextStats s a t → t ≡ s
stats-kept s t a NextStats.reports = refl

pub tables-kept : (program : Program) (layouts : Layouts) (s t : State) (a : Answer) → NextTables program layouts s a t → t ≡ s
tables-kept program layouts s t a (NextTables.lists is) = refl
