-- Where no block is marked, marking can begin at any objects.
use Rattle.std.proofs.Common.{◌≡◌, ◌∙◌, ℕ, List, None, is_some, sym, ap, subst}
use Rattle.std.specs.Prelude.{Contains, All, IfSome}
use Rattle.std.proofs.lemmas.Bool.{false≢true}
use Rattle.std.proofs.lemmas.List.Elements.{All-contains}
use Rattle.gt_types.specs.declared.program.Program.{Program}
use Rattle.gt_space.specs.Range.{Range}
use Rattle.gt_pages.specs.Slots.{Slot, StartsSome}
use Rattle.gt_graph.specs.Objects.{Graph}
use Rattle.gt_walk.specs.declared.tables.Tables.{Tables}
use Rattle.gt_mark.specs.Reached.{CanMark, IsMarkedAt, IsOwn, NamesBlock}
use Rattle.gt_mark.proofs.Going.{all_from}
use Rattle.gt_tracing.specs.Traces.{Traces}
use Rattle.gt_tracing.specs.Laws.{CanBeMarked, NoneIsMarked, AreObjects}
use Rattle.gt_tracing.proofs.Blocks.{walks, edges_at, start_of, reached_object}

-- no block is marked
pub no_mark : (slots : List Slot) (s : Slot) → NoneIsMarked slots → Contains slots s → s.mark ≡ None
no_mark slots s none has = All-contains (λ x. x.mark ≡ None) slots s none has

pub not_marked : (slots : List Slot) (a : ℕ) → NoneIsMarked slots → ¬ IsMarkedAt slots a
not_marked slots a none at = false≢true (sym (ap is_some (no_mark slots at.0 none at.1)) ∙ at.3)

module _ (program : Program) (tables : Tables) (space : Range) (slots : List Slot) (g : Graph) (t : Traces program tables space slots g) where
  starts_are : (starts : List ℕ) → AreObjects g.objects starts → (a : ℕ) → Contains starts a → StartsSome slots a
  starts_are starts objects a has =
      let found = objects a has in
      subst (StartsSome slots) found.2 (start_of program tables space slots g t found.0 found.1)

  pub can_mark : (starts : List ℕ) → NoneIsMarked slots → AreObjects g.objects starts → CanMark tables space (walks program tables space slots g t) slots starts
  can_mark starts none objects = record {
    marks = λ s has. subst (λ m. IfSome m (IsOwn (walks program tables space slots g t) s.address)) (sym (no_mark slots s none has)) tt;
    closed = λ from to at leads. absurd (not_marked slots from none at);
    starts_block = all_from (StartsSome slots) starts (starts_are starts objects);
    edges = λ a reached unmarked.
        let found = reached_object program tables space slots g t reached.0 a reached.2 (objects reached.0 reached.1) in
        subst (λ b. All (NamesBlock slots (walks program tables space slots g t)) (edges_at program tables space slots g t b)) found.2 (t.names found.0 found.1);
  }

pub can_be_marked : CanBeMarked
can_be_marked program tables space slots g starts t none objects = can_mark program tables space slots g t starts none objects
