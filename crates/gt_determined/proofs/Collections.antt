-- Collections have one answer, and with it one next state, but for the rounds.
use Rattle.std.proofs.Common.{◌≡◌, ℕ, List, length, refl, ap, sym, subst, ◌∙◌, arith, Option, Some, None, ◌⊎◌, inl, inr}
use Rattle.std.specs.Cmp.Lexicographic.{nat_list_cmp_total}
use Rattle.std.specs.FinMap as fin
use Rattle.gt_types.specs.declared.program.Program.{Program}
use Rattle.gt_layout.specs.declared.planes.Layouts.{Layouts}
use Rattle.gt_graph.specs.Objects.{Object, pairs_in}
use Rattle.gt_graph.specs.Places.{ArePlacesOf, ledger_of}
use Rattle.gt_next.specs.declared.answer.Answer.{Answer}
use Rattle.gt_next.specs.declared.answer.Answer.TheVariants.{Collected}
use Rattle.gt_next.specs.States.{State, Variables, meaning}
use Rattle.gt_next.specs.Texts.{allocated_of}
use Rattle.gt_next.specs.Collecting.{KeepsBound, Collects, NextForce, NextCollect}
use Rattle.gt_next.specs.Laws.{AreOneState}
use Rattle.gt_determined.proofs.Keeping.{heap-one}

option-same : {X : Type 0} (x y : Option X) → ((v : X) → x ≡ Some v → y ≡ Some v) → ((v : X) → y ≡ Some v → x ≡ Some v) → x ≡ y
option-same None None f g = refl
option-same None (Some v) f g = g v refl
option-same (Some v) y f g = sym (f v refl)

variables-one : (objects : List Object) (old new other : Variables) → KeepsBound objects old new → KeepsBound objects old other → new ≡ other
variables-one objects old new other a b =
    fin.same_map nat_list_cmp_total (fin.slice_cmp-IsAntisymmetric fin.nat_cmp-IsAntisymmetric) new other
    (λ name. option-same (meaning new name) (meaning other name) (λ id e. (b name id).1 ((a name id).0 e)) (λ id e. (a name id).1 ((b name id).0 e)))

module _ (program : Program) (layouts : Layouts) (s : State) (laid : ArePlacesOf program layouts s.heap.graph.objects s.heap.places) where
  module _ (k f d l g e : ℕ) (t u : State) (a : Collects program s k f d t) (b : Collects program s l g e u) where
    same-heap : t.heap ≡ u.heap
    same-heap = heap-one program layouts s.heap t.heap u.heap laid a.heap b.heap

    same-kept : k ≡ l
    same-kept = a.kept_count ∙ ap (λ h. length h.graph.objects) same-heap ∙ sym b.kept_count

    collected-one : Collected k f d ≡ Collected l g e
    collected-one =
        let kept = same-kept in
        let freed : f ≡ g = omega (arith, kept, a.freed_count, b.freed_count) in
        let pairs : pairs_in t.heap.graph.pairs ≡ pairs_in u.heap.graph.pairs = ap (λ h. pairs_in h.graph.pairs) same-heap in
        let dropped : d ≡ e = omega (arith, pairs, a.dropped_count, b.dropped_count) in
        ap (λ x. Collected x f d) kept ∙ ap (λ x. Collected l x d) freed ∙ ap (λ x. Collected l g x) dropped

    states-one : AreOneState t u
    states-one =
        let variables : t.variables ≡ u.variables =
        variables-one u.heap.graph.objects s.variables t.variables u.variables (subst (λ h. KeepsBound h.graph.objects s.variables t.variables) same-heap a.variables) b.variables in
        a.rest
        ∙ ap (λ h. let x : State = record s { heap = h; variables = t.variables; last = allocated_of (ledger_of h.places); rounds = t.rounds } in x) same-heap
        ∙ ap (λ v. let x : State = record s { heap = u.heap; variables = v; last = allocated_of (ledger_of u.heap.places); rounds = t.rounds } in x) variables
        ∙ sym (ap (λ y. let x : State = record y { rounds = t.rounds } in x) b.rest)

  pub force-answer : (a b : Answer) (t u : State) → NextForce program s a t → NextForce program s b u → a ≡ b
  force-answer a b t u (NextForce.collects {kept = k} {freed = f} {dropped = d} {t = x} c) (NextForce.collects {kept = l} {freed = g} {dropped = e} {t = y} h) = collected-one k f d l g e x y c h

  pub force-state : (a b : Answer) (t u : State) → NextForce program s a t → NextForce program s b u → AreOneState t u
  force-state a b t u (NextForce.collects {kept = k} {freed = f} {dropped = d} {t = x} c) (NextForce.collects {kept = l} {freed = g} {dropped = e} {t = y} h) = states-one k f d l g e x y c h

  pub collect-answer : (a b : Answer) (t u : State) → NextCollect program s a t → NextCollect program s b u → a ≡ b
  collect-answer a b t u (NextCollect.skips lt) (NextCollect.skips less) = refl
  collect-answer a b t u (NextCollect.skips lt) (NextCollect.collects le next) = absurd (omega (arith, lt, le))
  collect-answer a b t u (NextCollect.collects le next) (NextCollect.skips lt) = absurd (omega (arith, lt, le))
  collect-answer a b t u (NextCollect.collects {answer = x} {t = y} le next) (NextCollect.collects {answer = z} {t = w} more other) = force-answer x z y w next other

  pub collect-state : (a b : Answer) (t u : State) → NextCollect program s a t → NextCollect program s b u → (t ≡ u) ⊎ AreOneState t u
  collect-state a b t u (NextCollect.skips lt) (NextCollect.skips less) = inl refl
  collect-state a b t u (NextCollect.skips lt) (NextCollect.collects le next) = absurd (omega (arith, lt, le))
  collect-state a b t u (NextCollect.collects le next) (NextCollect.skips lt) = absurd (omega (arith, lt, le))
  collect-state a b t u (NextCollect.collects {answer = x} {t = y} le next) (NextCollect.collects {answer = z} {t = w} more other) = inr (force-state x z y w next other)
