-- A block that is made and bound has one answer, but for its address, and with each answer one next state.
use Rattle.std.proofs.Common.{◌≡◌, ℕ, List, refl, ap, sym, subst, ◌∙◌, Some}
use Rattle.gt_types.specs.declared.program.Program.{Program}
use Rattle.gt_types.specs.Settled.{Settled}
use Rattle.gt_layout.specs.declared.planes.Layouts.{Layouts}
use Rattle.gt_layout.specs.Planes.{IsLaidOut}
use Rattle.gt_tree.specs.Trees.{Tree}
use Rattle.gt_tree.specs.FixedLaws.{MayHold}
use Rattle.gt_tree.proofs.PathBits.{some-same}
use Rattle.gt_pages.specs.Ledger.{Room, rounded}
use Rattle.gt_graph.specs.Objects.{Object}
use Rattle.gt_graph.specs.Places.{Placed, Needs, ledger_of}
use Rattle.gt_graph.specs.Changes.{Makes}
use Rattle.gt_graph.specs.Good.{Heap}
use Rattle.gt_next.specs.declared.answer.Answer.{Answer}
use Rattle.gt_next.specs.declared.answer.Answer.TheVariants.{Made, Refused}
use Rattle.gt_next.specs.declared.answer.Why.TheVariants.{Full}
use Rattle.gt_next.specs.States.{State, with_variable}
use Rattle.gt_next.specs.Making.{Wanted, Contents, Binds}
use Rattle.gt_next.specs.Laws.{AreOneAnswer}
use Rattle.gt_determined.proofs.Needs.{needs-one, size-one}
use Rattle.gt_determined.proofs.Made.{place-room, made-size, made-one}

-- two answers are one, but for the address of a new block, and where they are one they leave one state
abbrev pub Alike : Answer → State → Answer → State → Type 0
Alike a t b u = AreOneAnswer a b × (a ≡ b → t ≡ u)

pub alike-same : (a b : Answer) (t u : State) → a ≡ b → t ≡ u → Alike a t b u
alike-same a b t u e h = (subst (λ x. AreOneAnswer a x) e AreOneAnswer.same, λ _. h)

same-address : (a b x y : ℕ) → Made a x ≡ Made b y → a ≡ b
same-address a b x y e = cc

module _ (program : Program) (layouts : Layouts) (settled : Settled program) (laid : IsLaidOut program layouts) (s : State) (var : List ℕ) (w : Wanted) (contents : Contents) (may : MayHold program w.kind)
    (one : (a b : Tree) → contents a → contents b → a ≡ b) where
  -- the size of a block that is made
  new-size : (o : Object) (p : Placed) (t : Heap) (bytes need : ℕ) → o.kind ≡ w.kind → o.count ≡ w.count → o.capacity ≡ w.capacity → Makes program layouts s.heap o p t → Needs program layouts w.kind w.count w.capacity bytes
      → rounded bytes ≡ Some need → p.block.size ≡ need
  new-size o p t bytes need k n c m needs round = size-one program layouts settled laid o w.kind w.count w.capacity p.block.size bytes need may k n c (made-size program layouts s.heap o p t m) needs round

  full-made : (o : Object) (p : Placed) (t : Heap) (bytes need : ℕ) → o.kind ≡ w.kind → o.count ≡ w.count → o.capacity ≡ w.capacity → Makes program layouts s.heap o p t → Needs program layouts w.kind w.count w.capacity bytes
      → rounded bytes ≡ Some need → ¬ Room (ledger_of s.heap.places) need → ⊥
  full-made o p t bytes need k n c m needs round none =
      place-room (ledger_of s.heap.places) p.block m.place (subst (λ x. ¬ Room (ledger_of s.heap.places) x) (sym (new-size o p t bytes need k n c m needs round)) none)

  sizes-same : (o x : Object) (p q : Placed) (t u : Heap) → o.kind ≡ w.kind → o.count ≡ w.count → o.capacity ≡ w.capacity → Makes program layouts s.heap o p t → x.kind ≡ w.kind → x.count ≡ w.count → x.capacity ≡ w.capacity
      → Makes program layouts s.heap x q u → p.block.size ≡ q.block.size
  sizes-same o x p q t u k n c m l d e h =
      let other = made-size program layouts s.heap x q u h in
      size-one program layouts settled laid o x.kind x.count x.capacity p.block.size other.0 q.block.size (subst (λ kind. MayHold program kind) (sym l) may) (k ∙ sym l) (n ∙ sym d) (c ∙ sym e)
      (made-size program layouts s.heap o p t m) other.1 other.2

  made-alike : (o x : Object) (p q : Placed) (t u : State) → o.kind ≡ w.kind → o.count ≡ w.count → o.capacity ≡ w.capacity → contents o.value → Makes program layouts s.heap o p t.heap
      → t ≡ record s { heap = t.heap; variables = with_variable s.variables var o.id } → x.kind ≡ w.kind → x.count ≡ w.count → x.capacity ≡ w.capacity → contents x.value → Makes program layouts s.heap x q u.heap
      → u ≡ record s { heap = u.heap; variables = with_variable s.variables var x.id } → Alike (Made p.block.address p.block.size) t (Made q.block.address q.block.size) u
  made-alike o x p q t u k n c v m e l d f y h g = (subst (λ z. AreOneAnswer (Made p.block.address p.block.size) (Made q.block.address z)) size AreOneAnswer.made, state)
    where
      size : p.block.size ≡ q.block.size
      size = sizes-same o x p q t.heap u.heap k n c m l d f h

      state : Made p.block.address p.block.size ≡ Made q.block.address q.block.size → t ≡ u
      state same =
          let found = made-one program layouts s.heap o x p q t.heap u.heap m h (same-address p.block.address q.block.address p.block.size q.block.size same) size (k ∙ sym l) (n ∙ sym d) (c ∙ sym f) (one o.value x.value v y) in
          e ∙ ap (λ z. let made : State = record s { heap = z; variables = with_variable s.variables var o.id } in made) found.0
          ∙ ap (λ i. let made : State = record s { heap = u.heap; variables = with_variable s.variables var i } in made) found.1 ∙ sym g

  pub binds-alike : (a b : Answer) (t u : State) → Binds program layouts s var w contents a t → Binds program layouts s var w contents b u → Alike a t b u
  binds-alike a b t u (Binds.too_many full) (Binds.too_many more) = (AreOneAnswer.same, λ e. refl)
  binds-alike a b t u (Binds.too_many full) (Binds.full free needs round none) = absurd (free full)
  binds-alike a b t u (Binds.too_many full) (Binds.made free k n c v m e) = absurd (free full)
  binds-alike a b t u (Binds.full free needs round none) (Binds.too_many full) = absurd (free full)
  binds-alike a b t u (Binds.full {bytes} {need} free needs round none) (Binds.full {bytes = ys} {need = size} more takes found no_room) =
      let same : bytes ≡ ys = needs-one program layouts settled laid w.kind w.count w.capacity bytes ys may needs takes in
      let sizes : need ≡ size = some-same (rounded ys) need size (subst (λ x. rounded x ≡ Some need) same round) found in
      (subst (λ x. AreOneAnswer (Refused (Full need)) (Refused (Full x))) sizes AreOneAnswer.same, λ e. refl)
  binds-alike a b t u (Binds.full {bytes} {need} free needs round none) (Binds.made {o} {placed} {t = made} more k n c v m e) = absurd (full-made o placed made.heap bytes need k n c m needs round none)
  binds-alike a b t u (Binds.made free k n c v m e) (Binds.too_many full) = absurd (free full)
  binds-alike a b t u (Binds.made {o} {placed} {t = made} more k n c v m e) (Binds.full {bytes} {need} free needs round none) = absurd (full-made o placed made.heap bytes need k n c m needs round none)
  binds-alike a b t u (Binds.made {o} {placed} {t = x} free k n c v m e) (Binds.made {o = p} {placed = there} {t = y} more l d f z h g) = made-alike o p placed there x y k n c v m e l d f z h g
