-- Get has one answer and one next state, and so has print.
use Rattle.std.proofs.Common.{◌≡◌, ℕ, ℤ, List, refl, ap, sym, subst, Some}
use Rattle.gt_types.specs.declared.types.Ty.{Ty}
use Rattle.gt_types.specs.declared.program.Program.{Program}
use Rattle.gt_script.specs.declared.command.Route.{Route}
use Rattle.gt_tree.specs.Trees.{Tree, Null, To}
use Rattle.gt_tree.specs.Scopes.{typed}
use Rattle.gt_tree.proofs.PathBits.{some-same}
use Rattle.gt_value.specs.declared.places.LeafContent.TheVariants as content
use Rattle.gt_value.specs.Places.{IsContentOf}
use Rattle.gt_show.specs.Shown.{TextIsOne}
use Rattle.gt_show.specs.BlockTexts.{BlockTextIsOne}
use Rattle.gt_graph.specs.Objects.{Object, blocks_of, elements_in}
use Rattle.gt_next.specs.declared.answer.Answer.{Answer}
use Rattle.gt_next.specs.declared.answer.Answer.TheVariants.{Shown, Refused}
use Rattle.gt_next.specs.declared.answer.Why.{Why}
use Rattle.gt_next.specs.States.{State}
use Rattle.gt_next.specs.Spots.{Spot, Standing, Whole, Value, standing_at}
use Rattle.gt_next.specs.Paths.{Leads, RefusesPath}
use Rattle.gt_next.specs.Leaves.{Got, IsNumber, IsNull, IsObject, Reads}
use Rattle.gt_next.specs.Next.{Answers, NextGet, ShowsStanding, NextPrint}
use Rattle.gt_determined.proofs.Outcomes.{one-end, one-stop, never-both}
use Rattle.gt_determined.proofs.PathEnds.{PathEnds}
use Rattle.gt_determined.proofs.Numbers.{number-same}

-- ---- what is read

reads-number : (type : Ty) (tree : Tree) (n : ℤ) (got : Got) → IsContentOf (content.Num n) tree → Reads (Value (typed type tree)) got → got ≡ IsNumber n
reads-number type tree n got c (Reads.number {n = m} d) = ap IsNumber (number-same tree m n d c)
reads-number type tree n got c Reads.null = absurd c
reads-number type tree n got c Reads.pointed = absurd c

reads-null : (type : Ty) (got : Got) → Reads (Value (typed type Null)) got → got ≡ IsNull
reads-null type got (Reads.number d) = absurd d
reads-null type got Reads.null = refl

reads-to : (type : Ty) (id : ℕ) (got : Got) → Reads (Value (typed type (To id))) got → got ≡ IsObject id
reads-to type id got (Reads.number d) = absurd d
reads-to type id got Reads.pointed = refl

reads-whole : (o : Object) (got : Got) → Reads (Whole o) got → got ≡ IsObject o.id
reads-whole o got Reads.whole = refl

reads-one : {what : Standing} {got : Got} → Reads what got → (other : Got) → Reads what other → other ≡ got
reads-one (Reads.number {type} {tree} {n} c) other r = reads-number type tree n other c r
reads-one (Reads.null {type}) other r = reads-null type other r
reads-one (Reads.pointed {type} {id}) other r = reads-to type id other r
reads-one (Reads.whole {o}) other r = reads-whole o other r

answers-one : (s : State) (var : List ℕ) (got : Got) (t u : State) (a b : Answer) → Answers s var got a t → Answers s var got b u → (a ≡ b) × (t ≡ u)
answers-one s var got t u a b Answers.a_number Answers.a_number = (refl, refl)
answers-one s var got t u a b Answers.a_null Answers.a_null = (refl, refl)
answers-one s var got t u a b (Answers.too_many full) (Answers.too_many more) = (refl, refl)
answers-one s var got t u a b (Answers.too_many full) (Answers.an_object free) = absurd (free full)
answers-one s var got t u a b (Answers.an_object free) (Answers.too_many full) = absurd (free full)
answers-one s var got t u a b (Answers.an_object free) (Answers.an_object more) = (refl, refl)

-- ---- get

module _ (program : Program) (s : State) (path : Route) (e : PathEnds program s path) where
  refused-one : (why other : Why) → RefusesPath program s path why → RefusesPath program s path other → Refused why ≡ Refused other
  refused-one why other r q = ap Refused (one-stop e why other r q)

  -- what stands at the end of a path
  what-one : (at other : Spot) (what also : Standing) → Leads program s path at → Leads program s path other → standing_at program s.heap.graph at ≡ Some what → standing_at program s.heap.graph other ≡ Some also → also ≡ what
  what-one at other what also l m h k = some-same (standing_at program s.heap.graph at) also what (subst (λ x. standing_at program s.heap.graph x ≡ Some also) (one-end e other at m l) k) h

  pub get-one : (var : List ℕ) (t u : State) (a b : Answer) → NextGet program s var path a t → NextGet program s var path b u → (a ≡ b) × (t ≡ u)
  get-one var t u a b (NextGet.refused {why} r) (NextGet.refused {why = other} q) = (refused-one why other r q, refl)
  get-one var t u a b (NextGet.refused {why} r) (NextGet.no_leaf {at} l st none) = absurd (never-both e at why l r)
  get-one var t u a b (NextGet.refused {why} r) (NextGet.reads {at} l st rd an) = absurd (never-both e at why l r)
  get-one var t u a b (NextGet.no_leaf {at} l st none) (NextGet.refused {why} r) = absurd (never-both e at why l r)
  get-one var t u a b (NextGet.no_leaf l st none) (NextGet.no_leaf m sp no_more) = (refl, refl)
  get-one var t u a b (NextGet.no_leaf {at} {what} l st none) (NextGet.reads {at = other} {what = also} {got} m sp rd an) =
      absurd (none got (subst (λ w. Reads w got) (what-one at other what also l m st sp) rd))
  get-one var t u a b (NextGet.reads {at} l st rd an) (NextGet.refused {why} r) = absurd (never-both e at why l r)
  get-one var t u a b (NextGet.reads {at} {what} {got} l st rd an) (NextGet.no_leaf {at = other} {what = also} m sp none) =
      absurd (none got (subst (λ w. Reads w got) (sym (what-one at other what also l m st sp)) rd))
  get-one var t u a b (NextGet.reads {at} {what} {got} {answer} {t = x} l st rd an) (NextGet.reads {at = other} {what = also} {got = gets} {answer = answers} {t = y} m sp rf ao) =
      let same : gets ≡ got = reads-one rd gets (subst (λ w. Reads w gets) (what-one at other what also l m st sp) rf) in
      answers-one s var got x y answer answers an (subst (λ w. Answers s var w answers y) same ao)

  -- ---- print

  module _ (values : TextIsOne program) (blocks : BlockTextIsOne program) where
    text-one : (what : Standing) (text other : List ℕ) → ShowsStanding program s.heap.graph.objects what text → ShowsStanding program s.heap.graph.objects what other → text ≡ other
    text-one what text other (ShowsStanding.a_value {t} {text = x} h) (ShowsStanding.a_value {text = y} k) = values (blocks_of s.heap.graph.objects) t.type t.value x y h k
    text-one what text other (ShowsStanding.a_block {o} {text = x} h) (ShowsStanding.a_block {text = y} k) = blocks (blocks_of s.heap.graph.objects) o.kind (elements_in o.value) x y h k

    pub print-one : (t u : State) (a b : Answer) → NextPrint program s path a t → NextPrint program s path b u → (a ≡ b) × (t ≡ u)
    print-one t u a b (NextPrint.refused {why} r) (NextPrint.refused {why = other} q) = (refused-one why other r q, refl)
    print-one t u a b (NextPrint.refused {why} r) (NextPrint.shows {at} l st sh) = absurd (never-both e at why l r)
    print-one t u a b (NextPrint.shows {at} l st sh) (NextPrint.refused {why} r) = absurd (never-both e at why l r)
    print-one t u a b (NextPrint.shows {at} {what} {text} l st sh) (NextPrint.shows {at = other} {what = also} {text = texts} m sp si) =
        (ap Shown (text-one what text texts sh (subst (λ w. ShowsStanding program s.heap.graph.objects w texts) (what-one at other what also l m st sp) si)), refl)
