-- What set answers, and what it leaves.
use Rattle.std.proofs.Common.{◌≡◌, ◌<◌, ◌-◌, ◌^◌, ◌/◌, ℕ, zero, suc, Bool, true, false, List, refl, ap, arith, sym, subst, ◌∙◌, Option, Some, inl, inr, IsTrue}
use Rattle.std.specs.Prelude.{ℤ, not, All, replicate}
use Rattle.std.specs.Int.{byte_at, bytes_low_first}
use Rattle.std.proofs.lemmas.List.Elements.{All-nil, All-cons}
use Rattle.std.proofs.lemmas.Nat.{mod_below}
use Rattle.gt_space.specs.Range.{Range, with_bytes}
use Rattle.gt_tree.specs.Numbers.{two's_complement}
use Rattle.gt_tree.specs.Leaves.{bit_of}
use Rattle.gt_tree.specs.FixedLaws.{bit_in}
use Rattle.gt_store.specs.Writing.{Writes as Puts}
use Rattle.gt_store.proofs.BitLemmas.{writes-number}
use Rattle.gt_types.specs.declared.types.Ty.TheVariants as ty
use Rattle.gt_script.specs.declared.command.Command.{Command}
use Rattle.gt_script.specs.declared.command.Command.TheVariants as command
use Rattle.gt_io.specs.Held.{Held}
use Rattle.gt_types.specs.declared.types.Ty.{Ty}
use Rattle.gt_types.specs.declared.program.Program.{Program}
use Rattle.gt_types.specs.Shapes.{is_pointer}
use Rattle.gt_script.specs.declared.command.Given.{Given}
use Rattle.gt_script.specs.declared.command.Given.TheVariants as given
use Rattle.gt_script.specs.declared.command.Route.{Route}
use Rattle.gt_tree.specs.Trees.{Tree, Num, Null, To, Raw}
use Rattle.gt_tree.specs.Scopes.{Typed}
use Rattle.gt_tree.proofs.PathBits.{some-same}
use Rattle.gt_value.specs.declared.places.LeafContent.{LeafContent}
use Rattle.gt_value.specs.declared.places.LeafContent.TheVariants as content
use Rattle.gt_graph.specs.Objects.{Object, Graph, object_of}
use Rattle.gt_graph.specs.Changes.{Owner, Writes}
use Rattle.gt_objects.specs.declared.objects.Objects.{Objects}
use Rattle.gt_next.specs.declared.answer.Answer.TheVariants.{Done, Refused}
use Rattle.gt_next.specs.declared.answer.Why.{Why}
use Rattle.gt_next.specs.declared.answer.Why.TheVariants.{WrongType, OutOfRange, Inactive, Shape}
use Rattle.gt_next.specs.States.{State, meaning}
use Rattle.gt_next.specs.Spots.{Spot, spot, Value, standing_at}
use Rattle.gt_next.specs.Paths.{Leads}
use Rattle.gt_next.specs.Leaves.{takes_numbers, is_in_range, Suits, IsBeyond, IsLeaf, IsUnboundValue, RefusesValue}
use Rattle.gt_next.specs.Next.{NextSet}
use Rattle.gt_next.specs.Laws.{IsCollection}
use Rattle.gt_determined.specs.Staying.{StaysGoodUncollected}
use Rattle.gt_session.specs.declared.session.Session.{Session}
use Rattle.gt_session.specs.Sessions.{StandsFor}
use Rattle.gt_writes.specs.SpotWrites.{LeafSuits, IsTreeOf, SpotTakes, IsWrittenAt}
use Rattle.gt_routes.proofs.SpotParts.{value-same}
use Rattle.gt_asking.specs.Judging.{is_beyond, SuitsAs, IsGivenAs, RefusesLeaf, RefusesAim}

none-bound : (s : State) (value : Given) (leaf : LeafContent) → IsUnboundValue s value → IsGivenAs s value leaf → ⊥
none-bound s value leaf (IsUnboundValue.unbound none) (id, m, e) = cc

pub bound-given : (s : State) (value : Given) (leaf : LeafContent) → IsGivenAs s value leaf → ¬ IsUnboundValue s value
bound-given s value leaf is none = none-bound s value leaf none is

suits-from : (s : State) (type : Ty) (value : Given) (leaf : LeafContent) → IsGivenAs s value leaf → SuitsAs s.heap.graph.objects type leaf → Suits s.heap.graph.objects s.variables type value
suits-from s type (given.Integer n) leaf e h = Suits.a_number (subst (SuitsAs s.heap.graph.objects type) e h)
suits-from s type given.Null leaf e h = Suits.null (subst (SuitsAs s.heap.graph.objects type) e h)
suits-from s type (given.Var name) leaf (id, m, e) h = let o = subst (SuitsAs s.heap.graph.objects type) e h in Suits.a_variable m o.1 o.2

suits-to : (s : State) (type : Ty) (value : Given) (leaf : LeafContent) → Suits s.heap.graph.objects s.variables type value → IsGivenAs s value leaf → SuitsAs s.heap.graph.objects type leaf
suits-to s type value leaf (Suits.a_number h) e = subst (SuitsAs s.heap.graph.objects type) (sym e) h
suits-to s type value leaf (Suits.null h) e = subst (SuitsAs s.heap.graph.objects type) (sym e) h
suits-to s type value leaf (Suits.a_variable {name} {id = other} {o} n there names) (id, m, e) =
    let ids : other ≡ id = some-same (meaning s.variables name) other id n m in
    subst (SuitsAs s.heap.graph.objects type) (sym e) (o, subst (λ i. object_of s.heap.graph.objects i ≡ Some o) ids there, names)

false-of : (b : Bool) → not b ≡ true → b ≡ false
false-of true e = absurd (cc)
false-of false e = refl

beyond-from : (s : State) (type : Ty) (value : Given) (leaf : LeafContent) → IsGivenAs s value leaf → SuitsAs s.heap.graph.objects type leaf → is_beyond type leaf ≡ true → IsBeyond type value
beyond-from s type (given.Integer n) leaf e h b = IsBeyond.beyond (subst (SuitsAs s.heap.graph.objects type) e h) (false-of (is_in_range type n) (sym (ap (is_beyond type) e) ∙ b))
beyond-from s type given.Null leaf e h b = let none : is_beyond type content.Null ≡ true = sym (ap (is_beyond type) e) ∙ b in absurd (cc)
beyond-from s type (given.Var name) leaf (id, m, e) h b = let none : is_beyond type (content.To id) ≡ true = sym (ap (is_beyond type) e) ∙ b in absurd (cc)

module _ (program : Program) (s : State) (at : Spot) (value : Given) (leaf : LeafContent) (is : IsGivenAs s value leaf) where
  value-refused : (why : Why) → RefusesLeaf program s.heap at leaf why → RefusesValue program s at value why
  value-refused Inactive h = RefusesValue.idle h
  value-refused WrongType (n, m) = RefusesValue.not_suited n (λ su. m (su.0, su.1, suits-to s su.0.type value leaf su.2 is, su.3))
  value-refused OutOfRange (n, (x, there, su, open_to), t, st, b) =
      let same : x ≡ t = value-same x t (some-same (standing_at program s.heap.graph at) (Value x) (Value t) there st) in
      let suits = subst (λ (u : Typed). SuitsAs s.heap.graph.objects u.type leaf) same su in
      RefusesValue.beyond n (x, there, suits-from s x.type value leaf is su, open_to) st (beyond-from s t.type value leaf is suits b)
  value-refused why h = absurd h

pub set-refused : (program : Program) (s : State) (path : Route) (value : Given) (leaf : LeafContent) (why : Why) → IsGivenAs s value leaf → RefusesAim program s path leaf why → NextSet program s path value (Refused why) s
set-refused program s path value leaf why is (inl r) = NextSet.refused (bound-given s value leaf is) r
set-refused program s path value leaf why is (inr (at, leads, h)) = NextSet.value_refused (bound-given s value leaf is) leads (value-refused program s at value leaf is why h)

-- ---- a leaf that is written

-- eight bytes of a number
small_byte : (i n : ℕ) → byte_at i n < 256
small_byte zero n = mod_below n 256 (omega arith)
small_byte (suc i) n = mod_below (n / 256 ^ suc i) 256 (omega arith)

small_bytes : (i k n : ℕ) → All (λ byte. byte < 256) (bytes_low_first i k n)
small_bytes i zero n = All-nil (λ byte. byte < 256)
small_bytes i (suc k) n = All-cons (λ byte. byte < 256) (byte_at i n) (bytes_low_first (suc i) k n) (small_byte i n) (small_bytes (suc i) k n)

abbrev zeros : Range
zeros = record { start = 0; bytes = replicate 8 0 }

abbrev put : ℕ → Range
put n = with_bytes zeros 0 (bytes_low_first 0 8 n)

put_writes : (n : ℕ) → Puts 0 64 n zeros (put n)
put_writes n = writes-number zeros 0 8 n refl (omega arith) (put n) refl (record { start = refl; len = refl })

word_bits : (n i : ℕ) → i < 64 → bit_of n i ≡ bit_in (bytes_low_first 0 8 n) i
word_bits n i low =
    let back : i ≡ i - 0 = omega arith in
    ap (bit_of n) back ∙ sym ((put_writes n).inside i (omega arith) low)

-- a leaf that suits a type is some value of it
number-tree : (type : Ty) (n : ℤ) → takes_numbers type ≡ true → is_in_range type n ≡ true → (tree : Tree) × IsTreeOf type (content.Num n) tree
number-tree (ty.Opaque size align) n takes range =
    (Raw (bytes_low_first 0 8 (two's_complement 64 n)), IsTreeOf.word takes (refl, range, word_bits (two's_complement 64 n)) (small_bytes 0 8 (two's_complement 64 n)))
number-tree (ty.Num scalar) n takes range = (Num n, IsTreeOf.number refl)
number-tree (ty.Bits unit width) n takes range = (Num n, IsTreeOf.number refl)
number-tree type n takes range = absurd (cc)

tree-there : (objects : List Object) (type : Ty) (leaf : LeafContent) → LeafSuits objects type leaf → (tree : Tree) × IsTreeOf type leaf tree
tree-there objects type leaf (LeafSuits.number {n} takes range) = number-tree type n takes range
tree-there objects type leaf (LeafSuits.null p) = (Null, IsTreeOf.null)
tree-there objects type leaf (LeafSuits.to {id} there names) = (To id, IsTreeOf.to)

number-is : (s : State) (type : Ty) (n : ℤ) (tree : Tree) → IsTreeOf type (content.Num n) tree → IsLeaf s.variables type (given.Integer n) tree
number-is s type n tree (IsTreeOf.number h) = IsLeaf.a_number h
number-is s type n tree (IsTreeOf.word h c small) = IsLeaf.a_word h c small

null-is : (s : State) (type : Ty) (tree : Tree) → IsTreeOf type content.Null tree → IsLeaf s.variables type given.Null tree
null-is s type tree IsTreeOf.null = IsLeaf.null

to-is : (s : State) (type : Ty) (name : List ℕ) (id : ℕ) (tree : Tree) → meaning s.variables name ≡ Some id → IsTreeOf type (content.To id) tree → IsLeaf s.variables type (given.Var name) tree
to-is s type name id tree m IsTreeOf.to = IsLeaf.a_variable m

leaf-is : (s : State) (type : Ty) (value : Given) (leaf : LeafContent) (tree : Tree) → IsGivenAs s value leaf → IsTreeOf type leaf tree → IsLeaf s.variables type value tree
leaf-is s type (given.Integer n) leaf tree e t = number-is s type n tree (subst (λ l. IsTreeOf type l tree) e t)
leaf-is s type given.Null leaf tree e t = null-is s type tree (subst (λ l. IsTreeOf type l tree) e t)
leaf-is s type (given.Var name) leaf tree (id, m, e) t = to-is s type name id tree m (subst (λ l. IsTreeOf type l tree) e t)

suits-leaf : (objects : List Object) (type : Ty) (leaf : LeafContent) → LeafSuits objects type leaf → SuitsAs objects type leaf × (is_beyond type leaf ≡ false)
suits-leaf objects type leaf (LeafSuits.number takes range) = (takes, ap not range)
suits-leaf objects type leaf (LeafSuits.null p) = (p, refl)
suits-leaf objects type leaf (LeafSuits.to {o} there names) = ((o, there, names), refl)

module _ (program : Program) (s : State) (at : Spot) (value : Given) (leaf : LeafContent) (is : IsGivenAs s value leaf) (takes : SpotTakes program s.heap.graph at leaf) where
  at-t : (t : Typed) → standing_at program s.heap.graph at ≡ Some (Value t) → t ≡ takes.t
  at-t t e = value-same t takes.t (some-same (standing_at program s.heap.graph at) (Value t) (Value takes.t) e takes.standing)

  not-beyond : (type : Ty) (v : Given) → IsBeyond type v → IsGivenAs s v leaf → is_beyond type leaf ≡ false → ⊥
  not-beyond type v (IsBeyond.beyond {n} t past) e low =
      let high : is_beyond type (content.Num n) ≡ true = ap not past in
      let same : is_beyond type leaf ≡ true = ap (is_beyond type) e ∙ high in
      cc

  never-refused : (why : Why) → ¬ RefusesValue program s at value why
  never-refused why (RefusesValue.idle (t, st, pointer, none)) = takes.not_idle (subst (λ (u : Typed). IsTrue (is_pointer u.type)) (at-t t st) pointer) none
  never-refused why (RefusesValue.not_suited n m) =
      m (takes.t, takes.standing, suits-from s takes.t.type value leaf is (suits-leaf s.heap.graph.objects takes.t.type leaf takes.suits).0, λ fixed. takes.no_string fixed.0 fixed.1 fixed.2 fixed.3 fixed.4)
  never-refused why (RefusesValue.beyond {t} n su st past) =
      not-beyond takes.t.type value (subst (λ (u : Typed). IsBeyond u.type value) (at-t t st) past) is (suits-leaf s.heap.graph.objects takes.t.type leaf takes.suits).1

  pub shape-answer : (path : Route) → Leads program s path at → ((t : Typed) (tree : Tree) (g : Graph) → standing_at program s.heap.graph at ≡ Some (Value t) → IsTreeOf t.type leaf tree → ¬ Writes program s.heap.graph at.owner at.path tree g)
      → NextSet program s path value (Refused Shape) s
  shape-answer path leads misfits =
      let tree = tree-there s.heap.graph.objects takes.t.type leaf takes.suits in
      NextSet.shape (bound-given s value leaf is) leads never-refused takes.standing (leaf-is s takes.t.type value leaf tree.0 is tree.1) (λ u w. misfits takes.t tree.0 w.0 takes.standing tree.1 w.1)

  pub write-answer : (path : Route) → Leads program s path at → (t : Typed) (tree : Tree) (g : Graph) → standing_at program s.heap.graph at ≡ Some (Value t) → IsTreeOf t.type leaf tree → Writes program s.heap.graph at.owner at.path tree g
      → NextSet program s path value Done (record s { heap = record s.heap { graph = g } })
  write-answer path leads t tree g st tree_is writes = NextSet.writes (bound-given s value leaf is) leads never-refused st (leaf-is s t.type value leaf tree is tree_is) (g, writes, refl)

-- ---- the session then

kept-pairs : {program : Program} {g h : Graph} {owner : Owner} {path : List ℕ} {leaf : Tree} → Writes program g owner path leaf h → h.pairs ≡ g.pairs
kept-pairs (Writes.in_statics a) = refl
kept-pairs (Writes.in_object e a) = refl

abbrev collects : Command → Bool
collects command.Collect = true
collects command.CollectForce = true
collects c = false

collection-is : (c : Command) → IsCollection c → collects c ≡ true
collection-is c IsCollection.collect = refl
collection-is c IsCollection.force = refl

set-plain : (path : Route) (value : Given) → ¬ IsCollection (command.Set path value)
set-plain path value h = let e = collection-is (command.Set path value) h in cc

pub written-session : (session : Session) (told : Option Held) (s : State) → StandsFor session told s → StaysGoodUncollected session.schema.program session.schema.layouts → (path : Route) (value : Given) (leaf : LeafContent) (owner : Owner) (places : List ℕ) (new : Objects)
    → IsGivenAs s value leaf → SpotTakes session.schema.program s.heap.graph (spot owner places) leaf → Leads session.schema.program s path (spot owner places) → IsWrittenAt session.schema.program session.schema.layouts s.heap owner places leaf new
    → (t : State) × NextSet session.schema.program s path value Done t × StandsFor (record session { objects = new }) told t
written-session session told s st stays path value leaf owner places new is takes leads w =
    let h = st.holds in
    let g = w.written.graph in
    let t : State = record s { heap = record s.heap { graph = g } } in
    let next : NextSet session.schema.program s path value Done t = write-answer session.schema.program s (spot owner places) value leaf is takes path leads w.t w.tree g w.standing w.is w.written.writes in (
      t,
      next,
      record {
        holds = record {
          schema = h.schema;
          heap = w.written.holds;
          pairs = kept-pairs w.written.writes ∙ h.pairs;
          variables = h.variables;
          min_expand = h.min_expand;
          min_heapsize = h.min_heapsize;
          last = h.last;
          rounds = h.rounds;
          files = h.files;
        };
        good = stays s t (command.Set path value) Done st.good tt (set-plain path value) next;
      },
    )
