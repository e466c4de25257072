-- `set` has an answer.
use Rattle.std.proofs.Common.{◌≡◌, ℕ, Bool, true, false, IsTrue, List, refl, ap, sym, ◌∙◌, inl, inr, Some}
use Rattle.std.specs.Prelude.{ℤ, ◌||◌}
use Rattle.std.specs.Int.{bytes_low_first}
use Rattle.gt_types.specs.declared.types.Ty.{Ty}
use Rattle.gt_types.specs.declared.types.Ty.TheVariants as ty
use Rattle.gt_types.specs.declared.program.Program.{Program}
use Rattle.gt_types.specs.Shapes.{is_number}
use Rattle.gt_script.specs.declared.command.Route.{Route}
use Rattle.gt_script.specs.declared.command.Given.{Given}
use Rattle.gt_script.specs.declared.command.Given.TheVariants as given
use Rattle.gt_tree.specs.Numbers.{two's_complement}
use Rattle.gt_tree.specs.Trees.{Tree, Num, Null, To, Raw}
use Rattle.gt_tree.specs.Scopes.{Typed}
use Rattle.gt_graph.specs.Objects.{Object}
use Rattle.gt_next.specs.declared.answer.Why.{Why}
use Rattle.gt_next.specs.declared.answer.Why.TheVariants.{WrongType, OutOfRange, Inactive}
use Rattle.gt_next.specs.States.{State, Variables}
use Rattle.gt_next.specs.Spots.{Spot, Value, standing_at}
use Rattle.gt_next.specs.Paths.{Leads}
use Rattle.gt_next.specs.Leaves.{is_word_type, takes_numbers, is_in_range, Suits, IsBeyond, IsLeaf, IsUnboundValue, IsIdlePointer, IsSuited, RefusesValue}
use Rattle.gt_next.specs.Next.{WritesAt, NextSet}
use Rattle.gt_total.proofs.Splits.{Never, split}
use Rattle.gt_total.proofs.Getting.{PathEnds}
use Rattle.gt_total.proofs.Words.{small_bytes, word_bits}

-- ---- leaves

-- some tree is what the value is as a leaf
abbrev SomeLeaf : Variables → Ty → Given → Type 0
SomeLeaf variables type value = (leaf : Tree) × IsLeaf variables type value leaf

word_leaf : (variables : Variables) (type : Ty) (n : ℤ) → is_word_type type ≡ true → is_in_range type n ≡ true → SomeLeaf variables type (given.Integer n)
word_leaf variables (ty.Opaque size align) n word room =
    let bits : ℕ = two's_complement 64 n in
    (Raw (bytes_low_first 0 8 bits), IsLeaf.a_word word (refl, room, λ i low. word_bits bits i low) (small_bytes 0 8 bits))
word_leaf variables type n word room = absurd (cc)

number_leaf : (variables : Variables) (type : Ty) (n : ℤ) (number room : Bool) → is_number type ≡ number → is_in_range type n ≡ room → IsTrue (takes_numbers type) → (¬ IsBeyond type (given.Integer n))
    → SomeLeaf variables type (given.Integer n)
number_leaf variables type n true room is in_range takes inside = (Num n, IsLeaf.a_number is)
number_leaf variables type n false true is in_range takes inside = word_leaf variables type n (sym (ap (λ b. b || is_word_type type) is) ∙ takes) in_range
number_leaf variables type n false false is in_range takes inside = absurd (inside (IsBeyond.beyond takes in_range))

some_leaf : (objects : List Object) (variables : Variables) {type : Ty} {value : Given} → Suits objects variables type value → (¬ IsBeyond type value) → SomeLeaf variables type value
some_leaf objects variables {type} (Suits.a_number {n} takes) inside = number_leaf variables type n (is_number type) (is_in_range type n) refl refl takes inside
some_leaf objects variables (Suits.null pointer) inside = (Null, IsLeaf.null)
some_leaf objects variables (Suits.a_variable {id} bound there named) inside = (To id, IsLeaf.a_variable bound)

-- ---- set

module _ (program : Program) (s : State) (path : Route) (value : Given) where
  module _ (bound : ¬ IsUnboundValue s value) (at : Spot) (way : Leads program s path at) (fine : (why : Why) → ¬ RefusesValue program s at value why) where
    with_leaf : (t : Typed) (leaf : Tree) → standing_at program s.heap.graph at ≡ Some (Value t) → IsLeaf s.variables t.type value leaf → ¬ Never (NextSet program s path value)
    with_leaf t leaf stands is = split {P = (u : State) × WritesAt program s at leaf u}
        (λ writes never. never _ _ (NextSet.writes bound way fine stands is writes.1))
        (λ none never. never _ _ (NextSet.shape bound way fine stands is (λ u writes. none (u, writes))))

    suited : (¬ IsIdlePointer program s at) → IsSuited program s at value → ¬ Never (NextSet program s path value)
    suited busy is never =
        let leaf = some_leaf s.heap.graph.objects s.variables is.2 (λ beyond. fine OutOfRange (RefusesValue.beyond busy is is.1 beyond)) in
        with_leaf is.0 leaf.0 is.1 leaf.1 never

    not_refused : ¬ Never (NextSet program s path value)
    not_refused = split {P = IsIdlePointer program s at}
        (λ idle never. fine Inactive (RefusesValue.idle idle))
        (λ busy. split {P = IsSuited program s at value} (λ is. suited busy is) (λ not never. fine WrongType (RefusesValue.not_suited busy not)))

  at_path : (¬ IsUnboundValue s value) → PathEnds program s path → ¬ Never (NextSet program s path value)
  at_path bound (inr (why, refused)) never = never _ _ (NextSet.refused bound refused)
  at_path bound (inl (at, what, way, stands)) never = split {P = (why : Why) × RefusesValue program s at value why}
      (λ refused never. never _ _ (NextSet.value_refused bound way refused.1))
      (λ fine. not_refused bound at way (λ why refused. fine (why, refused))) never

  pub some_set : PathEnds program s path → ¬ Never (NextSet program s path value)
  some_set ends = split {P = IsUnboundValue s value}
      (λ none never. never _ _ (NextSet.unbound none))
      (λ bound. at_path bound ends)
