-- Single structures, with room at their end or without.
use Rattle.std.proofs.Common.{◌≡◌, ◌<◌, ◌*◌, ℕ, ℤ, Bool, true, false, List, Option, Some, None, refl, sym, subst, arith, pos}
use Rattle.std.specs.Prelude.{option_map}
use Rattle.std.specs.Bool.{Decides}
use Rattle.gt_types.specs.declared.types.TypeId.{TypeId}
use Rattle.gt_types.specs.declared.program.Program.{Program}
use Rattle.gt_types.specs.Tails.{IsTailType}
use Rattle.gt_types.specs.Settled.{Settled}
use Rattle.gt_layout.specs.declared.planes.Layouts.{Layouts}
use Rattle.gt_layout.specs.Planes.{IsLaidOut}
use Rattle.gt_script.specs.declared.command.TypeName.{TypeName}
use Rattle.gt_tree.specs.Trees.{Tree}
use Rattle.gt_tree.specs.Blocks.{Nodes}
use Rattle.gt_tree.specs.FixedLaws.{MayHold}
use Rattle.gt_tree.proofs.Sizes.{sizes-one}
use Rattle.gt_graph.specs.Good.{IsOfTails}
use Rattle.gt_held.proofs.SomeBytes.{tail-size}
use Rattle.gt_next.specs.declared.answer.Answer.{Answer}
use Rattle.gt_next.specs.Kinds.{NamesNodes}
use Rattle.gt_next.specs.Making.{HasCapacity, IsMisshapen, IsNegative, IsTooLarge, NextNew, Wanted, wanted, zeros}
use Rattle.gt_next.specs.States.{State}
use Rattle.gt_making.specs.Binding.{MakesSingle, is_shaped, room_of}
use Rattle.gt_making.proofs.Asked.{not-negative}

module _ (program : Program) (node : TypeId) where
  pub has-room : (tail : Bool) (number : Option ℕ) → Decides tail (IsTailType program node) → HasCapacity program node (option_map pos number) (room_of tail number)
  has-room true (Some n) decides = HasCapacity.given (decides.0 refl)
  has-room false (Some n) decides = HasCapacity.no_tail (λ of. let yes = decides.1 of in cc)
  has-room true None decides = HasCapacity.none_given
  has-room false None decides = HasCapacity.none_given

  -- one of no tail type has no room
  pub no-room : (tail : Bool) (number : Option ℕ) → Decides tail (IsTailType program node) → ¬ IsOfTails program (Nodes node) → room_of tail number ≡ 0
  no-room true number decides plain = absurd (plain (node, refl, decides.0 refl))
  no-room false None decides plain = refl
  no-room false (Some n) decides plain = refl

  pub misshapen : (s : State) (w : Wanted) (tail : Bool) (number : Option ℕ) → Decides tail (IsTailType program node) → is_shaped tail number ≡ false → IsMisshapen program s node w (option_map pos number)
  misshapen s w true None decides is = IsMisshapen.no_number (decides.0 refl)
  misshapen s w true (Some n) decides is = absurd (cc)
  misshapen s w false None decides is = absurd (cc)
  misshapen s w false (Some n) decides is = IsMisshapen.no_tail (λ of. let yes = decides.1 of in cc)

  shaped-some : (s : State) (w : Wanted) (z : ℤ) → IsTailType program node → (value : Tree) → zeros program s w value → ¬ IsMisshapen program s node w (Some z)
  shaped-some s w z tail value zero (IsMisshapen.no_tail never) = never tail
  shaped-some s w z tail value zero (IsMisshapen.no_zero never) = never value zero

  shaped-none : (s : State) (w : Wanted) → ¬ IsTailType program node → (value : Tree) → zeros program s w value → ¬ IsMisshapen program s node w None
  shaped-none s w plain value zero (IsMisshapen.no_number tail) = plain tail
  shaped-none s w plain value zero (IsMisshapen.no_zero never) = never value zero

  pub well-shaped : (s : State) (w : Wanted) (tail : Bool) (number : Option ℕ) → Decides tail (IsTailType program node) → is_shaped tail number ≡ true → (value : Tree) → zeros program s w value
      → ¬ IsMisshapen program s node w (option_map pos number)
  well-shaped s w true None decides is = absurd (cc)
  well-shaped s w true (Some n) decides is = shaped-some s w (pos n) (decides.0 refl)
  well-shaped s w false None decides is = shaped-none s w (λ of. let yes = decides.1 of in cc)
  well-shaped s w false (Some n) decides is = absurd (cc)

  module _ (layouts : Layouts) (settled : Settled program) (laid : IsLaidOut program layouts) (may : MayHold program (Nodes node)) where
    -- room for more elements than fit 32 bits is too large for a block
    pub far : (tail : Bool) (number : Option ℕ) → Decides tail (IsTailType program node) → 4294967295 < room_of tail number → IsTooLarge program layouts (wanted (Nodes node) 1 (room_of tail number))
    far true (Some n) decides large =
        let one = sizes-one program layouts settled laid n node may.0 may.1 in
        let least = tail-size program settled layouts.structures laid.structures n node (decides.0 refl) one.0 one.1 in
        (1 * one.0, (one.0, (one.0, one.1, refl), refl), omega (arith, least, large))
    far true None decides large = absurd (omega (arith, large))
    far false None decides large = absurd (omega (arith, large))
    far false (Some n) decides large = absurd (omega (arith, large))

  -- what is made of a type that is named, and of a number that is not negative
  pub as-new : (layouts : Layouts) (s : State) (var : List ℕ) (type : TypeName) (n : Option ℤ) (t : State) (answer : Answer) → NamesNodes program type node → ((number : ℤ) → n ≡ Some number → ¬ IsNegative number)
      → MakesSingle program layouts s var node n answer t → NextNew program layouts s var type n answer t
  as-new layouts s var type n t answer names natural (MakesSingle.too_large room large) = NextNew.too_large names natural room large
  as-new layouts s var type n t answer names natural (MakesSingle.shape room small shape) = NextNew.shape names natural room small shape
  as-new layouts s var type n t answer names natural (MakesSingle.binds room small shape binds) = NextNew.binds names natural room small shape binds

  pub none-given : (layouts : Layouts) (s : State) (var : List ℕ) (type : TypeName) (n : Option ℤ) (t : State) (answer : Answer) → NamesNodes program type node → n ≡ None
      → MakesSingle program layouts s var node None answer t → NextNew program layouts s var type n answer t
  none-given layouts s var type n t answer names is made =
      subst (λ m. NextNew program layouts s var type m answer t) (sym is) (as-new layouts s var type None t answer names (λ number e. absurd (cc)) made)

  pub one-given : (layouts : Layouts) (s : State) (var : List ℕ) (type : TypeName) (n : Option ℤ) (t : State) (answer : Answer) → NamesNodes program type node → (count : ℕ) → n ≡ Some (pos count)
      → MakesSingle program layouts s var node (Some (pos count)) answer t → NextNew program layouts s var type n answer t
  one-given layouts s var type n t answer names count is made =
      subst (λ m. NextNew program layouts s var type m answer t) (sym is)
      (as-new layouts s var type (Some (pos count)) t answer names (λ number e. not-negative number count (same-inside number (pos count) e)) made)
    where
      same-inside : (a b : ℤ) → Some b ≡ Some a → a ≡ b
      same-inside a b e = cc
